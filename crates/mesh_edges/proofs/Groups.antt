-- Groups of neighbours with one key: the first group, and what all of them are together.
use mathlib.Core.Path.{◌≡◌, refl, sym, ap, ◌∙◌, subst}
use mathlib.Core.Bool.{Bool, true, false, cond}
use mathlib.Core.Logic.{◌⊎◌, inl, inr}
use mathlib.Core.List.{List, [], ◌∷◌, ◌++◌, append_assoc}
use Prim.Native.Nat.{ℕ, suc, ◌+◌, ◌-◌, ◌<◌, ◌≤◌}
use native.Mathlib.Omega.{arith}
use native.Mathlib.Numerals.{add-one}
use lib.Dec.{eqb}
use lib.ListN.{length, get_or, take, drop}
use lib.Seq.{drop-cons, drop-drop}
use Rattle.order.specs.Regions.{region}
use Rattle.order.proofs.Tests.{truth, eqb-true}
use Rattle.order.proofs.Sorted.{In}
use Rattle.mesh_edges.specs.Edges.{grow, groups_of}
use Rattle.mesh_edges.specs.InnerWords.{alike}

module _ (key : ℕ → ℕ) where
  pub alike-none : (x : ℕ) → alike key x [] ≡ 0
  unfolding alike
  alike-none x = refl

  pub alike-yes : (x y : ℕ) (ys : List ℕ) → eqb (key x) (key y) ≡ true → alike key x (y ∷ ys) ≡ suc (alike key x ys)
  unfolding alike
  alike-yes x y ys h = rw h

  pub alike-no : (x y : ℕ) (ys : List ℕ) → eqb (key x) (key y) ≡ false → alike key x (y ∷ ys) ≡ 0
  unfolding alike
  alike-no x y ys h = rw h

  pub alike_same : (x y : ℕ) → key x ≡ key y → (ys : List ℕ) → alike key x ys ≡ alike key y ys
  unfolding alike
  alike_same x y e [] = refl
  alike_same x y e (z ∷ ys) = rw (e, alike_same x y e ys)

  pub alike-le : (x : ℕ) (ys : List ℕ) → alike key x ys ≤ length ys
  alike-le x [] = omega (arith, alike-none x)
  alike-le x (y ∷ ys) = go (truth (eqb (key x) (key y))) (alike-le x ys)
    where
      go : (eqb (key x) (key y) ≡ true) ⊎ (eqb (key x) (key y) ≡ false) → alike key x ys ≤ length ys → alike key x (y ∷ ys) ≤ suc (length ys)
      go (inl h) r = omega (arith, alike-yes x y ys h)
      go (inr h) r = omega (arith, alike-no x y ys h)

  grow-yes : (x y : ℕ) (g : List ℕ) (gs : List (List ℕ)) → eqb (key x) (key y) ≡ true → grow key x ((y ∷ g) ∷ gs) ≡ (x ∷ y ∷ g) ∷ gs
  unfolding grow
  grow-yes x y g gs h = rw h

  grow-no : (x y : ℕ) (g : List ℕ) (gs : List (List ℕ)) → eqb (key x) (key y) ≡ false → grow key x ((y ∷ g) ∷ gs) ≡ (x ∷ []) ∷ (y ∷ g) ∷ gs
  unfolding grow
  grow-no x y g gs h = rw h

  groups_none : groups_of key [] ≡ []
  unfolding groups_of
  groups_none = refl

  groups_one : (x : ℕ) → groups_of key (x ∷ []) ≡ (x ∷ []) ∷ []
  unfolding groups_of grow
  groups_one x = refl

  groups_cons : (x : ℕ) (xs : List ℕ) → groups_of key (x ∷ xs) ≡ grow key x (groups_of key xs)
  unfolding groups_of
  groups_cons x xs = refl

  -- the first group, and the groups of the rest
  pub edge_first : (x : ℕ) (xs : List ℕ) → groups_of key (x ∷ xs) ≡ (x ∷ take (alike key x xs) xs) ∷ groups_of key (drop (alike key x xs) xs)
  edge_first x [] = rw (alike-none x, groups_none) (groups_one x)
  edge_first x (y ∷ ys) = go (truth (eqb (key x) (key y))) (edge_first y ys)
    where
      go : (eqb (key x) (key y) ≡ true) ⊎ (eqb (key x) (key y) ≡ false) → groups_of key (y ∷ ys) ≡ (y ∷ take (alike key y ys) ys) ∷ groups_of key (drop (alike key y ys) ys)
          → groups_of key (x ∷ y ∷ ys) ≡ (x ∷ take (alike key x (y ∷ ys)) (y ∷ ys)) ∷ groups_of key (drop (alike key x (y ∷ ys)) (y ∷ ys))
      go (inl h) e =
          rw (alike-yes x y ys h, alike_same x y (eqb-true (key x) (key y) h) ys)
          (groups_cons x (y ∷ ys) ∙ ap (grow key x) e ∙ grow-yes x y (take (alike key y ys) ys) (groups_of key (drop (alike key y ys) ys)) h)
      go (inr h) e =
          rw (alike-no x y ys h)
          (groups_cons x (y ∷ ys) ∙ ap (grow key x) e ∙ grow-no x y (take (alike key y ys) ys) (groups_of key (drop (alike key y ys) ys)) h ∙ ap (λ (gs : List (List ℕ)). (x ∷ []) ∷ gs) (sym e))

-- the group that begins at place p of a list
module _ (key : ℕ → ℕ) (l : List ℕ) (p : ℕ) (h : p < length l) where
  pub group_at : (q : ℕ) → q ≡ p + 1 + alike key (get_or l p 0) (drop (p + 1) l) → groups_of key (drop p l) ≡ region l p (q - p) ∷ groups_of key (drop q l)
  group_at q e =
      let x = get_or l p 0 in
      let r = alike key x (drop (p + 1) l) in
      let d : drop p l ≡ x ∷ drop (p + 1) l = drop-cons l p 0 h ∙ ap (λ (z : ℕ). x ∷ drop z l) (sym (add-one p)) in
      let u : q - p ≡ suc r = omega arith in
      let v : drop r (drop (p + 1) l) ≡ drop q l = drop-drop r (p + 1) l ∙ ap (λ (z : ℕ). drop z l) (sym e) in
      let g : region l p (q - p) ≡ x ∷ take r (drop (p + 1) l) = ap (λ (z : ℕ). take z (drop p l)) u ∙ ap (take (suc r)) d in
      ap (groups_of key) d ∙ edge_first key x (drop (p + 1) l) ∙ ap (λ (k : List ℕ). (x ∷ take r (drop (p + 1) l)) ∷ groups_of key k) v ∙ ap (λ (k : List ℕ). k ∷ groups_of key (drop q l)) (sym g)

-- all groups one after the other
abbrev pub joined : List (List ℕ) → List ℕ
joined [] = []
joined (g ∷ gs) = g ++ joined gs

pub joined-append : (a b : List (List ℕ)) → joined (a ++ b) ≡ joined a ++ joined b
joined-append [] b = refl
joined-append (g ∷ a) b = ap (λ (l : List ℕ). g ++ l) (joined-append a b) ∙ sym (append_assoc g (joined a) (joined b))

-- neighbours of a group have one key
abbrev pub Even : (ℕ → ℕ) → List ℕ → Type 0
Even key [] = Unit
Even key (x ∷ []) = Unit
Even key (x ∷ y ∷ g) = (key x ≡ key y) × Even key (y ∷ g)

abbrev pub Evens : (ℕ → ℕ) → List (List ℕ) → Type 0
Evens key [] = Unit
Evens key (g ∷ gs) = Even key g × Evens key gs

pub evens_after : (key : ℕ → ℕ) (a b : List (List ℕ)) → Evens key (a ++ b) → Evens key b
evens_after key [] b h = h
evens_after key (g ∷ a) b h = evens_after key a b h.1

module _ (key : ℕ → ℕ) where
  join-grow : (x : ℕ) (gs : List (List ℕ)) → joined (grow key x gs) ≡ x ∷ joined gs
  unfolding grow
  join-grow x [] = refl
  join-grow x ([] ∷ gs) = refl
  join-grow x ((y ∷ g) ∷ gs) = go (eqb (key x) (key y))
    where
      go : (b : Bool) → joined (cond b ((x ∷ y ∷ g) ∷ gs) ((x ∷ []) ∷ (y ∷ g) ∷ gs)) ≡ x ∷ y ∷ (g ++ joined gs)
      go true = refl
      go false = refl

  pub join-groups : (l : List ℕ) → joined (groups_of key l) ≡ l
  unfolding groups_of
  join-groups [] = refl
  join-groups (x ∷ l) = join-grow x (groups_of key l) ∙ ap (λ (r : List ℕ). x ∷ r) (join-groups l)

  even_grow : (x : ℕ) (gs : List (List ℕ)) → Evens key gs → Evens key (grow key x gs)
  unfolding grow
  even_grow x [] h = (tt, tt)
  even_grow x ([] ∷ gs) h = (tt, h.1)
  even_grow x ((y ∷ g) ∷ gs) h = go (eqb (key x) (key y)) refl
    where
      go : (b : Bool) → eqb (key x) (key y) ≡ b → Evens key (cond b ((x ∷ y ∷ g) ∷ gs) ((x ∷ []) ∷ (y ∷ g) ∷ gs))
      go true e = ((eqb-true (key x) (key y) e, h.0), h.1)
      go false e = (tt, h)

  pub even_groups : (l : List ℕ) → Evens key (groups_of key l)
  unfolding groups_of
  even_groups [] = tt
  even_groups (x ∷ l) = even_grow x (groups_of key l) (even_groups l)

-- keys that agree on the numbers of a list
module _ (k l : ℕ → ℕ) where
  pub alike-agree : (x : ℕ) (ys : List ℕ) → k x ≡ l x → ((y : ℕ) → In y ys → k y ≡ l y) → alike k x ys ≡ alike l x ys
  unfolding alike
  alike-agree x [] e h = refl
  alike-agree x (y ∷ ys) e h = rw (e, h y (inl refl), alike-agree x ys e (λ z i. h z (inr i)))

  grow-agree : (x : ℕ) (gs : List (List ℕ)) → k x ≡ l x → ((y : ℕ) → In y (joined gs) → k y ≡ l y) → grow k x gs ≡ grow l x gs
  unfolding grow
  grow-agree x [] e h = refl
  grow-agree x ([] ∷ gs) e h = refl
  grow-agree x ((y ∷ g) ∷ gs) e h = rw (e, h y (inl refl))

  pub groups_agree : (s : List ℕ) → ((y : ℕ) → In y s → k y ≡ l y) → groups_of k s ≡ groups_of l s
  unfolding groups_of
  groups_agree [] h = refl
  groups_agree (x ∷ s) h =
      grow-agree x (groups_of k s) (h x (inl refl)) (λ y i. h y (inr (subst (In y) (join-groups k s) i))) ∙ ap (grow l x) (groups_agree s (λ y i. h y (inr i)))
