-- The walk over the edges that writes the mates.
use mathlib.Core.Path.{◌≡◌, refl, sym, ap, ◌∙◌}
use mathlib.Core.Logic.{inl, inr, ◌≢◌}
use mathlib.Core.List.{List, [], ◌∷◌}
use Prim.Native.Nat.{ℕ, suc, ◌+◌, ◌-◌, ◌*◌, ◌<◌, ◌≤◌}
use native.Mathlib.Omega.{arith}
use native.Mathlib.Numerals.{add-one}
use lib.ListN.{length, get_or, set, drop, length-set, length-drop, drop_of_length-le}
use lib.Seq.{get_or-drop}
use Rattle.order.specs.Regions.{region, put, Into}
use Rattle.order.proofs.Sorted.{In, at_in}
use Rattle.order.proofs.Parts.{length-region, get_region, put-region, put-put, set-put, into_none, into_size, into_get, into_region, into_own}
use Rattle.mesh_edges.specs.Edges.{groups_of}
use Rattle.mesh_edges.specs.InnerWords.{alike, pair_in, end_in}
use Rattle.mesh_edges.specs.InnerSteps.{Below, mate_mark, marks}
use Rattle.mesh_edges.proofs.Groups.{group_at, alike-le, alike-agree}
use Rattle.mesh_edges.proofs.Ends.{end_from}

mark_two : (g m : List ℕ) → length g ≡ 2 → mate_mark g m ≡ set m (get_or g 0 0) (suc (get_or g 1 0))
unfolding mate_mark
mark_two [] m h = absurd (omega arith)
mark_two (a ∷ []) m h = absurd (omega arith)
mark_two (a ∷ b ∷ []) m h = refl
mark_two (a ∷ b ∷ c ∷ g) m h = absurd (omega arith)

mark_other : (g m : List ℕ) → length g ≢ 2 → mate_mark g m ≡ m
unfolding mate_mark
mark_other [] m h = refl
mark_other (a ∷ []) m h = refl
mark_other (a ∷ b ∷ []) m h = absurd (h refl)
mark_other (a ∷ b ∷ c ∷ g) m h = refl

mark_length : (g m : List ℕ) → length (mate_mark g m) ≡ length m
unfolding mate_mark
mark_length [] m = refl
mark_length (a ∷ []) m = refl
mark_length (a ∷ b ∷ []) m = length-set m a (suc b)
mark_length (a ∷ b ∷ c ∷ g) m = refl

marks-none : (m : List ℕ) → marks [] m ≡ m
unfolding marks
marks-none m = refl

marks-cons : (g : List ℕ) (gs : List (List ℕ)) (m : List ℕ) → marks (g ∷ gs) m ≡ marks gs (mate_mark g m)
unfolding marks
marks-cons g gs m = refl

groups_nil : (key : ℕ → ℕ) → groups_of key [] ≡ []
unfolding groups_of
groups_nil key = refl

-- one edge
module _ (s : List ℕ) (n p q : ℕ) (H : 5 * n ≤ length s) (h : p < q) (r : q ≤ n) where
  abbrev G : List ℕ
  G = region (region s (2 * n) n) p (q - p)

  long : length G ≡ q - p
  long = length-region (region s (2 * n) n) p (q - p) (omega (arith, length-region s (2 * n) n (omega arith)))

  pub mate_no : q ≢ p + 2 → s ≡ put s (3 * n) (mate_mark (region (region s (2 * n) n) p (q - p)) (region s (3 * n) n))
  mate_no e = put-region s (3 * n) n (omega arith) ∙ ap (put s (3 * n)) (sym (mark_other G (region s (3 * n) n) (λ k. e (omega (arith, long)))))

  pub mate_yes : q ≡ p + 2 → Below s n → set s (3 * n + get_or s (2 * n + p) 0) (get_or s (2 * n + p + 1) 0 + 1) ≡ put s (3 * n) (mate_mark (region (region s (2 * n) n) p (q - p)) (region s (3 * n) n))
  mate_yes e B =
      let M = region s (3 * n) n in
      let a = get_or s (2 * n + p) 0 in
      let b = get_or s (2 * n + p + 1) 0 in
      let i : p + 0 ≡ p = omega arith in
      let j : 2 * n + (p + 1) ≡ 2 * n + p + 1 = omega arith in
      let lm : length M ≡ n = length-region s (3 * n) n (omega arith) in
      let g0 : get_or G 0 0 ≡ a = get_region (region s (2 * n) n) p (q - p) 0 (omega arith) ∙ ap (λ (z : ℕ). get_or (region s (2 * n) n) z 0) i ∙ get_region s (2 * n) n p (omega arith) in
      let g1 : get_or G 1 0 ≡ b = get_region (region s (2 * n) n) p (q - p) 1 (omega arith) ∙ get_region s (2 * n) n (p + 1) (omega arith) ∙ ap (λ (z : ℕ). get_or s z 0) j in
      let k : set M a (b + 1) ≡ mate_mark G M =
      sym (mark_two G M (omega (arith, long)) ∙ ap (λ (z : ℕ). set M z (suc (get_or G 1 0))) g0 ∙ ap (λ (z : ℕ). set M a (suc z)) g1 ∙ ap (set M a) (sym (add-one b))) in
      ap (λ (z : List ℕ). set z (3 * n + a) (b + 1)) (put-region s (3 * n) n (omega arith)) ∙ set-put s (3 * n) M a (b + 1) (omega (arith, B p (omega arith), lm)) ∙ ap (put s (3 * n)) k

-- all edges, one after the other
module _ (s₀ : List ℕ) (n : ℕ) (H : 5 * n ≤ length s₀) (B : Below s₀ n) where
  abbrev key : ℕ → ℕ
  key = pair_in s₀ n

  abbrev R : List ℕ
  R = region s₀ (2 * n) n

  abbrev M₀ : List ℕ
  M₀ = region s₀ (3 * n) n

  lr : length R ≡ n
  lr = length-region s₀ (2 * n) n (omega arith)

  abbrev pub Mating : List ℕ → ℕ → Type 0
  Mating s p = Into s₀ s (3 * n) n (λ m. marks (groups_of (pair_in s₀ n) (drop p (region s₀ (2 * n) n))) m ≡ marks (groups_of (pair_in s₀ n) (region s₀ (2 * n) n)) (region s₀ (3 * n) n))

  abbrev P : ℕ → List ℕ → Type 0
  P p m = marks (groups_of key (drop p R)) m ≡ marks (groups_of key R) M₀

  pub mating : Mating s₀ 0
  mating = into_none s₀ (3 * n) n (P 0) (omega arith) refl

  module _ (s : List ℕ) (p : ℕ) (I : Mating s p) where
    abbrev pub m-size : length s ≡ length s₀
    m-size = into_size s₀ s (3 * n) n (P p) I

    m-get : (j : ℕ) → j < 3 * n → get_or s j 0 ≡ get_or s₀ j 0
    m-get j h = into_get s₀ s (3 * n) n (P p) I j (inl h)

    m-sides : region s (2 * n) n ≡ R
    m-sides = into_region s₀ s (3 * n) n (P p) I (2 * n) n (inr (omega arith)) (omega arith)

    pub m-below : Below s n
    m-below k h = omega (arith, m-get (2 * n + k) (omega arith), B k h)

    m-pair : (x : ℕ) → x < n → pair_in s n x ≡ pair_in s₀ n x
    m-pair x h = rw (m-get x (omega arith), m-get (n + x) (omega arith))

    m-in : (k y : ℕ) → In y (drop k R) → y < n
    m-in k y i =
        let t = at_in (drop k R) y i in
        let u : k + t.0 < n = omega (arith, t.1, length-drop k R, lr) in
        omega (arith, sym t.2 ∙ get_or-drop k R t.0 0 ∙ get_region s₀ (2 * n) n (k + t.0) u, B (k + t.0) u)

    module _ (h : p < n) where
      abbrev x : ℕ
      x = get_or s₀ (2 * n + p) 0

      abbrev r : ℕ
      r = alike key x (drop (p + 1) R)

      end_is : end_in s n p ≡ p + 1 + r
      end_is =
          end_from s n (omega (arith, m-size)) p h ∙ ap (λ (z : ℕ). p + 1 + alike (pair_in s n) z (drop (p + 1) (region s (2 * n) n))) (m-get (2 * n + p) (omega arith))
          ∙ ap (λ (l : List ℕ). p + 1 + alike (pair_in s n) x (drop (p + 1) l)) m-sides
          ∙ ap (λ (z : ℕ). p + 1 + z) (alike-agree (pair_in s n) key x (drop (p + 1) R) (m-pair x (B p h)) (λ y i. m-pair y (m-in (p + 1) y i)))

      pub end_after : p < end_in s n p
      end_after = omega (arith, end_is)

      pub end-within : end_in s n p ≤ n
      end-within = omega (arith, end_is, alike-le key x (drop (p + 1) R), length-drop (p + 1) R, lr)

      group-is : (q : ℕ) → q ≡ end_in s n p → groups_of key (drop p R) ≡ region R p (q - p) ∷ groups_of key (drop q R)
      group-is q e = group_at key R p (omega (arith, lr)) q (e ∙ end_is ∙ ap (λ (z : ℕ). p + 1 + alike key z (drop (p + 1) R)) (sym (get_region s₀ (2 * n) n p h)))

      pub mating-more : (q : ℕ) → q ≡ end_in s n p → (s' : List ℕ) → s' ≡ put s (3 * n) (mate_mark (region (region s (2 * n) n) p (q - p)) (region s (3 * n) n)) → Mating s' q
      mating-more q e s' w =
          let g = region R p (q - p) in
          let own : region s (3 * n) n ≡ I.l = into_own s₀ s (3 * n) n (P p) I (omega arith) in
          let a : s' ≡ put s (3 * n) (mate_mark g I.l) = w ∙ ap (λ (z : List ℕ). put s (3 * n) (mate_mark (region z p (q - p)) (region s (3 * n) n))) m-sides ∙ ap (λ (z : List ℕ). put s (3 * n) (mate_mark g z)) own in
          let l : length (mate_mark g I.l) ≡ n = mark_length g I.l ∙ I.size in
          record {
            l = mate_mark g I.l;
            size = l;
            is = a ∙ ap (λ (z : List ℕ). put z (3 * n) (mate_mark g I.l)) I.is ∙ put-put s₀ (3 * n) I.l (mate_mark g I.l) (I.size ∙ sym l);
            ok = sym (ap (λ (gs : List (List ℕ)). marks gs I.l) (group-is q e) ∙ marks-cons g (groups_of key (drop q R)) I.l) ∙ I.ok;
          }

    pub mating-all : n ≤ p → s ≡ put s₀ (3 * n) (marks (groups_of (pair_in s₀ n) (region s₀ (2 * n) n)) (region s₀ (3 * n) n))
    mating-all h =
        let l : length R ≤ p = omega (arith, lr) in
        let d : drop p R ≡ [] = drop_of_length-le R l in
        I.is ∙ ap (put s₀ (3 * n)) (sym (ap (λ (z : List ℕ). marks (groups_of key z) I.l) d ∙ ap (λ (gs : List (List ℕ)). marks gs I.l) (groups_nil key) ∙ marks-none I.l) ∙ I.ok)
