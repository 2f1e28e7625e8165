-- Any list of links with the properties below is the one that the definition comes to.
use mathlib.Core.Path.{◌≡◌, refl, sym, ap, ◌∙◌, subst}
use mathlib.Core.Bool.{Bool, true, false}
use mathlib.Core.Logic.{◌⊎◌, inl, inr, ◌≢◌, ⊎_elim}
use mathlib.Core.List.{List}
use Prim.Native.Nat.{ℕ, zero, suc, ◌+◌, ◌<◌, ◌≤◌}
use native.Mathlib.Omega.{arith}
use native.Mathlib.Decide.{ℕ_discrete}
use lib.ListN.{length, get_or, set, replicate, length-set, length-replicate}
use lib.Seq.{get_or-set_same, get_or-set_other, ext_get_or}
use Rattle.path_splice_rule.specs.Splice.{pick, tie, link_end, link_from, links}
use Rattle.order.proofs.Tests.{truth, le-or}
use Rattle.path_splice_rule.proofs.Ends.{is_zero_lem}
use Rattle.path_splice_links.proofs.Picking.{hit, miss, end_linked, end_none}

module _ (join : ℕ → ℕ → Bool) (ls : List ℕ) (e : ℕ) where
  pub pick-nil : (k : ℕ) → ((g : ℕ) → g < k → get_or ls g 0 ≡ 0 → join e g ≡ false) → pick join ls e k ≡ 0
  unfolding pick
  pick-nil zero h = refl
  pick-nil (suc k) h = miss join ls e (suc k) k refl (λ u. h k (omega arith) u) ∙ pick-nil k (λ g l u. h g (omega arith) u)

  pub pick_is : (k f : ℕ) → f < k → get_or ls f 0 ≡ 0 → join e f ≡ true → ((g : ℕ) → f < g → g < k → get_or ls g 0 ≡ 0 → join e g ≡ false) → pick join ls e k ≡ suc f
  pick_is zero f l u j h = absurd (omega arith)
  pick_is (suc k) f l u j h = elim (ℕ_discrete f k) [ yes q ↦ top q | no n ↦ lower n (λ b. pick_is k f b u j (λ g a b v. h g a (omega arith) v)) ]
    where
      top : f ≡ k → pick join ls e (suc k) ≡ suc f
      top q = rw q (hit join ls e (suc k) k refl (rw (← q) u) (rw (← q) j))

      lower : f ≢ k → (f < k → pick join ls e k ≡ suc f) → pick join ls e (suc k) ≡ suc f
      lower n rec = miss join ls e (suc k) k refl (λ v. h k (omega arith) (omega arith) v) ∙ rec (omega arith)

pub record Right (join : ℕ → ℕ → Bool) (m : ℕ) (ls : List ℕ) : Type 0 where
  pub size : length ls ≡ m
  pub back : (f g : ℕ) → f < m → get_or ls f 0 ≡ suc g → (g < m) × (get_or ls g 0 ≡ suc f)
  pub may : (f g : ℕ) → f < m → get_or ls f 0 ≡ suc g → (join f g ≡ true) × (f ≢ g)
  -- what is above a link of f is linked below f
  pub top : (f g k : ℕ) → f < m → get_or ls f 0 ≡ suc g → f < g → g < k → k < m → join f k ≡ true → (j : ℕ) × (get_or ls k 0 ≡ suc j) × (j < f)
  -- what a free f could be linked with is linked before f's turn
  pub full : (f k : ℕ) → f < m → k < m → get_or ls f 0 ≡ 0 → join f k ≡ true → (j : ℕ) × (get_or ls k 0 ≡ suc j) × ((j < f) ⊎ (k < f))

module _ (join : ℕ → ℕ → Bool) (m : ℕ) (ls : List ℕ) (R : Right join m ls) where
  -- the links when the ends below e have had their turn
  record Stage (e : ℕ) (cur : List ℕ) : Type 0 where
    pub long : length cur ≡ m
    pub first : (f g : ℕ) → f < m → get_or ls f 0 ≡ suc g → f < e → get_or cur f 0 ≡ suc g
    pub second : (f g : ℕ) → f < m → get_or ls f 0 ≡ suc g → g < e → get_or cur f 0 ≡ suc g
    pub late : (f g : ℕ) → f < m → get_or ls f 0 ≡ suc g → e ≤ f → e ≤ g → get_or cur f 0 ≡ 0
    pub free : (f : ℕ) → f < m → get_or ls f 0 ≡ 0 → get_or cur f 0 ≡ 0

  nought : (k i : ℕ) → ◌≡◌ {A = ℕ} (get_or (replicate k 0) i 0) 0
  nought zero i = refl
  nought (suc k) zero = refl
  nought (suc k) (suc i) = nought k i

  start : Stage 0 (replicate m 0)
  start =
      record {
        long = length-replicate m 0;
        first = λ f g h l z. absurd (omega arith);
        second = λ f g h l z. absurd (omega arith);
        late = λ f g h l y z. nought m f;
        free = λ f h l. nought m f;
      }

  module _ (e : ℕ) (cur : List ℕ) (he : e < m) (S : Stage e cur) where
    -- e stays free
    rest : get_or ls e 0 ≡ 0 → Stage (suc e) cur
    rest z =
        record {
          long = S.long;
          first = λ f g h l b. elim (ℕ_discrete f e) [ yes q ↦ absurd (let y : get_or ls e 0 ≡ suc g = rw q at l in omega arith) | no n ↦ S.first f g h l (omega arith) ];
          second = λ f g h l b. elim (ℕ_discrete g e) [ yes q ↦ absurd (let y : get_or ls e 0 ≡ suc f = rw q at (R.back f g h l).1 in omega arith) | no n ↦ S.second f g h l (omega arith) ];
          late = λ f g h l a b. S.late f g h l (omega arith) (omega arith);
          free = S.free;
        }

    -- e was linked before its turn
    seen : (g : ℕ) → get_or ls e 0 ≡ suc g → g < e → Stage (suc e) cur
    seen g y b =
        record {
          long = S.long;
          first = λ f g' h l a. elim (ℕ_discrete f e) [ yes q ↦ S.second f g' h l (let w : get_or ls e 0 ≡ suc g' = rw q at l in omega arith) | no n ↦ S.first f g' h l (omega arith) ];
          second = λ f g' h l a. elim (ℕ_discrete g' e) [ yes q ↦ S.first f g' h l (let w : get_or ls e 0 ≡ suc f = rw q at (R.back f g' h l).1 in omega arith) | no n ↦ S.second f g' h l (omega arith) ];
          late = λ f g' h l a b. S.late f g' h l (omega arith) (omega arith);
          free = S.free;
        }

    -- e is linked at its turn
    made : (g : ℕ) → get_or ls e 0 ≡ suc g → e < g → Stage (suc e) (set (set cur e (suc g)) g (suc e))
    made g y b =
        let gm = (R.back e g he y).0 in
        let gy : get_or ls g 0 ≡ suc e = (R.back e g he y).1 in
        let at_g : get_or (set (set cur e (suc g)) g (suc e)) g 0 ≡ suc e = get_or-set_same (set cur e (suc g)) g (suc e) 0 (rw length-set (omega (arith, S.long))) in
        let at-e : get_or (set (set cur e (suc g)) g (suc e)) e 0 ≡ suc g = get_or-set_other (set cur e (suc g)) g e (suc e) 0 (omega arith) ∙ get_or-set_same cur e (suc g) 0 (omega (arith, S.long)) in
        let other : (x : ℕ) → x ≢ e → x ≢ g → get_or (set (set cur e (suc g)) g (suc e)) x 0 ≡ get_or cur x 0 =
        λ x p q. get_or-set_other (set cur e (suc g)) g x (suc e) 0 q ∙ get_or-set_other cur e x (suc g) 0 p in
        let told : (f g' : ℕ) → f < m → get_or ls f 0 ≡ suc g' → (f ≢ e → f ≢ g → get_or cur f 0 ≡ suc g') → get_or (set (set cur e (suc g)) g (suc e)) f 0 ≡ suc g' =
        λ f g' h l k. elim (ℕ_discrete f e) [ yes q ↦ rw q (at-e ∙ sym y ∙ ap (λ (z : ℕ). get_or ls z 0) (sym q) ∙ l) | no n ↦ elim (ℕ_discrete f g) [ yes q ↦ rw q (at_g ∙ sym gy ∙ ap (λ (z : ℕ). get_or ls z 0) (sym q) ∙ l) | no n' ↦ other f n n' ∙ k n n' ] ] in
        record {
          long = simp length-set S.long;
          first = λ f g' h l a. told f g' h l (λ n n'. S.first f g' h l (omega arith));
          second = λ f g' h l a. told f g' h l (λ n n'. elim (ℕ_discrete g' e) [ yes q ↦ absurd (let w : get_or ls e 0 ≡ suc f = rw q at (R.back f g' h l).1 in n' (omega arith)) | no p ↦ S.second f g' h l (omega arith) ]);
          late = λ f g' h l a c. elim (ℕ_discrete f g) [ yes q ↦ absurd (let w : get_or ls g 0 ≡ suc g' = rw q at l in omega arith) | no n ↦ other f (omega arith) n ∙ S.late f g' h l (omega arith) (omega arith) ];
          free = λ f h l. elim (ℕ_discrete f e) [ yes q ↦ absurd (let w : get_or ls e 0 ≡ 0 = rw q at l in omega arith) | no n ↦ elim (ℕ_discrete f g) [ yes q ↦ absurd (let w : get_or ls g 0 ≡ 0 = rw q at l in omega arith) | no n' ↦ other f n n' ∙ S.free f h l ] ];
        }

    not_free : (k j : ℕ) → k < m → get_or ls k 0 ≡ suc j → (j < e) ⊎ (k < e) → get_or cur k 0 ≡ 0 → ⊥
    not_free k j h y (inl b) z = omega (arith, S.second k j h y b)
    not_free k j h y (inr b) z = omega (arith, S.first k j h y b)

    off : (k : ℕ) → (join e k ≡ true → ⊥) → join e k ≡ false
    off k h = ⊎_elim (λ t. absurd (h t)) (λ t. t) (truth (join e k))

    turn : (x : ℕ) → get_or ls e 0 ≡ x → Stage (suc e) (link_end join m cur e)
    unfolding link_end tie
    turn zero z =
        let p : pick join cur e m ≡ 0 = pick-nil join cur e m (λ k h u. off k (λ t. let F = R.full e k he h z t in not_free k F.0 h F.1 F.2 u)) in
        subst (Stage (suc e)) (end_none join m cur e (S.free e he z) (sym p)) (rest z)
    turn (suc g) y = go (le-or e g)
      where
        linked : g < e → Stage (suc e) (link_end join m cur e)
        linked b = subst (Stage (suc e)) (end_linked join m cur e (λ z. omega (arith, S.second e g he y b))) (seen g y b)

        tied : e < g → Stage (suc e) (link_end join m cur e)
        tied b =
            let gy = R.back e g he y in
            let u : get_or cur e 0 ≡ 0 = S.late e g he y (omega arith) (omega arith) in
            let p : pick join cur e m ≡ suc g =
            pick_is join cur e m g gy.0 (S.late g e gy.0 gy.1 (omega arith) (omega arith)) (R.may e g he y).0
            (λ k a h v. off k (λ t. let F = R.top e g k he y b a h t in not_free k F.0 h F.1 (inl F.2) v)) in
            rw (is_zero_lem (get_or cur e 0) u, p) (made g y b)

        go : (e ≤ g) ⊎ (g < e) → Stage (suc e) (link_end join m cur e)
        go (inl b) = elim (ℕ_discrete e g) [ yes q ↦ absurd ((R.may e g he y).1 q) | no n ↦ tied (omega arith) ]
        go (inr b) = linked b

  turns : (k e : ℕ) (cur : List ℕ) → e + k ≡ m → Stage e cur → Stage m (link_from join m k e cur)
  unfolding link_from
  turns zero e cur h S = let z : e ≡ m = omega arith in subst (λ (k : ℕ). Stage k cur) z S
  turns (suc k) e cur h S = turns k (suc e) (link_end join m cur e) (omega arith) (turn e cur (omega arith) S (get_or ls e 0) refl)

  pub right_is : ls ≡ links join m
  unfolding links
  right_is =
      let S = turns m 0 (replicate m 0) (omega arith) start in
      ext_get_or 0 ls (link_from join m m 0 (replicate m 0)) (R.size ∙ sym S.long) (λ i h. at S i (omega (arith, R.size)) (get_or ls i 0) refl)
    where
      at : Stage m (link_from join m m 0 (replicate m 0)) → (i : ℕ) → i < m → (x : ℕ) → get_or ls i 0 ≡ x → get_or ls i 0 ≡ get_or (link_from join m m 0 (replicate m 0)) i 0
      at S i h zero z = z ∙ sym (S.free i h z)
      at S i h (suc g) z = z ∙ sym (S.first i g h z h)
