-- `root_of` finds the nearest f64, and what the branches of `sqrt` answer is what `root_of` works out.
use Rattle.std.proofs.Common.{◌≡◌, ℕ, zero, suc, ◌+◌, ◌-◌, ◌*◌, ◌/◌, ◌%◌, ◌^◌, ◌<◌, ◌≤◌, Bool, true, false, cond, not, ◌||◌, T, eqb, [], ◌∷◌, ℤ, sym, refl, ap, subst, ⊎_elim, le_trans, lt_trans, le_refl, lt_of_le_of_lt, le_of_lt, add-le-add, lt_irrefl, mul-le-mul_right, zero-lt-suc, mul-le-mul, eq-or-lt_of_le, mul-pos, mul-one, not-le_of_lt, add-one, arith, lit≤, eqb→eq, ltb→lt, lt→ltb, nltb→le, pow_pos}
use native.Mathlib.Decide.{le_ind}
use lib.Ieee.{Float, nan, inf, fin, binary64, fits, of_bits, to_bits, lt, eq, up, down}
use lib.Ieee.Fits.{and_l, up_pos}
use Rattle.refusal.specs.Said.{Said, accepted, refused}
use Rattle.refusal.specs.declared.Refusal.TheVariants.{Number}
use Rattle.vector.specs.Root.{units_of, mid, under, greatest, root_bits, root_of}
use Rattle.vector.specs.InnerSteps.{NearestUnits}
use Rattle.vector.specs.Units.{at, units_at}
use Rattle.vector.proofs.Roots.{lt-or_ge}
use Rattle.vector.proofs.Patterns.{Above, above, nil, some, level_zero, units_bits, units_pos, units_lt}

-- ---- the patterns are in the order of their values
pub search_is : (p : ℕ → Bool) (k c : ℕ) → T (p c) → (T (p (c + 2 ^ k)) → ⊥) → T (p (greatest p k c)) × (T (p (greatest p k c + 1)) → ⊥)
unfolding greatest
search_is p zero c a b = (a, b)
search_is p (suc k) c a b = go (p (c + 2 ^ k)) (λ t. t) (λ t. t) (λ d. search_is p k d)
  where
    further : c + 2 ^ k + 2 ^ k ≡ c + 2 ^ suc k
    further = omega arith

    go : (t : Bool) → (T t → T (p (c + 2 ^ k))) → (T (p (c + 2 ^ k)) → T t)
        → ((d : ℕ) → T (p d) → (T (p (d + 2 ^ k)) → ⊥) → T (p (greatest p k d)) × (T (p (greatest p k d + 1)) → ⊥))
        → T (p (greatest p k (cond t (c + 2 ^ k) c))) × (T (p (greatest p k (cond t (c + 2 ^ k) c) + 1)) → ⊥)
    go true f g more = more (c + 2 ^ k) (f tt) (rw further b)
    go false f g more = more c a g

at-shape : (b : ℕ) → (m : ℕ) × (j : ℕ) × (m < 2 ^ 53) × (at b ≡ m * 2 ^ j)
unfolding at
at-shape b = go (b / 2 ^ 52) (b % 2 ^ 52) (omega arith)
  where
    go : (x t : ℕ) → t < 2 ^ 52 → (m : ℕ) × (j : ℕ) × (m < 2 ^ 53) × (units_at x t ≡ m * 2 ^ j)
    go zero t h = (t, 0, omega arith, sym (mul-one t))
    go (suc x) t h = (2 ^ 52 + t, x, omega arith, refl)

pub at-step : (b : ℕ) → at b < at (b + 1)
unfolding at
at-step b = ⊎_elim within across (lt-or_ge (b % 2 ^ 52 + 1) (2 ^ 52))
  where
    grows : (x t : ℕ) → units_at x t < units_at x (t + 1)
    grows zero t = omega arith
    grows (suc x) t = omega (arith, pow_pos x)

    steps : (x t : ℕ) → t + 1 ≡ 2 ^ 52 → units_at x t < units_at (suc x) 0
    steps zero t h = omega arith
    steps (suc x) t h = let t' : t ≡ 2 ^ 52 - 1 = omega arith in rw t' (omega (arith, pow_pos x))

    within : b % 2 ^ 52 + 1 < 2 ^ 52 → units_at (b / 2 ^ 52) (b % 2 ^ 52) < units_at ((b + 1) / 2 ^ 52) ((b + 1) % 2 ^ 52)
    within h =
        let q : (b + 1) / 2 ^ 52 ≡ b / 2 ^ 52 = omega arith in
        let r : (b + 1) % 2 ^ 52 ≡ b % 2 ^ 52 + 1 = omega arith in
        rw (q, r) (grows (b / 2 ^ 52) (b % 2 ^ 52))

    across : 2 ^ 52 ≤ b % 2 ^ 52 + 1 → units_at (b / 2 ^ 52) (b % 2 ^ 52) < units_at ((b + 1) / 2 ^ 52) ((b + 1) % 2 ^ 52)
    across h =
        let q : (b + 1) / 2 ^ 52 ≡ suc (b / 2 ^ 52) = omega arith in
        let r : (b + 1) % 2 ^ 52 ≡ 0 = omega arith in
        rw (q, r) (steps (b / 2 ^ 52) (b % 2 ^ 52) (omega arith))

pub at-mono : (a b : ℕ) → a ≤ b → at a ≤ at b
at-mono a b h = le_ind (λ (n : ℕ). at a ≤ at n) (le_refl (at a)) (λ m l k. le_trans k (le_of_lt (subst (λ (n : ℕ). at m < at n) (add-one m) (at-step m)))) b h

mid-mono : (a b : ℕ) → a ≤ b → mid a ≤ mid b
unfolding mid
mid-mono a b h = add-le-add (at-mono (a - 1) (b - 1) (omega arith)) (at-mono a b h)

pub under-down : (n a b : ℕ) → a ≤ b → T (under n b) → T (under n a)
unfolding under
under-down n a b h t = lt→ltb (mid a * mid a) (n * 2 ^ 1076) (lt_of_le_of_lt (mul-le-mul (mid-mono a b h) (mid-mono a b h)) (ltb→lt (mid b * mid b) (n * 2 ^ 1076) t))

-- two numbers at which such a test ends are one
ends : (n a b : ℕ) → T (under n a) → (T (under n (a + 1)) → ⊥) → T (under n b) → (T (under n (b + 1)) → ⊥) → a ≡ b
ends n a b p q r s =
    ⊎_elim (λ l. absurd (q (under-down n (a + 1) b (omega arith) r)))
    (λ g. ⊎_elim (λ e. sym e) (λ l. absurd (s (under-down n (b + 1) a (omega arith) p))) (eq-or-lt_of_le g))
    (lt-or_ge a b)

-- the search ends at the last pattern whose midpoint with the one below is not above the root
module _ (n : ℕ) (some : 0 < n) (most : n < 2 ^ 2098) where
  first : T (under n 0)
  unfolding under mid at
  first = lt→ltb 0 (n * 2 ^ 1076) (mul-pos some (pow_pos 1076))

  over : T (under n (0 + 2 ^ 63)) → ⊥
  unfolding under mid at
  over t = not-le_of_lt (ltb→lt (mid (2 ^ 63) * mid (2 ^ 63)) (n * 2 ^ 1076) t) (le_trans (mul-le-mul_right (2 ^ 1076) (le_of_lt most)) (lit≤ tt))

  pub found : T (under n (root_bits n)) × (T (under n (root_bits n + 1)) → ⊥)
  unfolding root_bits
  found = search_is (under n) 63 0 first over

  module _ (r : ℕ) (q : NearestUnits n (at r)) where
    passes : T (under n r)
    unfolding under mid at
    passes = lt→ltb ((at (r - 1) + at r) * (at (r - 1) + at r)) (n * 2 ^ 1076) (go r refl)
      where
        go : (k : ℕ) → r ≡ k → (at (r - 1) + at r) * (at (r - 1) + at r) < n * 2 ^ 1076
        go zero e = rw e (mul-pos some (pow_pos 1076))
        go (suc k) e =
            let w = at-shape (r - 1) in
            let d : r - 1 + 1 ≡ r = omega arith in
            let l : at (r - 1) < at r = rw d at (at-step (r - 1)) in
            rw w.3 (q.below w.0 w.1 w.2 (rw w.3 at l))

    stops : T (under n (r + 1)) → ⊥
    unfolding under mid
    stops t =
        let w = at-shape (r + 1) in
        let d : r + 1 - 1 ≡ r = omega arith in
        let l = q.above w.0 w.1 w.2 (rw w.3 at (at-step r)) in
        lt_irrefl (n * 2 ^ 1076) (lt_trans (rw (← w.3) at l) (rw d at (ltb→lt ((at (r + 1 - 1) + at (r + 1)) * (at (r + 1 - 1) + at (r + 1))) (n * 2 ^ 1076) t)))

    pub root_is : r ≡ root_bits n
    root_is = ends n r (root_bits n) passes stops found.0 found.1

-- ---- what the branches of `sqrt` answer

-- a root as an answer
abbrev pub root : Float → Said Float
root y = accepted (y ∷ [])

pub worked : (x : Float) (r : ℕ) → T (fits binary64 x) → Above x → NearestUnits (at (to_bits binary64 x)) (at r) → root (of_bits binary64 r) ≡ root_of x
unfolding root_of units_of
worked x r h (above m e) q =
    ap (λ (b : ℕ). root (of_bits binary64 b))
    (root_is (units_of (fin false (suc m) e)) (units_pos m e h) (units_lt m e h) r (subst (λ (n : ℕ). NearestUnits n (at r)) (sym (units_bits m e h)) q))

pub endless : (x : Float) → lt nil x ≡ true → lt x (inf false) ≡ false → root x ≡ root_of x
unfolding lt root_of
endless nan p q = absurd (subst T (sym p) tt)
endless (inf true) p q = absurd (subst T (sym p) tt)
endless (inf false) p q = refl
endless (fin true m e) p q = absurd (subst T (sym p) tt)
endless (fin false m e) p q = absurd (subst T q tt)

-- no number above or below zero compares equal to zero
pub no_zero : (s : Bool) (m : ℕ) (e : ℤ) → eq (fin s (suc m) e) nil ≡ true → ⊥
unfolding eq
no_zero true m e p = some m e (eqb→eq (suc m * up e * 1) (0 * 1 * down e) (and_l (eqb (suc m * up e * 1) (0 * 1 * down e)) (false || eqb (suc m * up e * 1) 0) (subst T (sym p) tt)))
no_zero false m e p = some m e (eqb→eq (suc m * up e * 1) (0 * 1 * down e) (and_l (eqb (suc m * up e * 1) (0 * 1 * down e)) (true || eqb (suc m * up e * 1) 0) (subst T (sym p) tt)))

pub at_zero : (x : Float) → eq x nil ≡ true → root x ≡ root_of x
unfolding eq root_of
at_zero nan p = absurd (subst T (sym p) tt)
at_zero (inf s) p = absurd (subst T (sym p) tt)
at_zero (fin s zero e) p = refl
at_zero (fin s (suc m) e) p = absurd (no_zero s m e p)

pub below-zero : (x : Float) → lt nil x ≡ false → eq x nil ≡ false → refused Number ≡ root_of x
unfolding eq lt root_of
below-zero nan p q = refl
below-zero (inf true) p q = refl
below-zero (inf false) p q = absurd (subst T p tt)
below-zero (fin s zero e) p q = absurd (subst T q (level_zero s e))
below-zero (fin true (suc m) e) p q = refl
below-zero (fin false (suc m) e) p q = absurd (not-le_of_lt (mul-pos (zero-lt-suc m) (up_pos e)) (omega (arith, nltb→le (0 * 1 * down e) (suc m * up e * 1) (subst (λ (b : Bool). T (not b)) (sym p) tt))))
