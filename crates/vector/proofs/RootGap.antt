-- Numbers whose patterns are three apart have roots that are apart; so of four numbers, each below the next, the first and the last have.
use Rattle.std.proofs.Common.{◌≡◌, ℕ, zero, suc, ◌+◌, ◌-◌, ◌*◌, ◌/◌, ◌%◌, ◌^◌, ◌<◌, ◌≤◌, Bool, true, false, T, ltb, ℤ, sym, refl, ap, ◌∙◌, subst, ⊎_elim, le_trans, le_of_eq, lt_of_le_of_lt, mul-le-mul_right, eq-zero-or-pos, mul-lt-mul_of_pos_right, mul-pos, lt_of_not-le, zero-mul, mul_right_comm, not-le_of_lt, arith, ltb→lt, lt→ltb, pow_pos, pow_mono, pow-add}
use lib.Ieee.{Float, nan, inf, fin, up, down, binary64, fits, to_bits, lt, eq, is_nan}
use lib.Ieee.Bits.{is_true, of_bits-to_bits}
use lib.Ieee.Exact.{HasValue}
use lib.Ieee.Fits.{down_pos}
use Rattle.vector.specs.Root.{units_of, root_bits, root_of}
use Rattle.vector.specs.InnerSteps.{Normal, NearestUnits}
use Rattle.vector.specs.Units.{at, units_at}
use Rattle.vector.proofs.Roots.{lt-or_ge, root_lt, shift_to, by_even, by_odd, gap}
use Rattle.vector.proofs.Patterns.{Above, above, is_above, nil, of_bits_lem, beyond-no_nan, in_patterns, units_bits, units_pos, units_lt}
use Rattle.vector.proofs.RootSearch.{at-mono, root_is, no_zero}
use Rattle.vector.proofs.RootNearest.{root_of_lem, normal_of_lem, digits_of_lem}
use Rattle.vector.proofs.RootLaws.{rooted, value, value_pos, not_lt, never_above, zero_below}
use Rattle.vector.proofs.Order.{lt-through, lt-one_way}

-- ---- from a pattern to the next

-- the step from a pattern to the next, in units
abbrev ulp : ℕ → ℕ
ulp b = 2 ^ (b / 2 ^ 52 - 1)

at_next : (b : ℕ) → at b + ulp b ≡ at (b + 1)
unfolding at
at_next b = ⊎_elim within across (lt-or_ge (b % 2 ^ 52 + 1) (2 ^ 52))
  where
    grows : (x t : ℕ) → units_at x t + 2 ^ (x - 1) ≡ units_at x (t + 1)
    grows zero t = refl
    grows (suc x) t = let e : suc x - 1 ≡ x = omega arith in rw e (omega arith)

    steps : (x t : ℕ) → t + 1 ≡ 2 ^ 52 → units_at x t + 2 ^ (x - 1) ≡ units_at (suc x) 0
    steps zero t h = h
    steps (suc x) t h =
        let e : suc x - 1 ≡ x = omega arith in
        let t' : t ≡ 2 ^ 52 - 1 = omega arith in
        rw (e, t') (omega arith)

    within : b % 2 ^ 52 + 1 < 2 ^ 52 → units_at (b / 2 ^ 52) (b % 2 ^ 52) + ulp b ≡ units_at ((b + 1) / 2 ^ 52) ((b + 1) % 2 ^ 52)
    within h =
        let q : (b + 1) / 2 ^ 52 ≡ b / 2 ^ 52 = omega arith in
        let r : (b + 1) % 2 ^ 52 ≡ b % 2 ^ 52 + 1 = omega arith in
        rw (q, r) (grows (b / 2 ^ 52) (b % 2 ^ 52))

    across : 2 ^ 52 ≤ b % 2 ^ 52 + 1 → units_at (b / 2 ^ 52) (b % 2 ^ 52) + ulp b ≡ units_at ((b + 1) / 2 ^ 52) ((b + 1) % 2 ^ 52)
    across h =
        let q : (b + 1) / 2 ^ 52 ≡ suc (b / 2 ^ 52) = omega arith in
        let r : (b + 1) % 2 ^ 52 ≡ 0 = omega arith in
        rw (q, r) (steps (b / 2 ^ 52) (b % 2 ^ 52) (omega arith))

at-far : (b k : ℕ) → at b + k * ulp b ≤ at (b + k)
at-far b zero = let e : b + 0 ≡ b = omega arith in rw e (omega arith)
at-far b (suc k) =
    let e : b + suc k ≡ b + k + 1 = omega arith in
    let g : ulp b ≤ ulp (b + k) = pow_mono (omega arith) in
    rw (e, ← at_next (b + k)) (omega (arith, at-far b k))

at_under : (b : ℕ) → at b < 2 ^ 53 * ulp b
unfolding at
at_under b = go (b / 2 ^ 52) (b % 2 ^ 52) (omega arith)
  where
    go : (x t : ℕ) → t < 2 ^ 52 → units_at x t < 2 ^ 53 * 2 ^ (x - 1)
    go zero t h = omega arith
    go (suc x) t h = let e : suc x - 1 ≡ x = omega arith in rw e (mul-lt-mul_of_pos_right (omega arith) (pow_pos x))

-- ---- a number three patterns above
module _ (b d e : ℕ) (n : Normal (at b) d e) where
  -- the last of the 53 digits is no more than the step between patterns
  last : 2 ^ e ≤ ulp b * 2 ^ 1024
  last = le_trans (⊎_elim (λ g. absurd (clash g)) (λ g. pow_mono g) (lt-or_ge (b / 2 ^ 52 - 1 + 1024) e)) (le_of_eq (pow-add 2 (b / 2 ^ 52 - 1) 1024))
    where
      clash : b / 2 ^ 52 - 1 + 1024 < e → ⊥
      clash g =
          let u = b / 2 ^ 52 - 1 in
          let p : 2 ^ 53 * ulp b * 2 ^ 1024 ≤ 2 ^ 52 * 2 ^ e =
          le_trans (le_of_eq (ap (λ (x : ℕ). x * 2 ^ 1024) (sym (pow-add 2 53 u)) ∙ sym (pow-add 2 (53 + u) 1024)))
          (le_trans (pow_mono {i = 53 + u + 1024} {j = 52 + e} (omega arith)) (le_of_eq (pow-add 2 52 e))) in
          not-le_of_lt (mul-lt-mul_of_pos_right (at_under b) (pow_pos 1024))
          (le_trans p (le_trans (mul-le-mul_right (2 ^ e) n.least) (le_of_eq (sym n.same))))

  apart : (k : ℕ) → b + 3 ≤ k → (d + 3) * 2 ^ e ≤ at k * 2 ^ 1024
  apart k h = sum (at b) d (2 ^ e) (ulp b) (2 ^ 1024) (at k) n.same last (le_trans (at-far b 3) (at-mono (b + 3) k h))
    where
      sum : (a d x u p v : ℕ) → a * p ≡ d * x → x ≤ u * p → a + 3 * u ≤ v → (d + 3) * x ≤ v * p
      sum a d x u p v f g w = le_trans (omega (arith, f, g)) (mul-le-mul_right p w)

gap_bits : (b k t : ℕ) → 0 < b → b < 2047 * 2 ^ 52 → b + 3 ≤ k → NearestUnits (at k) (at t) → (r : ℕ) × NearestUnits (at b) (at r) × (at r < at t)
gap_bits b k t h l f q = go (normal_of_lem b h l)
  where
    go : (d : ℕ) × (e : ℕ) × Normal (at b) d e → (r : ℕ) × NearestUnits (at b) (at r) × (at r < at t)
    go w = ⊎_elim even odd (eq-zero-or-pos (e % 2))
      where
        d : ℕ
        d = w.0

        e : ℕ
        e = w.1

        n : Normal (at b) d e
        n = w.2

        even : e % 2 ≡ 0 → (r : ℕ) × NearestUnits (at b) (at r) × (at r < at t)
        even p =
            let s = digits_of_lem (d * 2 ^ 54) (omega (arith, n.most)) in
            let l = root_lt s.0 (3 * 2 ^ 52) (lt_of_le_of_lt s.2.not_above (omega (arith, n.most))) in
            let z : e ≡ 2 * (e / 2) = omega arith in (
              (e / 2 - 1) * 2 ^ 52 + (s.0 + 1) / 2,
              (by_even (at b) d e s.0 n p s.1 s.2).1,
              gap (at b) d (e / 2) s.0 n.least (omega (arith, n.most)) s.1 s.2 (omega (arith, n.low)) (omega (arith, n.high)) (n.same ∙ ap (λ (x : ℕ). d * 2 ^ x) z)
                  3 (omega (arith, l)) (omega (arith, l)) (at k) (at t) (subst (λ (x : ℕ). (d + 3) * 2 ^ x ≤ at k * 2 ^ 1024) z (apart b d e n k f)) q,
            )

        odd : 0 < e % 2 → (r : ℕ) × NearestUnits (at b) (at r) × (at r < at t)
        odd p =
            let s = digits_of_lem (d * 2 * 2 ^ 54) (omega (arith, n.most)) in
            let z : 1 + 2 * (e / 2) ≡ e = omega arith in
            let l = root_lt s.0 (2 ^ 54 - 1) (lt_of_le_of_lt s.2.not_above (omega (arith, n.most))) in
            let o : d * 2 + 6 ≤ (d + 3) * 2 = omega arith in (
              (e / 2 - 1) * 2 ^ 52 + (s.0 + 1) / 2,
              (by_odd (at b) d e s.0 n (λ g. omega arith) s.1 s.2).1,
              gap (at b) (d * 2) (e / 2) s.0 (omega (arith, n.least)) (omega (arith, n.most)) s.1 s.2 (omega (arith, n.low)) (omega (arith, n.high)) (n.same ∙ sym (shift_to d 1 (2 * (e / 2)) e z))
                  6 (omega (arith, l)) (omega (arith, l)) (at k) (at t) (le_trans (mul-le-mul_right (2 ^ (2 * (e / 2))) o) (le_trans (le_of_eq (shift_to (d + 3) 1 (2 * (e / 2)) e z)) (apart b d e n k f))) q,
            )

-- ---- in the order of f64
is_lt : (x y : Float) (a b c : ℕ) → HasValue x false a c → HasValue y false b c → a < b → lt x y ≡ true
unfolding lt
is_lt nan y a b c h g l = absurd h
is_lt (inf s) y a b c h g l = absurd h
is_lt (fin s m e) nan a b c h g l = absurd g
is_lt (fin s m e) (inf t) a b c h g l = absurd g
is_lt (fin s m e) (fin t n d) a b c h g l =
    rw (h.0, g.0) (is_true (ltb (m * up e * down d) (n * up d * down e)) (lt→ltb (m * up e * down d) (n * up d * down e) (lt_of_not-le clash)))
  where
    clash : n * up d * down e ≤ m * up e * down d → ⊥
    clash k =
        let p : b * down d * down e ≤ a * down d * down e =
        le_trans (le_of_eq (ap (λ (x : ℕ). x * down e) (sym g.1) ∙ mul_right_comm (n * up d) c (down e)))
        (le_trans (mul-le-mul_right c k)
        (le_of_eq (mul_right_comm (m * up e) (down d) c ∙ ap (λ (x : ℕ). x * down d) h.1 ∙ mul_right_comm a (down e) (down d)))) in
        not-le_of_lt (mul-lt-mul_of_pos_right (mul-lt-mul_of_pos_right l (down_pos d)) (down_pos e)) p

-- positive numbers whose patterns are three apart
pub roots_apart : (x y : Float) → T (fits binary64 x) → T (fits binary64 y) → Above x → Above y → to_bits binary64 y + 3 ≤ to_bits binary64 x → lt (rooted y) (rooted x) ≡ true
roots_apart x y f g (above m e) (above n d) h =
    let i = in_patterns x f (above m e) in
    let j = in_patterns y g (above n d) in
    let t = root_of_lem (to_bits binary64 x) i.0 i.1 in
    let r = gap_bits (to_bits binary64 y) (to_bits binary64 x) t.0 j.0 j.1 h t.1.1 in
    let p : r.0 ≡ root_bits (units_of y) = root_is (units_of y) (unfold units_of in units_pos n d g) (unfold units_of in units_lt n d g) r.0 (subst (λ (u : ℕ). NearestUnits u (at r.0)) (sym (units_bits n d g)) r.1) in
    let q : t.0 ≡ root_bits (units_of x) = root_is (units_of x) (unfold units_of in units_pos m e f) (unfold units_of in units_lt m e f) t.0 (subst (λ (u : ℕ). NearestUnits u (at t.0)) (sym (units_bits m e f)) t.1.1) in
    is_lt (rooted y) (rooted x) (at (root_bits (units_of y))) (at (root_bits (units_of x))) (2 ^ 1074) (value n d g) (value m e f) (rw (← p, ← q) r.2)

-- what is above 0 has a root above that of 0
is_yes : (b : Bool) → (b ≡ false → ⊥) → b ≡ true
is_yes true h = refl
is_yes false h = absurd (h refl)

over-nil : (s : Bool) (e : ℤ) (z : Float) (a c : ℕ) → 0 < a → HasValue z false a c → lt (fin s 0 e) z ≡ true
over-nil s e nan a c k h = absurd h
over-nil s e (inf t) a c k h = absurd h
over-nil s e (fin t zero d) a c k h = absurd (empty h.1 (mul-pos k (down_pos d)))
  where
    empty : 0 * up d * c ≡ a * down d → 0 < a * down d → ⊥
    empty p q = omega (arith, ap (λ (x : ℕ). x * c) (zero-mul (up d)), zero-mul c)
over-nil s e (fin t (suc n) d) a c k h = rw h.0 (is_yes (lt (fin s 0 e) (fin false (suc n) d)) (zero_below s n e d))

under-nil : (s : Bool) (e : ℤ) (n : ℕ) (d : ℤ) → T (lt (fin s 0 e) (fin true (suc n) d)) → ⊥
unfolding lt
under-nil true e n d p = none (suc n * up d * down e) (ltb→lt (suc n * up d * down e) (0 * up e * down d) p)
  where
    none : (a : ℕ) → a < 0 * up e * down d → ⊥
    none a q = omega (arith, ap (λ (x : ℕ). x * down d) (zero-mul (up e)), zero-mul (down d))
under-nil false e n d p = absurd p

pub above_zero : (x y : Float) → T (fits binary64 x) → eq y nil ≡ true → lt y x ≡ true → lt (rooted y) (rooted x) ≡ true
unfolding eq lt
above_zero x nan f p q = absurd (subst T (sym p) tt)
above_zero x (inf s) f p q = absurd (subst T (sym p) tt)
above_zero x (fin s (suc m) e) f p q = absurd (no_zero s m e p)
above_zero nan (fin s zero e) f p q = absurd (subst T (sym q) tt)
above_zero (inf true) (fin s zero e) f p q = absurd (subst T (sym q) tt)
above_zero (inf false) (fin s zero e) f p q = unfold root_of in q
above_zero (fin t zero d) (fin s zero e) f p q = unfold root_of in q
above_zero (fin true (suc n) d) (fin s zero e) f p q = absurd (under-nil s e n d (subst T (sym q) tt))
above_zero (fin false (suc n) d) (fin s zero e) f p q = unfold root_of in over-nil s e (rooted (fin false (suc n) d)) _ (2 ^ 1074) (value_pos n d f) (value n d f)

-- what lies between 0 and a finite number is finite
pub between : (x y : Float) → lt nil y ≡ true → lt y x ≡ true → lt x (inf false) ≡ true → Above y
unfolding lt
between x nan p q r = absurd (subst T (sym p) tt)
between x (inf true) p q r = absurd (subst T (sym p) tt)
between x (inf false) p q r = absurd (subst T (sym q ∙ never_above x) tt)
between x (fin s m e) p q r = is_above (fin s m e) p refl

-- and so is what lies above a positive number and below infinity
pub over : (x y : Float) → lt nil y ≡ true → lt y x ≡ true → lt x (inf false) ≡ true → Above x
unfolding lt
over x nan p q r = absurd (subst T (sym p) tt)
over x (inf true) p q r = absurd (subst T (sym p) tt)
over x (inf false) p q r = absurd (subst T (sym q ∙ never_above x) tt)
over x (fin true m e) p q r = absurd (subst T (sym p) tt)
over nan (fin false m e) p q r = absurd (subst T (sym q) tt)
over (inf true) (fin false m e) p q r = absurd (subst T (sym q) tt)
over (inf false) (fin false m e) p q r = absurd (subst T (sym r) tt)
over (fin true n d) (fin false m e) p q r = absurd (subst T (sym q) tt)
over (fin false zero d) (fin false m e) p q r = absurd (none (m * up e * down d) (ltb→lt (m * up e * down d) (0 * up d * down e) (subst T (sym q) tt)))
  where
    none : (a : ℕ) → a < 0 * up d * down e → ⊥
    none a g = omega (arith, ap (λ (x : ℕ). x * down e) (zero-mul (up d)), zero-mul (down e))
over (fin false (suc n) d) (fin false m e) p q r = above n d

-- ---- four numbers, each below the next

-- what is below a number is below all that this number is below
pub lt_trans : (a b c : Float) → lt a b ≡ true → lt b c ≡ true → lt a c ≡ true
lt_trans a b c p q = is_true (lt a c) (lt-through a b c (subst T (sym p) tt) (lt-one_way b c (subst T (sym q) tt)) (beyond-no_nan b c q))

-- the value of a positive number by its pattern
value_of : (x : Float) → T (fits binary64 x) → Above x → HasValue x false (at (to_bits binary64 x)) (2 ^ 1074)
value_of x f a = subst (λ (z : Float). HasValue z false (at (to_bits binary64 x)) (2 ^ 1074)) (of_bits-to_bits binary64 x f) (of_bits_lem (to_bits binary64 x) (in_patterns x f a).1)

bits_climb : (x y : Float) → T (fits binary64 x) → T (fits binary64 y) → Above x → Above y → lt x y ≡ true → to_bits binary64 x < to_bits binary64 y
bits_climb x y f g a b h =
    ⊎_elim (λ l. l)
    (λ l. absurd (subst T (sym h ∙ not_lt x y _ _ (2 ^ 1074) (pow_pos 1074) (value_of x f a) (value_of y g b) (at-mono (to_bits binary64 y) (to_bits binary64 x) l)) tt))
    (lt-or_ge (to_bits binary64 x) (to_bits binary64 y))

finite_below : (z : Float) (a c : ℕ) → HasValue z false a c → lt z (inf false) ≡ true
unfolding lt
finite_below nan a c h = absurd h
finite_below (inf s) a c h = absurd h
finite_below (fin s m e) a c h = refl

under-endless : (x : Float) → T (fits binary64 x) → Above x → lt (rooted x) (inf false) ≡ true
under-endless x f (above m e) = finite_below (rooted x) _ (2 ^ 1074) (value m e f)

never_below : (z : Float) → lt z (inf true) ≡ false
unfolding lt
never_below nan = refl
never_below (inf true) = refl
never_below (inf false) = refl
never_below (fin t n d) = refl

-- of four numbers above 0, each below the next, the last has a larger root than the first
pub roots_climb : (x y z w : Float) → T (fits binary64 x) → T (fits binary64 y) → T (fits binary64 z) → T (fits binary64 w)
    → lt nil x ≡ true → lt x y ≡ true → lt y z ≡ true → lt z w ≡ true → lt (rooted x) (rooted w) ≡ true
roots_climb x y z nan fx fy fz fw p q r s = absurd (unfold is_nan in beyond-no_nan z nan s)
roots_climb x y z (inf true) fx fy fz fw p q r s = absurd (subst T (sym s ∙ never_below z) tt)
roots_climb x y z (inf false) fx fy fz fw p q r s = unfold root_of in under-endless x fx (is_above x p (lt_trans x z (inf false) (lt_trans x y z q r) s))
roots_climb x y z (fin t n d) fx fy fz fw p q r s =
    let w = fin t n d in
    let e : lt w (inf false) ≡ true = unfold lt in refl in
    let zw = lt_trans z w (inf false) s e in
    let yz = lt_trans y z (inf false) r zw in
    let xy = lt_trans x y (inf false) q yz in
    let a = is_above x p xy in
    let b = is_above y (lt_trans nil x y p q) yz in
    let c = is_above z (lt_trans nil x z p (lt_trans x y z q r)) zw in
    let d' = is_above w (lt_trans nil x w p (lt_trans x z w (lt_trans x y z q r) s)) e in
    roots_apart w x fw fx d' a (omega (arith, bits_climb x y fx fy a b q, bits_climb y z fy fz b c r, bits_climb z w fz fw c d' s))
