-- `root_of` answers as `RootOf` states, and the statement leaves one answer.
use Rattle.std.proofs.Common.{◌≡◌, ℕ, zero, suc, ◌+◌, ◌-◌, ◌*◌, ◌/◌, ◌%◌, ◌^◌, ◌<◌, ◌≤◌, Bool, true, false, T, leb, sym, refl, ap, ◌∙◌, subst, ⊎_elim, le_trans, lt_trans, le_of_eq, lt_of_lt_of_le, lt_irrefl, mul-le-mul_right, eq-zero-or-pos, mul-le-mul, eq-or-lt_of_le, mul-lt-mul_of_pos_right, lt_of_not-le, not-le_of_lt, arith, le→leb, leb→le, pow_pos, pow-add}
use lib.Ieee.{Float, nan, inf, fin, binary64, fits, of_bits, size, to_bits}
use lib.Ieee.Bits.{of_bits-to_bits}
use lib.Ieee.Digits.{size-lt, size-le, size_reaches}
use Rattle.refusal.specs.Said.{Said}
use Rattle.refusal.specs.One.{One}
use Rattle.vector.specs.Root.{units_of, plain, greatest, root_of, Nearest, RootOf}
use Rattle.vector.specs.InnerSteps.{Digits, Normal, NearestUnits}
use Rattle.vector.specs.Units.{at}
use Rattle.vector.proofs.Roots.{lt-or_ge, shift_to, normal, at_low, by_even, by_odd}
use Rattle.vector.proofs.Patterns.{above, nearest, in_patterns}
use Rattle.vector.proofs.RootSearch.{search_is, worked, root}

-- ---- there is a nearest one
pub digits_of_lem : (D : ℕ) → D < 2 ^ 108 → (s : ℕ) × (s < 2 ^ 54) × Digits D s
digits_of_lem D h =
    let p : ℕ → Bool = λ s. leb (s * s) D in
    let s = greatest p 54 0 in
    let g = search_is p 54 0 (le→leb 0 D (omega arith)) (λ t. not-le_of_lt h (leb→le (2 ^ 108) D t)) in
    let a = leb→le (s * s) D g.0 in (
      s,
      lt_of_not-le (λ (l : 2 ^ 54 ≤ s). not-le_of_lt h (le_trans (mul-le-mul l l) a)),
      record { not_above = a; next_above = lt_of_not-le (λ (l : (s + 1) * (s + 1) ≤ D). g.1 (le→leb ((s + 1) * (s + 1)) D l)) },
    )

small_normal : (n : ℕ) → 0 < n → n < 2 ^ 52 → Normal n (n * 2 ^ (53 - size n)) (971 + size n)
small_normal n h l =
    let z = size-le n 52 l in
    let o : 0 < size n = lt_of_not-le (λ (g : size n ≤ 0). none (size n) g (size-lt n)) in
    let f : 2 ^ (size n - 1) * 2 ^ (53 - size n) ≡ 2 ^ 52 = sym (pow-add 2 (size n - 1) (53 - size n)) ∙ ap (λ (k : ℕ). 2 ^ k) (exponent (size n) z o) in
    let f' : 2 ^ size n * 2 ^ (53 - size n) ≡ 2 ^ 53 = sym (pow-add 2 (size n) (53 - size n)) ∙ ap (λ (k : ℕ). 2 ^ k) (exponent' (size n) z) in
    record {
      least = le_trans (le_of_eq (sym f)) (mul-le-mul_right (2 ^ (53 - size n)) (size_reaches n (size n - 1) (omega arith)));
      most = lt_of_lt_of_le (mul-lt-mul_of_pos_right (size-lt n) (pow_pos (53 - size n))) (le_of_eq f');
      low = omega arith;
      high = omega arith;
      same = sym (shift_to n (53 - size n) (971 + size n) 1024 (omega arith));
    }
  where
    exponent : (k : ℕ) → k ≤ 52 → 0 < k → k - 1 + (53 - k) ≡ 52
    exponent k z o = omega arith

    exponent' : (k : ℕ) → k ≤ 52 → k + (53 - k) ≡ 53
    exponent' k z = omega arith

    none : (k : ℕ) → k ≤ 0 → n < 2 ^ k → ⊥
    none k g t = let e : k ≡ 0 = omega arith in not-le_of_lt (subst (λ (j : ℕ). n < 2 ^ j) e t) h

pub normal_of_lem : (b : ℕ) → 0 < b → b < 2047 * 2 ^ 52 → (d : ℕ) × (e : ℕ) × Normal (at b) d e
normal_of_lem b h l = ⊎_elim (λ f. (b % 2 ^ 52 + 2 ^ 52, b / 2 ^ 52 + 1023, normal b l f)) less (lt-or_ge 0 (b / 2 ^ 52))
  where
    less : b / 2 ^ 52 ≤ 0 → (d : ℕ) × (e : ℕ) × Normal (at b) d e
    less f = let n = b % 2 ^ 52 in (n * 2 ^ (53 - size n), 971 + size n, rw (at_low b f) (small_normal n (omega arith) (omega arith)))

pub root_of_lem : (b : ℕ) → 0 < b → b < 2047 * 2 ^ 52 → (r : ℕ) × ((r < 2047 * 2 ^ 52) × NearestUnits (at b) (at r))
root_of_lem b h l = go (normal_of_lem b h l)
  where
    go : (d : ℕ) × (e : ℕ) × Normal (at b) d e → (r : ℕ) × ((r < 2047 * 2 ^ 52) × NearestUnits (at b) (at r))
    go w = ⊎_elim even odd (eq-zero-or-pos (w.1 % 2))
      where
        even : w.1 % 2 ≡ 0 → (r : ℕ) × ((r < 2047 * 2 ^ 52) × NearestUnits (at b) (at r))
        even p = let s = digits_of_lem (w.0 * 2 ^ 54) (omega (arith, w.2.most)) in ((w.1 / 2 - 1) * 2 ^ 52 + (s.0 + 1) / 2, by_even (at b) w.0 w.1 s.0 w.2 p s.1 s.2)

        odd : 0 < w.1 % 2 → (r : ℕ) × ((r < 2047 * 2 ^ 52) × NearestUnits (at b) (at r))
        odd p = let s = digits_of_lem (w.0 * 2 * 2 ^ 54) (omega (arith, w.2.most)) in ((w.1 / 2 - 1) * 2 ^ 52 + (s.0 + 1) / 2, by_odd (at b) w.0 w.1 s.0 w.2 (λ z. omega arith) s.1 s.2)

-- ---- there is only one
by_units : (y : Float) → T (plain y) → to_bits binary64 y ≡ 0 + (size (units_of y) - 53) * 2 ^ 52 + units_of y / 2 ^ (size (units_of y) - 53)
unfolding to_bits units_of
by_units nan p = absurd p
by_units (inf s) p = absurd p
by_units (fin true m e) p = absurd p
by_units (fin false m e) p = refl

same_units : (y z : Float) → T (fits binary64 y) → T (plain y) → T (fits binary64 z) → T (plain z) → units_of y ≡ units_of z → y ≡ z
same_units y z f p g q e =
    sym (of_bits-to_bits binary64 y f)
    ∙ ap (of_bits binary64) (by_units y p ∙ ap (λ (n : ℕ). 0 + (size n - 53) * 2 ^ 52 + n / 2 ^ (size n - 53)) e ∙ sym (by_units z q))
    ∙ of_bits-to_bits binary64 z g

pub one-nearest : (x : Float) → One Float (Nearest x)
one-nearest x y z p q =
    ⊎_elim (λ l. absurd (clash x y z p q l))
    (λ g. ⊎_elim (λ e. same_units y z p.format p.sign q.format q.sign (sym e)) (λ l. absurd (clash x z y q p l)) (eq-or-lt_of_le g))
    (lt-or_ge (units_of y) (units_of z))
  where
    clash : (x y z : Float) → Nearest x y → Nearest x z → units_of y < units_of z → ⊥
    clash x y z p q l = lt_irrefl (units_of x * 2 ^ 1076) (lt_trans (p.above z q.format q.sign l) (q.below y p.format p.sign l))

-- `root_of` meets the statement
pub root_of-nearest : (x : Float) → T (fits binary64 x) → RootOf x (root_of x)
root_of-nearest nan h = unfold RootOf root_of in refl
root_of-nearest (inf true) h = unfold RootOf root_of in refl
root_of-nearest (inf false) h = unfold RootOf root_of in refl
root_of-nearest (fin s zero e) h = unfold RootOf root_of in refl
root_of-nearest (fin true (suc m) e) h = unfold RootOf root_of in refl
root_of-nearest (fin false (suc m) e) h =
    let x = fin false (suc m) e in
    let i = in_patterns x h (above m e) in
    let r = root_of_lem (to_bits binary64 x) i.0 i.1 in
    unfold RootOf in (of_bits binary64 r.0, sym (worked x r.0 h (above m e) r.1.1), nearest m e r.0 h r.1.0 r.1.1)

-- the statement leaves one answer
pub one-root : (x : Float) → One (Said Float) (RootOf x)
unfolding RootOf
one-root nan r t p q = p ∙ sym q
one-root (inf true) r t p q = p ∙ sym q
one-root (inf false) r t p q = p ∙ sym q
one-root (fin s zero e) r t p q = p ∙ sym q
one-root (fin true (suc m) e) r t p q = p ∙ sym q
one-root (fin false (suc m) e) r t p q = p.1 ∙ ap root (one-nearest (fin false (suc m) e) p.0 q.0 p.2 q.2) ∙ sym q.1
