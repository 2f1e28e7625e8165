-- Two of Heron's steps from the line, in f64, and the whole number nearest to what they give: the whole part of the root, or 1 above.
use Rattle.std.proofs.Common.{◌≡◌, ℕ, ◌+◌, ◌-◌, ◌*◌, ◌/◌, ◌%◌, ◌^◌, ◌<◌, ◌≤◌, false, not, T, ltb, pos, negsuc, sym, refl, ap, ◌∙◌, subst, ⊎_elim, mul-le-mul, arith, lt→ltb}
use lib.Arith.{le→nltb}
use lib.Ieee.{Float, fin, binary64, of_bits, of_int, add, mul, to_bits, is_nan}
use lib.Ieee.Bits.{is_true, is_false}
use lib.Ieee.Exact.{HasValue}
use lib.Ieee.Back.{round_whole}
use Rattle.vector.specs.InnerSteps.{Digits, Close, rough_of, heron_of}
use Rattle.vector.proofs.Roots.{lt-or_ge, sizes}
use Rattle.vector.proofs.RootNearest.{digits_of_lem}
use Rattle.vector.proofs.Between.{Between, own, stepped, lined}
use Rattle.vector.proofs.Heron.{Rough, Near, first-line, second_line, hardly_below, nearer, nearest}
use Rattle.vector.proofs.LastDigits.{last_digits}

module _ (n : ℕ) (least : 2 ^ 52 ≤ n) (most : n < 2 ^ 54) where
  abbrev half : ℕ
  half = (n + 1) / 2

  abbrev x : Float
  x = of_int binary64 (pos half)

  half-least : n ≤ 2 * half
  half-least = omega arith

  half-most : 2 * half ≤ n + 1
  half-most = omega arith

  value : HasValue x false half 1
  unfolding of_int
  value = round_whole binary64 false half (omega arith)

  -- ---- the line
  first : n < 2 ^ 53 → (w : ℕ) × Rough n w × Between w (w + 1) (add binary64 (mul binary64 x (of_bits binary64 0x3e4a_8000_0000_0000)) (of_bits binary64 0x4183_0000_0000_0000))
  unfolding of_bits
  first h =
      let b = own (lined x (fin false 53 (negsuc 31)) (fin false 19 (pos 21)) half 53 (2 ^ 32) (19 * 2 ^ 21) value (refl, refl) (refl, refl) (omega arith) (omega arith) (omega arith) (omega arith) (omega arith) (omega arith)) in
      (b.0, first-line n half half-least half-most b.0 (omega arith) (omega arith) b.1 b.2, b.3)

  second : 2 ^ 53 ≤ n → (w : ℕ) × Rough n w × Between w (w + 1) (add binary64 (mul binary64 x (of_bits binary64 0x3e42_c000_0000_0000)) (of_bits binary64 0x418a_e000_0000_0000))
  unfolding of_bits
  second h =
      let b = own (lined x (fin false 75 (negsuc 32)) (fin false 215 (pos 18)) half 75 (2 ^ 33) (215 * 2 ^ 18) value (refl, refl) (refl, refl) (omega arith) (omega arith) (omega arith) (omega arith) (omega arith) (omega arith)) in
      (b.0, second_line n half half-least half-most b.0 (omega arith) (omega arith) b.1 b.2, b.3)

  line : (w : ℕ) × Rough n w × Between w (w + 1) (rough_of n x)
  line = ⊎_elim (λ g. rw (is_true (ltb n (2 ^ 53)) (lt→ltb n (2 ^ 53) g)) (first g)) (λ g. rw (is_false (ltb n (2 ^ 53)) (le→nltb n (2 ^ 53) g)) (second g)) (lt-or_ge n (2 ^ 53))

  -- ---- a step from w of 2^-8
  step : (w : ℕ) (r : Float) → Between w (w + 1) r → 2 ^ 33 ≤ w → w < 2 ^ 36 → Between (2 ^ 16 * half / (w + 1) + w / 2) (2 ^ 16 * half / w + w / 2 + 2) (heron_of x r)
  step w r b l u = stepped x r half w value (omega arith) b (omega arith) (omega arith) (omega arith) (omega arith)

  once : (w : ℕ) × Near n w × Between w (w + 1) (heron_of x (rough_of n x))
  once =
      let w = line.0 in
      let r = line.1 in
      let b = own (step w (rough_of n x) line.2 (omega (arith, r.least)) (omega (arith, r.most))) in
      (b.0, nearer n half half-least half-most w (omega (arith, r.least)) b.0 least r b.1 b.2, b.3)

  -- ---- the whole part of the root
  root : (s : ℕ) × (s < 2 ^ 54) × Digits n s
  root = digits_of_lem n (omega arith)

  root_least : 2 ^ 26 ≤ root.0
  root_least = (sizes n root.0 least most root.2).0

  root_most : root.0 < 2 ^ 27
  root_most = (sizes n root.0 least most root.2).1

  -- what 2^52 is added to
  abbrev sum : Float → Float
  sum r = add binary64 r (of_bits binary64 0x4330_0000_0000_0000)

  two_steps : let y = sum (heron_of x (heron_of x (rough_of n x))) in T (not (is_nan y)) × (1075 * 2 ^ 52 + root.0 ≤ to_bits binary64 y) × (to_bits binary64 y ≤ 1075 * 2 ^ 52 + root.0 + 1)
  unfolding of_bits
  two_steps =
      let s = root.0 in
      let w = once.0 in
      let r = once.1 in
      let m : 2 ^ 8 * s * (2 ^ 8 * s) ≤ 2 ^ 16 * n = omega (arith, root.2.not_above) in
      let t = hardly_below n half half-least half-most w (2 ^ 8 * s) m in
      last_digits s (omega (arith, root_least)) (omega (arith, root_most)) (2 ^ 16 * half / (w + 1) + w / 2) (2 ^ 16 * half / w + w / 2 + 2) (heron_of x (heron_of x (rough_of n x)))
      (step w (heron_of x (rough_of n x)) once.2 r.least r.most) (omega arith)
      (nearest n half half-least half-most w r.least s root_least root_most root.2 r)

  -- of the code's own numbers: a the rough root, b and c what the steps give
  module _ (a b c : Float) (rough : a ≡ rough_of n x) (first_step : b ≡ heron_of x a) (second-step : c ≡ heron_of x b) where
    is-twice : heron_of x (heron_of x (rough_of n x)) ≡ c
    is-twice = sym (second-step ∙ ap (heron_of x) (first_step ∙ ap (heron_of x) rough))

    pub sum-no-nan : T (not (is_nan (sum c)))
    sum-no-nan = subst (λ (z : Float). T (not (is_nan (sum z)))) is-twice two_steps.0

    pub close : Close n (to_bits binary64 (sum c) % 2 ^ 28)
    close = subst (λ (z : Float). Close n (to_bits binary64 (sum z) % 2 ^ 28)) is-twice (either (to_bits binary64 (sum (heron_of x (heron_of x (rough_of n x))))) root.0 root.2 root_least root_most two_steps.1 two_steps.2)
      where
        either : (b s : ℕ) → Digits n s → 2 ^ 26 ≤ s → s < 2 ^ 27 → 1075 * 2 ^ 52 + s ≤ b → b ≤ 1075 * 2 ^ 52 + s + 1 → Close n (b % 2 ^ 28)
        either b s g l u h k = ⊎_elim (λ e. same (b % 2 ^ 28) s g l u (omega arith)) (λ e. next (b % 2 ^ 28) s g l u (omega arith)) (lt-or_ge b (1075 * 2 ^ 52 + s + 1))
          where
            same : (r s : ℕ) → Digits n s → 2 ^ 26 ≤ s → s < 2 ^ 27 → r ≡ s → Close n r
            same r s g l u e = rw e (let m : (s - 1) * (s - 1) ≤ s * s = mul-le-mul (omega arith) (omega arith) in record { some = omega arith; most = omega arith; near = omega (arith, g.not_above); next_above = g.next_above })

            next : (r s : ℕ) → Digits n s → 2 ^ 26 ≤ s → s < 2 ^ 27 → r ≡ s + 1 → Close n r
            next r s g l u e =
                let m : (s + 1) * (s + 1) ≤ (s + 2) * (s + 2) = mul-le-mul (omega arith) (omega arith) in
                let q : (s + 1 - 1) * (s + 1 - 1) ≡ s * s = ap (λ (z : ℕ). z * z) (omega arith) in
                rw e (record { some = omega arith; most = omega arith; near = omega (arith, g.not_above); next_above = omega (arith, g.next_above) })
