-- Laws of the scan without roots.
use mathlib.Core.Path.{◌≡◌, refl, sym, ap, ◌∙◌, subst}
use mathlib.Core.Logic.{◌⊎◌, inl, inr}
use mathlib.Core.Bool.{Bool, true, false, not, cond, true≢false}
use Prim.Native.Nat.{ℕ}
use lib.Dec.{T}
use lib.Ieee.{Float, binary64, fits, eq, lt, of_bits, is_nan}
use lib.Ieee.Bits.{is_true, is_false}
use lib.Ieee.Fits.{add-fits}
use Rattle.vector.specs.declared.Vector.{Vector}
use Rattle.vector.specs.Vectors.{add_of, sub_of, mul_scalar_of, distance_squared_of}
use Rattle.vector.specs.Lengths.{zero64, one64, along_of, segment_distance_of}
use Rattle.vector.specs.Root.{root_of}
use Rattle.vector.proofs.Order.{lt-through, lt-one_way}
use Rattle.vector.proofs.RootLaws.{rooted, sqrt_monotone, root_some}
use Rattle.vector.proofs.RootGap.{lt_trans, above_zero, roots_climb}
use Rattle.path_simplify.specs.declared.Records.{Records}
use Rattle.path_simplify.specs.Simplify.{farther_of}
use Rattle.path_simplify.specs.InnerSquares.{segment_square_of, far_of, settled_of, Under, Rising}

-- ---- the distance is its root

push : (f : Float → Float) (x y z : Bool) (a b c d : Float) → cond x (f a) (cond y (f b) (cond z (f c) (f d))) ≡ f (cond x a (cond y b (cond z c d)))
push f true y z a b c d = refl
push f false true z a b c d = refl
push f false false true a b c d = refl
push f false false false a b c d = refl

pub segment-root : (p v w : Vector) → segment_distance_of p v w ≡ rooted (segment_square_of p v w)
unfolding segment_distance_of segment_square_of
segment-root p v w =
    push rooted (eq (distance_squared_of v w) zero64) (lt (along_of p v w) zero64) (lt one64 (along_of p v w))
    (distance_squared_of p v) (distance_squared_of p v) (distance_squared_of p w) (distance_squared_of (add_of v (mul_scalar_of (sub_of w v) (along_of p v w))) p)

-- the root of 0 is 0
pub zero_rooted : rooted zero64 ≡ zero64
unfolding root_of of_bits
zero_rooted = refl

-- ---- the order of roots

-- what is above a root that another is not above is above that one
below-too : (a b c : Float) → lt a c ≡ true → lt a b ≡ false → T (not (is_nan b)) → lt b c ≡ true
below-too a b c p q r = go (lt b c) refl
  where
    go : (x : Bool) → lt b c ≡ x → x ≡ true
    go true e = refl
    go false e = absurd (subst T q (lt-through a c b (subst T (sym p) tt) (subst (λ (x : Bool). T (not x)) (sym e) tt) r))

-- what is above a root is above it where something between is not below
still_below : (a b c : Float) → lt a b ≡ true → lt c b ≡ false → T (not (is_nan c)) → lt a c ≡ true
still_below a b c p q r = is_true (lt a c) (lt-through a b c (subst T (sym p) tt) (subst (λ (x : Bool). T (not x)) (sym q) tt) r)

not_below : (a b c : Float) → lt a c ≡ false → lt c b ≡ false → T (not (is_nan c)) → lt a b ≡ false
not_below a b c p q r = go (lt a b) refl
  where
    go : (x : Bool) → lt a b ≡ x → x ≡ false
    go false e = refl
    go true e = absurd (true≢false (sym (still_below a b c e q r) ∙ p))

-- 0 and what is above it have roots
root_there : (x : Float) → T (fits binary64 x) → (x ≡ zero64) ⊎ (lt zero64 x ≡ true) → T (not (is_nan (rooted x)))
root_there x h (inl e) = rw (e, zero_rooted) (unfold of_bits is_nan in tt)
root_there x h (inr p) = root_some zero64 x h (rw zero_rooted (unfold of_bits is_nan in tt)) (subst T (sym p) tt)

-- ---- a step of the scan

-- a square that is 0 or above it
abbrev Held : Float → Type 0
Held x = (x ≡ zero64) ⊎ (lt zero64 x ≡ true)

held_under : (x y : Float) → Under x y → Held x
held_under x y (inl e) = inl e
held_under x y (inr p) = inr p.0

-- 0 is below what is above a square
zero_under : (x s : Float) → Held x → lt x s ≡ true → lt zero64 s ≡ true
zero_under x s (inl e) p = subst (λ (z : Float). lt z s ≡ true) e p
zero_under x s (inr q) p = unfold of_bits in lt_trans zero64 x s q p

-- a record's root is not above that of the next
no_lower : (x y : Float) → T (fits binary64 x) → T (fits binary64 y) → Under x y → Held y → lt (rooted y) (rooted x) ≡ false
no_lower x y f g u k = sqrt_monotone y x g f (go u k)
  where
    go : Under x y → Held y → lt y x ≡ false
    go (inl e) (inl k) = rw (e, k) (unfold of_bits lt in refl)
    go (inl e) (inr k) = rw e (is_false (lt y zero64) (lt-one_way zero64 y (subst T (sym k) tt)))
    go (inr p) k = is_false (lt y x) (lt-one_way x y (subst T (sym p.1) tt))

-- what is above the latest record has a root above that of the third
dropped : (x y z s : Float) → T (fits binary64 x) → T (fits binary64 y) → T (fits binary64 z) → T (fits binary64 s) → Under x y → Under y z → Held z → lt z s ≡ true → lt (rooted x) (rooted s) ≡ true
unfolding of_bits eq
dropped x y z s fx fy fz fs (inl e) v k l = rw e (above_zero s zero64 fs refl (zero_under z s k l))
dropped x y z s fx fy fz fs (inr p) (inl e) k l = absurd (none (rw e at p.1))
  where
    none : lt x zero64 ≡ true → ⊥
    none q = true≢false (sym q ∙ is_false (lt x zero64) (lt-one_way zero64 x (subst T (sym p.0) tt)))
dropped x y z s fx fy fz fs (inr p) (inr q) k l = roots_climb x y z s fx fy fz fs p.0 p.1 q.1 l

-- a square that comes after the records
module _ (r : Records) (h : Rising r) (i : ℕ) (s : Float) (g : T (fits binary64 s)) where
  abbrev d : Float
  d = rooted s

  abbrev d₁ : Float
  d₁ = rooted r.first.square

  abbrev d₂ : Float
  d₂ = rooted r.second.square

  abbrev d₃ : Float
  d₃ = rooted r.third.square

  some₁ : T (not (is_nan d₁))
  some₁ = root_there r.first.square h.formats.0 h.first

  some₂ : T (not (is_nan d₂))
  some₂ = root_there r.second.square h.formats.1 (held_under r.second.square r.first.square h.second)

  -- not above the latest record: no farther than the farthest
  stays : lt r.first.square s ≡ false → far_of (settled_of r) ≡ farther_of (far_of (settled_of r)) i (rooted s)
  unfolding settled_of farther_of
  stays l = go (lt d₂ d₁) (lt d₃ d₁) refl refl
    where
      last : lt d₁ d ≡ false
      last = sqrt_monotone r.first.square s h.formats.0 g l

      go : (x y : Bool) → lt d₂ d₁ ≡ x → lt d₃ d₁ ≡ y
          → far_of (cond x r.first (cond y r.second r.third)) ≡ cond (lt (far_of (cond x r.first (cond y r.second r.third))).far d) (record { at = i; far = d }) (far_of (cond x r.first (cond y r.second r.third)))
      go true y a b = rw last
      go false true a b = rw (not_below d₂ d d₁ a last some₁)
      go false false a b = rw (not_below d₃ d d₁ b last some₁)

  -- above the latest record: the next one
  abbrev next : Records
  next = record { first = record { at = i; square = s }; second = r.first; third = r.second }

  climbs : lt r.first.square s ≡ true → far_of (settled_of next) ≡ farther_of (far_of (settled_of r)) i (rooted s)
  unfolding settled_of farther_of
  climbs l = go (lt d₁ d) (lt d₂ d) (lt d₂ d₁) (lt d₃ d₁) refl refl refl refl
    where
      some : T (not (is_nan d))
      some = root_some r.first.square s g some₁ (subst T (sym l) tt)

      no_less : lt d d₁ ≡ false
      no_less = sqrt_monotone s r.first.square g h.formats.0 (is_false (lt s r.first.square) (lt-one_way r.first.square s (subst T (sym l) tt)))

      third-below : lt d₃ d ≡ true
      third-below = dropped r.third.square r.second.square r.first.square s h.formats.2 h.formats.1 h.formats.0 g h.third h.second h.first l

      second_below : lt d₁ d ≡ true → lt d₂ d ≡ true
      second_below a = below-too d₁ d₂ d a (no_lower r.second.square r.first.square h.formats.1 h.formats.0 h.second h.first) some₂

      go : (x y z u : Bool) → lt d₁ d ≡ x → lt d₂ d ≡ y → lt d₂ d₁ ≡ z → lt d₃ d₁ ≡ u
          → far_of (cond x next.first (cond y r.first r.second))
          ≡ cond (lt (far_of (cond z r.first (cond u r.second r.third))).far d) (record { at = i; far = d }) (far_of (cond z r.first (cond u r.second r.third)))
      go true y true u a b c e = rw a
      go true y false true a b c e = rw (second_below a)
      go true y false false a b c e = rw third-below
      go false true true u a b c e = rw a
      go false true false u a b c e = absurd (true≢false (sym (still_below d₂ d d₁ b a some₁) ∙ c))
      go false false true u a b c e = absurd (true≢false (sym (still_below d₂ d₁ d c no_less some) ∙ b))
      go false false false true a b c e = rw b
      go false false false false a b c e = absurd (true≢false (sym (still_below d₃ d d₁ third-below a some₁) ∙ e))

  rises : lt r.first.square s ≡ true → Rising next
  rises l = record { third = h.second; second = under h.first; first = inr (zero_under r.first.square s h.first l); formats = (g, h.formats.0, h.formats.1) }
    where
      under : Held r.first.square → Under r.first.square s
      under (inl e) = inl e
      under (inr p) = inr (p, l)

-- ---- with the square of a distance

square-fits : (x y z : Bool) (a b c d : Float) → T (fits binary64 a) → T (fits binary64 b) → T (fits binary64 c) → T (fits binary64 d) → T (fits binary64 (cond x a (cond y b (cond z c d))))
square-fits true y z a b c d f g h k = f
square-fits false true z a b c d f g h k = g
square-fits false false true a b c d f g h k = h
square-fits false false false a b c d f g h k = k

segment-fits : (p v w : Vector) → T (fits binary64 (segment_square_of p v w))
unfolding segment_square_of
segment-fits p v w = square-fits (eq (distance_squared_of v w) zero64) (lt (along_of p v w) zero64) (lt one64 (along_of p v w)) _ _ _ _ (add-fits binary64 _ _) (add-fits binary64 _ _) (add-fits binary64 _ _) (add-fits binary64 _ _)

module _ (r : Records) (h : Rising r) (i : ℕ) (p v w : Vector) (s : Float) (e : s ≡ segment_square_of p v w) where
  is_root : rooted s ≡ segment_distance_of p v w
  is_root = ap rooted e ∙ sym (segment-root p v w)

  fit : T (fits binary64 s)
  fit = subst (λ (x : Float). T (fits binary64 x)) (sym e) (segment-fits p v w)

  pub not_farther : lt r.first.square s ≡ false → (far_of (settled_of r) ≡ farther_of (far_of (settled_of r)) i (segment_distance_of p v w)) × Rising r
  not_farther l = (stays r h i s fit l ∙ ap (farther_of (far_of (settled_of r)) i) is_root, h)

  pub is_farther : lt r.first.square s ≡ true
      → (far_of (settled_of (record { first = record { at = i; square = s }; second = r.first; third = r.second })) ≡ farther_of (far_of (settled_of r)) i (segment_distance_of p v w))
      × Rising (record { first = record { at = i; square = s }; second = r.first; third = r.second })
  is_farther l = (climbs r h i s fit l ∙ ap (farther_of (far_of (settled_of r)) i) is_root, rises r h i s fit l)

-- ---- where the scan begins: at 0, the root of 0

abbrev pub start : ℕ → Records
start lo = record { first = record { at = lo; square = zero64 }; second = record { at = lo; square = zero64 }; third = record { at = lo; square = zero64 } }

pub start_rising : (lo : ℕ) → Rising (start lo)
start_rising lo = record { third = inl refl; second = inl refl; first = inl refl; formats = (zero-fits, zero-fits, zero-fits) }
  where
    zero-fits : T (fits binary64 zero64)
    zero-fits = unfold of_bits fits in tt

pub start_far : (lo : ℕ) → far_of (settled_of (start lo)) ≡ record { at = lo; far = zero64 }
unfolding settled_of root_of of_bits lt
start_far lo = refl
