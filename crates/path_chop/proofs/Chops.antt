-- Laws of chopping, and of the points written by it.
use mathlib.Core.Path.{◌≡◌, refl, sym, ap, subst, ◌∙◌}
use mathlib.Core.Bool.{Bool, true, false, cond}
use mathlib.Core.Logic.{◌⊎◌, inl, inr, ⊎_elim}
use mathlib.Core.List.{List, [], ◌∷◌, ◌++◌, map}
use Prim.Native.Nat.{ℕ, zero, suc, zero-le, ◌+◌, ◌-◌, ◌/◌, ◌≤◌, ◌<◌}
use native.Mathlib.Omega.{arith}
use lib.ListN.{length, get_or, drop, length-append, length-map}
use lib.Dec.{T}
use lib.Ieee.{Float, binary64, add, lt}
use lib.Ieee.Bits.{is_false}
use Rattle.vector.specs.declared.Vector.{Vector}
use Rattle.vector.specs.Root.{root_of}
use Rattle.vector.specs.Vectors.{sub_of, length_squared_of}
use Rattle.vector.specs.Lengths.{or_nan, length_of}
use Rattle.vector.proofs.Order.{lt-one_way}
use Rattle.path.specs.Strokes.{point_at, gather}
use Rattle.path.specs.InnerPushes.{put_point, put_points}
use Rattle.path.specs.Courses.{Course, course, advanced}
use Rattle.path.proofs.Gathers.{gather-more, gather_none, length-gather, strokes_more, strokes_none}
use Rattle.path.proofs.Pushes.{ink_at, ink_none, ink_append}
use Rattle.path.proofs.Points.{points_lie, ink_more}
use Rattle.path_chop.specs.Chop.{too_many, along, steps_of, cut, span, spans, chopped, chopped_by, chopped_of}
use Rattle.path_chop.specs.InnerCounts.{length_or_step}

-- ---- the steps of a span

stop : (m : ℕ) (l step d : Float) → lt d l ≡ false → steps_of m l step d ≡ []
unfolding steps_of
stop zero l step d t = refl
stop (suc m) l step d t = rw t

module _ (n k : ℕ) (l step d : Float) where
  pub steps_more : n < k → lt d l ≡ true → steps_of (k - n) l step d ≡ d ∷ steps_of (k - (n + 1)) l step (add binary64 d step)
  unfolding steps_of
  steps_more h t = let e : k - n ≡ suc (k - (n + 1)) = omega arith in rw e (rw t)

  pub steps_stop : lt d l ≡ false → steps_of (k - n) l step d ≡ []
  steps_stop t = stop (k - n) l step d t

  pub steps_none : k ≤ n → steps_of (k - n) l step d ≡ []
  unfolding steps_of
  steps_none h = let e : k - n ≡ 0 = omega arith in rw e

-- either the first k are all, or there are k of them at least
abbrev Limited : ℕ → List Float → List Float → Type 0
Limited k some all = (all ≡ some) ⊎ ((length some ≡ k) × (k ≤ length all))

limit_more : (k : ℕ) (x : Bool) (d : Float) (some all : List Float) → Limited k some all → Limited (suc k) (cond x (d ∷ some) []) (cond x (d ∷ all) [])
limit_more k true d some all h = ⊎_elim (λ e. inl (ap (λ (s : List Float). d ∷ s) e)) (λ e. inr (omega arith, omega arith)) h
limit_more k false d some all h = inl refl

pub steps_limit : (k n : ℕ) (l step d : Float) → Limited k (steps_of k l step d) (steps_of (k + n) l step d)
unfolding steps_of
steps_limit zero n l step d = inr (refl, zero-le)
steps_limit (suc k) n l step d = let e : suc k + n ≡ suc (k + n) = omega arith in rw e (limit_more k (lt d l) d _ _ (steps_limit k n l step (add binary64 d step)))

-- steps counted only up to the most that may follow
pub steps_within : (so_far : ℕ) (l step : Float) → so_far ≤ too_many → Limited (too_many - so_far) (steps_of (too_many - so_far) l step step) (steps_of too_many l step step)
steps_within so_far l step h =
    let e : too_many - so_far + so_far ≡ too_many = omega arith in
    subst (λ (n : ℕ). Limited (too_many - so_far) (steps_of (too_many - so_far) l step step) (steps_of n l step step)) e (steps_limit (too_many - so_far) so_far l step step)

-- the loop that writes them
module _ (f : Float → Vector) (n k : ℕ) (l step d : Float) (b : List Float) (o : ℕ) where
  pub steps_turn : n < k → lt d l ≡ true → (w : Vector) → w ≡ f d → {q : List Float} → q ≡ put_point b o w
      → advanced put_points (course q (o + 1)) (map f (steps_of (k - (n + 1)) l step (add binary64 d step))) ≡ advanced put_points (course b o) (map f (steps_of (k - n) l step d))
  steps_turn h t w e g = rw (g, e, steps_more n k l step d h t) (ink_more b o (f d) (map f (steps_of (k - (n + 1)) l step (add binary64 d step))))

  pub steps_room : n < k → lt d l ≡ true → (q : Course Float) (ds : List Float) → advanced put_points (course b o) (map f (steps_of (k - n) l step d)) ≡ advanced put_points q (map f ds)
      → o + 1 ≤ q.at + length ds
  steps_room h t q ds e =
      omega
      (arith, ink_at put_points (course b o) q _ _ e, ap length (steps_more n k l step d h t), length-map (steps_of (k - n) l step d) f, length-map ds f)

  pub steps_halt : lt d l ≡ false → advanced put_points (course b o) (map f (steps_of (k - n) l step d)) ≡ course b o
  steps_halt t = rw (steps_stop n k l step d t) (ink_none points_lie (course b o))

  pub steps_end : k ≤ n → advanced put_points (course b o) (map f (steps_of (k - n) l step d)) ≡ course b o
  steps_end h = rw (steps_none n k l step d h) (ink_none points_lie (course b o))

-- ---- a length, or the step where no step lies within it

not_below_itself : (x : Float) → lt x x ≡ false
not_below_itself x = go (lt x x) refl
  where
    go : (b : Bool) → lt x x ≡ b → lt x x ≡ false
    go false e = e
    go true e = is_false (lt x x) (lt-one_way x x (subst T (sym e) tt))

-- by a test whether a step lies within it
module _ (step l : Float) {b : Bool} (e : b ≡ lt step l) where
  pub reach_long : {r : Float} → b ≡ true → r ≡ l → r ≡ length_or_step step l
  reach_long t h = rw (sym e ∙ t) h

  pub reach_short : b ≡ false → step ≡ length_or_step step l
  reach_short t = rw (sym e ∙ t)

-- by the square of the length
pub reach_is : (step s r : Float) (v : Vector) → s ≡ length_squared_of v → r ≡ length_or_step step (or_nan (root_of s)) → r ≡ length_or_step step (length_of v)
reach_is step s r v e f = f ∙ ap (λ (z : Float). length_or_step step (or_nan (root_of z))) e

pub reach_cut : (n : ℕ) (f : Float → Float → Vector) (step l : Float) → map (f (length_or_step step l)) (steps_of n (length_or_step step l) step step) ≡ map (f l) (steps_of n l step step)
reach_cut n f step l = go (lt step l) refl
  where
    go : (b : Bool) → lt step l ≡ b → map (f (cond b l step)) (steps_of n (cond b l step) step step) ≡ map (f l) (steps_of n l step step)
    go true e = refl
    go false e = ap (map (f step)) (stop n step step step (not_below_itself step)) ∙ ap (map (f l)) (sym (stop n l step step e))

pub reach_count : (n : ℕ) (step l : Float) → length (steps_of n (length_or_step step l) step step) ≡ length (steps_of n l step step)
reach_count n step l = go (lt step l) refl
  where
    go : (b : Bool) → lt step l ≡ b → length (steps_of n (cond b l step) step step) ≡ length (steps_of n l step step)
    go true e = refl
    go false e = ap length (stop n step step step (not_below_itself step)) ∙ ap length (sym (stop n l step step e))

-- ---- a span: what its steps give, and its end

module _ (step : Float) (a b : Vector) (v : Vector) (l : Float) (ev : v ≡ sub_of b a) (el : l ≡ length_or_step step (length_of v)) where
  span-is : span too_many step a b ≡ map (along a v l) (steps_of too_many l step step) ++ (b ∷ [])
  unfolding span cut
  span-is = rw (el, ev) (ap (λ (x : List Vector). x ++ (b ∷ [])) (sym (reach_cut too_many (along a (sub_of b a)) step (length_of (sub_of b a)))))

  pub span-length : length (span too_many step a b) ≡ length (steps_of too_many l step step) + 1
  span-length =
      let ds = steps_of too_many l step step in
      ap length span-is ∙ omega (arith, length-append (map (along a v l) ds) (b ∷ []), length-map ds (along a v l))

  pub span-at : (p : Course Float) (q : List Float) (o : ℕ) → course q o ≡ advanced put_points p (map (along a v l) (steps_of too_many l step step))
      → o + 1 ≡ p.at + length (span too_many step a b)
  unfolding advanced
  span-at p q o e =
      let n : o ≡ p.at + length (map (along a v l) (steps_of too_many l step step)) = ap (λ (x : Course Float). x.at) e in
      omega (arith, span-length, length-map (steps_of too_many l step step) (along a v l))

  pub span-ink : (p : Course Float) (q : List Float) (o : ℕ) → course q o ≡ advanced put_points p (map (along a v l) (steps_of too_many l step step))
      → {q' : List Float} → q' ≡ put_point q o b → course q' (o + 1) ≡ advanced put_points p (span too_many step a b)
  span-ink p q o e g =
      let ds = map (along a v l) (steps_of too_many l step step) in
      rw (g, span-is)
      (sym (ink_none points_lie (course (put_point q o b) (o + 1))) ∙ ink_more q o b [] ∙ ap (λ (x : Course Float). advanced put_points x (b ∷ [])) e ∙ ink_append points_lie p ds (b ∷ []))

-- by its length
pub span-count : (step : Float) (a b v : Vector) (l : Float) → v ≡ sub_of b a → l ≡ length_of v → length (span too_many step a b) ≡ length (steps_of too_many l step step) + 1
span-count step a b v l ev el =
    span-length step a b v (length_or_step step (length_of v)) ev refl ∙ ap (λ (n : ℕ). n + 1) (reach_count too_many step (length_of v)) ∙ ap (λ (x : Float). length (steps_of too_many x step step) + 1) (sym el)

-- ---- the spans of a stroke

module _ (step : Float) (at : ℕ → Vector) (i e : ℕ) (p : Vector) where
  pub spans-more : i < e → (q : Vector) → q ≡ at i → spans too_many step p (gather at i (e - i)) ≡ span too_many step p q ++ spans too_many step q (gather at (i + 1) (e - (i + 1)))
  unfolding spans
  spans-more h q f = rw (gather-more at i e h, f)

  pub spans-none : e ≤ i → spans too_many step p (gather at i (e - i)) ≡ []
  unfolding spans
  spans-none h = rw (gather_none at i e h)

  pub spans-turn : i < e → (q : Vector) → q ≡ at i → (x y : Course Float) → y ≡ advanced put_points x (span too_many step p q)
      → advanced put_points y (spans too_many step q (gather at (i + 1) (e - (i + 1)))) ≡ advanced put_points x (spans too_many step p (gather at i (e - i)))
  spans-turn h q f x y g = rw (g, spans-more h q f) (ink_append points_lie x (span too_many step p q) (spans too_many step q (gather at (i + 1) (e - (i + 1)))))

  pub spans-end : e ≤ i → (x : Course Float) → advanced put_points x (spans too_many step p (gather at i (e - i))) ≡ x
  spans-end h x = rw (spans-none h) (ink_none points_lie x)

  -- the next span does not pass what all come to
  pub spans-room : i < e → (q : Vector) → q ≡ at i → (x y : Course Float) (vs : List Vector) → advanced put_points x (spans too_many step p (gather at i (e - i))) ≡ advanced put_points y vs
      → x.at + length (span too_many step p q) ≤ y.at + length vs
  spans-room h q f x y vs g =
      omega (
        arith,
        ink_at put_points x y (spans too_many step p (gather at i (e - i))) vs g,
        ap length (spans-more h q f),
        length-append (span too_many step p q) (spans too_many step q (gather at (i + 1) (e - (i + 1)))),
      )

-- ---- a stroke

pub chopped-short : (step : Float) (s : List Vector) → length s < 2 → chopped too_many step s ≡ []
unfolding chopped
chopped-short step [] h = refl
chopped-short step (a ∷ []) h = refl
chopped-short step (a ∷ b ∷ s) h = absurd (omega arith)

module _ (step : Float) (at : ℕ → Vector) (a e : ℕ) where
  pub stroke_short : e - a < 2 → length (chopped too_many step (gather at a (e - a))) ≡ 0
  stroke_short h = ap length (chopped-short step (gather at a (e - a)) (omega (arith, length-gather at a (e - a))))

  pub chopped-long : a + 2 ≤ e → (p : Vector) → p ≡ at a → chopped too_many step (gather at a (e - a)) ≡ p ∷ spans too_many step p (gather at (a + 1) (e - (a + 1)))
  unfolding chopped
  chopped-long h p f = rw (gather-more at a e (omega arith), gather-more at (a + 1) e (omega arith), f)

  pub chopped-length : a + 2 ≤ e → (p : Vector) → p ≡ at a → length (chopped too_many step (gather at a (e - a))) ≡ length (spans too_many step p (gather at (a + 1) (e - (a + 1)))) + 1
  chopped-length h p f = omega (arith, ap length (chopped-long h p f))

  pub stroke_some : a + 2 ≤ e → 0 < length (chopped too_many step (gather at a (e - a)))
  stroke_some h = omega (arith, chopped-length h (at a) refl)

  pub chopped-ink : a + 2 ≤ e → (p : Vector) → p ≡ at a → (b q : List Float) (o : ℕ) (y : Course Float) → q ≡ put_point b o p
      → y ≡ advanced put_points (course q (o + 1)) (spans too_many step p (gather at (a + 1) (e - (a + 1)))) → y ≡ advanced put_points (course b o) (chopped too_many step (gather at a (e - a)))
  chopped-ink h p f b q o y g k = k ∙ rw (g, chopped-long h p f) (ink_more b o p (spans too_many step p (gather at (a + 1) (e - (a + 1)))))

-- ---- the strokes from the i-th on

module _ (step : Float) (ps : List Float) (ss : List ℕ) (i : ℕ) where
  pub chopped-more : (e : ℕ) → i < length ss → e ≡ get_or ss (i + 1) (length ps / 3)
      → chopped_of step ps (drop i ss) ≡ chopped too_many step (gather (point_at ps) (get_or ss i 0) (e - get_or ss i 0)) ∷ chopped_of step ps (drop (i + 1) ss)
  unfolding chopped_by
  chopped-more = strokes_more (chopped too_many step) (point_at ps) (length ps / 3) ss i

  pub chopped-none : length ss ≤ i → chopped_of step ps (drop i ss) ≡ []
  unfolding chopped_by
  chopped-none = strokes_none (chopped too_many step) (point_at ps) (length ps / 3) ss i
