-- The second test of `splits_at`, that the farthest lies past lo, changes nothing for a threshold that a call accepts: what is above
-- such a threshold is above 0, and no point at lo is.
use mathlib.Core.Path.{◌≡◌, refl, sym, subst}
use mathlib.Core.Logic.{◌⊎◌, inl, inr}
use mathlib.Core.Bool.{Bool, true, false, not, cond, ◌&&◌}
use Prim.Native.Nat.{ℕ, zero, suc, ◌+◌, ◌-◌, ◌<◌}
use native.Mathlib.Omega.{arith}
use lib.Dec.{T, ltb}
use lib.Ieee.{Float, lt}
use borrow.Author.Tests.{lt-ltb}
use Rattle.vector.specs.declared.Vector.{Vector}
use Rattle.vector.specs.Lengths.{zero64, segment_distance_of}
use Rattle.vector.proofs.Shares.{le_not_lt}
use Rattle.path_simplify.specs.Simplify.{Far, farther_of, far_from, farthest, splits_at}
use Rattle.path_simplify.specs.Call.{threshold_good}

-- past lo, or where the scan began
Past : ℕ → Far → Type 0
Past lo f = (lo < f.at) ⊎ (f.far ≡ zero64)

past_farther : (lo i : ℕ) (best : Far) (d : Float) → lo < i → Past lo best → Past lo (farther_of best i d)
unfolding farther_of Past
past_farther lo i best d h k = go (lt best.far d)
  where
    go : (x : Bool) → Past lo (cond x (record { at = i; far = d }) best)
    go true = inl h
    go false = k

past_from : (at : ℕ → Vector) (a b : Vector) (lo i n : ℕ) (best : Far) → lo < i → Past lo best → Past lo (far_from at a b best i n)
unfolding far_from
past_from at a b lo i zero best h k = k
past_from at a b lo i (suc n) best h k = past_from at a b lo (i + 1) n (farther_of best i (segment_distance_of (at i) a b)) (omega arith) (past_farther lo i best (segment_distance_of (at i) a b) h k)

-- the farthest lies past lo, or it is no farther than 0
past_farthest : (at : ℕ → Vector) (lo hi : ℕ) → Past lo (farthest at lo hi)
unfolding farthest Past
past_farthest at lo hi = past_from at (at lo) (at hi) lo (lo + 1) (hi - (lo + 1)) (record { at = lo; far = zero64 }) (omega arith) (inr refl)

-- no accepted threshold is below 0
not_zero : (t : Float) → threshold_good t ≡ true → lt t zero64 ≡ true → ⊥
not_zero t g e = subst (λ (x : Bool). T (not x)) e (le_not_lt zero64 t (subst T (sym g) tt))

-- for a threshold that a call accepts, a stroke is split exactly where its farthest point is above the threshold
pub splits_is_above : (at : ℕ → Vector) (lo hi : ℕ) (t : Float) → threshold_good t ≡ true → splits_at (farthest at lo hi) lo t ≡ lt t (farthest at lo hi).far
unfolding splits_at Past
splits_is_above at lo hi t g = go (lt t (farthest at lo hi).far) refl (past_farthest at lo hi)
  where
    go : (x : Bool) → lt t (farthest at lo hi).far ≡ x → (lo < (farthest at lo hi).at) ⊎ ((farthest at lo hi).far ≡ zero64) → x && ltb lo (farthest at lo hi).at ≡ x
    go false e p = refl
    go true e (inl h) = lt-ltb lo (farthest at lo hi).at h
    go true e (inr z) = absurd (not_zero t g (rw z at e))
