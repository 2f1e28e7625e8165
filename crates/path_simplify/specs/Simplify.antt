-- Leaving points out of strokes: the first farthest from the segment between the ends splits a stroke where it is farther than the threshold.
use Rattle.std.specs.Prelude.{Bool, cond, ◌&&◌, List, [], ◌∷◌, ◌++◌, map, ℕ, zero, suc, ◌+◌, ◌-◌, ◌/◌, length, get_or, ltb, Float}
use Rattle.std.specs.Float.Ieee.{lt}
use Rattle.vector.specs.declared.Vector.{Vector}
use Rattle.vector.specs.Lengths.{zero64, segment_distance_of}
use Rattle.path.specs.Strokes.{point_at}

-- the farthest point so far: its place, and how far it is
pub record Far : Type 0 where
  pub at : ℕ
  pub far : Float

-- the farther of two, the first where they are level
unfoldable pub farther_of : Far → ℕ → Float → Far
farther_of best i d = cond (lt best.far d) (record { at = i; far = d }) best

-- the farthest from the segment from a to b among the n points from place i on, best among those before
unfoldable pub far_from : (ℕ → Vector) → Vector → Vector → Far → ℕ → ℕ → Far
far_from at a b best i zero = best
far_from at a b best i (suc n) = far_from at a b (farther_of best i (segment_distance_of (at i) a b)) (i + 1) n

-- the farthest of the points between places lo and hi, lo itself at 0 where none is above 0
unfoldable pub farthest : (ℕ → Vector) → ℕ → ℕ → Far
farthest at lo hi = far_from at (at lo) (at hi) (record { at = lo; far = zero64 }) (lo + 1) (hi - (lo + 1))

-- strictly above the threshold. That it lies past lo is asked too, for a recursion that ends whatever the threshold is; for a threshold
-- that a call accepts it says nothing more: `splits-is-above` (proofs/SplitTest)
unfoldable pub splits_at : Far → ℕ → Float → Bool
splits_at f lo t = lt t f.far && ltb lo f.at

-- the points kept, and how many distances were measured
pub record Thin : Type 0 where
  pub points : List Vector
  pub measured : ℕ

abbrev pub nothing : Thin
nothing = record { points = []; measured = 0 }

-- one point of the points from lo up to hi, after a look at all between
unfoldable pub first : (ℕ → Vector) → ℕ → ℕ → Thin
first at lo hi = record { points = at lo ∷ []; measured = hi - (lo + 1) }

-- after that look, the two parts
unfoldable pub parts : ℕ → Thin → Thin → Thin
parts look l r = record { points = l.points ++ r.points; measured = look + l.measured + r.measured }

-- what is kept of the points from place lo up to, and without, place hi; n is hi - lo or more
unfoldable pub thin : ℕ → Float → (ℕ → Vector) → ℕ → ℕ → Thin
thin zero t at lo hi = nothing
thin (suc n) t at lo hi =
    let m = (farthest at lo hi).at in
    let split = parts (hi - (lo + 1)) (thin n t at lo m) (thin n t at m hi) in
    cond (splits_at (farthest at lo hi) lo t) split (first at lo hi)

-- what is kept of a stroke from place a up to e: its last point too
unfoldable pub thinned : Float → (ℕ → Vector) → ℕ → ℕ → Thin
thinned t at a e =
    let front = thin (e - 1 - a) t at a (e - 1) in
    cond (ltb a e) (record { points = front.points ++ (at (e - 1) ∷ []); measured = front.measured }) nothing

-- every stroke of n points: each runs to the next start, the last to the end
unfoldable pub thins_of : Float → (ℕ → Vector) → ℕ → List ℕ → List Thin
thins_of t at n [] = []
thins_of t at n (s ∷ ss) = thinned t at s (get_or ss 0 n) ∷ thins_of t at n ss

abbrev pub simplified : List Thin → List (List Vector)
simplified ts = map (λ (t : Thin). t.points) ts

unfoldable pub distances : List Thin → ℕ
distances [] = 0
distances (t ∷ ts) = t.measured + distances ts

-- of a list of points with its table
abbrev pub simplified_of : Float → List Float → List ℕ → List Thin
simplified_of t ps ss = thins_of t (point_at ps) (length ps / 3) ss
