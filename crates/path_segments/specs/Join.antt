-- Segments between points, two in a row of a lent list each, joined by the splice rule: ends meet where their points are the same.
use Rattle.std.specs.Prelude.{Bool, ◌&&◌, cond, List, [], ◌∷◌, ℕ, ◌+◌, ◌*◌, length, replicate, leb, Float}
use Rattle.refusal.specs.Limits.{most_strokes}
use Rattle.refusal.specs.Said.{Said, accepted}
use Rattle.refusal.specs.Outcome.{Outcome, leaves}
use Rattle.vector.specs.declared.Vector.{Vector}
use Rattle.vector.specs.Lengths.{zero64}
use Rattle.path.specs.Strokes.{gather, point_at}
use Rattle.path.specs.Laid.{over, joined, starts_from, flat}
use Rattle.path_splice_rule.specs.Splice.{splice}
use Rattle.path_classes.specs.Classes.{same_point}

-- segment i lies at the points 2 i and 2 i + 1
abbrev pub segment_at : List Float → ℕ → List Vector
segment_at ps i = point_at ps (2 * i) ∷ point_at ps (2 * i + 1) ∷ []

-- the first n segments of a list of points
unfoldable pub segments_in : List Float → ℕ → List (List Vector)
segments_in ps n = gather (segment_at ps) 0 n

abbrev pub origin : Vector
origin = record { x = zero64; y = zero64; z = zero64 }

-- the strokes that segments join to
unfoldable pub join_of : List (List Vector) → List (List Vector)
join_of ss = splice origin same_point ss

pub record Lent : Type 0 where
  pub words : List ℕ
  pub points : List Float
  pub starts : List ℕ

abbrev pub left : Said ℕ → List ℕ → List Float → List ℕ → Outcome Lent
left a s op os = leaves a (record { words = s; points = op; starts = os })

-- the strokes' points in a row, the start of each, and the rest as it was
unfoldable pub laid : List (List Vector) → List ℕ → List Float → List ℕ → Outcome Lent
laid ss s op os = left (accepted (length (joined ss) ∷ length ss ∷ [])) s (over op (flat (joined ss))) (over os (starts_from 0 ss))

-- n segments are within the limit, with 12 words of scratch, 2 points and a start of room each
unfoldable pub join_fits : ℕ → ℕ → ℕ → ℕ → Bool
join_fits n words room starts = leb n most_strokes && leb (12 * n) words && leb (6 * n) room && leb n starts

-- the strokes written, and the first 12 n words zero; nothing is changed where it does not fit
unfoldable pub join_left : List Float → ℕ → List ℕ → List Float → List ℕ → Outcome Lent
join_left ps n s op os =
    cond (join_fits n (length s) (length op) (length os)) (laid (join_of (segments_in ps n)) (over s (replicate (12 * n) 0)) op os) (left (accepted (0 ∷ 0 ∷ [])) s op os)
