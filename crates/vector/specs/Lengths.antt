-- Lengths, and what is worked out with them.
use Rattle.std.specs.Prelude.{cond, [], ◌∷◌, from_bits, slice_index_or, Float}
use Rattle.std.specs.Float.{nan, binary64}
use Rattle.std.specs.Float.Ieee.{div, eq, lt}
use Rattle.refusal.specs.Said.{Said, accepted}
use Rattle.vector.specs.declared.Vector.{Vector}
use Rattle.vector.specs.Vectors.{add_of, sub_of, mul_scalar_of, div_scalar_of, dot_of, length_squared_of, distance_squared_of}
use Rattle.vector.specs.Root.{root_of}

-- the root that was answered, NaN where it was refused
abbrev pub or_nan : Said Float → Float
or_nan r = slice_index_or r.values 0 nan

abbrev pub zero64 : Float
zero64 = from_bits binary64 0

abbrev pub one64 : Float
one64 = from_bits binary64 0x3ff0_0000_0000_0000

abbrev pub length_of : Vector → Float
length_of v = or_nan (root_of (length_squared_of v))

abbrev pub distance_of : Vector → Vector → Float
distance_of a b = length_of (sub_of a b)

-- none where the computed length is 0
abbrev pub unit_of : Vector → Said Vector
unit_of v = cond (eq (length_of v) zero64) (accepted []) (accepted (div_scalar_of v (length_of v) ∷ []))

-- how far along the segment from v to w the point p falls, 0 at v and 1 at w
abbrev pub along_of : Vector → Vector → Vector → Float
along_of p v w = div binary64 (dot_of (sub_of p v) (sub_of w v)) (distance_squared_of v w)

-- a measure between p and what is nearest to it of the segment from v to w
abbrev pub from_segment : (Vector → Vector → Float) → Vector → Vector → Vector → Float
from_segment measure p v w =
    cond (eq (distance_squared_of v w) zero64) (measure p v)
    (cond (lt (along_of p v w) zero64) (measure p v)
    (cond (lt one64 (along_of p v w)) (measure p w)
    (measure (add_of v (mul_scalar_of (sub_of w v) (along_of p v w))) p)))

-- the distance of p from the segment from v to w
unfoldable pub segment_distance_of : Vector → Vector → Vector → Float
segment_distance_of p v w = from_segment distance_of p v w
