-- A position under a matrix, with perspective divide.
use Rattle.std.specs.Prelude.{Float}
use Rattle.std.specs.Float.{binary64}
use Rattle.std.specs.Float.Ieee.{add, mul}
use Rattle.vector.specs.declared.Vector.{Vector}
use Rattle.vector.specs.declared.matrix.Matrix.{Matrix}
use Rattle.vector.specs.Vectors.{vec, div_scalar_of}

-- a row of the matrix with the position and 1
abbrev pub row_of : Float → Float → Float → Float → Vector → Float
row_of p q r s b = add binary64 (add binary64 (add binary64 (mul binary64 p b.x) (mul binary64 q b.y)) (mul binary64 r b.z)) s

abbrev pub mul_position_w_of : Matrix → Vector → Vector
mul_position_w_of m b =
    div_scalar_of
    (vec
    (row_of m.x00 m.x01 m.x02 m.x03 b)
    (row_of m.x10 m.x11 m.x12 m.x13 b)
    (row_of m.x20 m.x21 m.x22 m.x23 b))
    (row_of m.x30 m.x31 m.x32 m.x33 b)
