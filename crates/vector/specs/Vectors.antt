-- The arithmetic of points, each operation rounded once, in the source's order.
use Rattle.std.specs.Prelude.{Bool, ◌&&◌, Float}
use Rattle.std.specs.Float.{binary64}
use Rattle.std.specs.Float.Ieee.{add, sub, mul, div, eq}
use Rattle.vector.specs.declared.Vector.{Vector}

abbrev pub vec : Float → Float → Float → Vector
vec a b c = record { x = a; y = b; z = c }

-- ---- one coordinate at a time

abbrev pub add_of : Vector → Vector → Vector
add_of a b = vec (add binary64 a.x b.x) (add binary64 a.y b.y) (add binary64 a.z b.z)

abbrev pub sub_of : Vector → Vector → Vector
sub_of a b = vec (sub binary64 a.x b.x) (sub binary64 a.y b.y) (sub binary64 a.z b.z)

abbrev pub mul_of : Vector → Vector → Vector
mul_of a b = vec (mul binary64 a.x b.x) (mul binary64 a.y b.y) (mul binary64 a.z b.z)

abbrev pub div_of : Vector → Vector → Vector
div_of a b = vec (div binary64 a.x b.x) (div binary64 a.y b.y) (div binary64 a.z b.z)

abbrev pub add_scalar_of : Vector → Float → Vector
add_scalar_of a s = vec (add binary64 a.x s) (add binary64 a.y s) (add binary64 a.z s)

abbrev pub sub_scalar_of : Vector → Float → Vector
sub_scalar_of a s = vec (sub binary64 a.x s) (sub binary64 a.y s) (sub binary64 a.z s)

abbrev pub mul_scalar_of : Vector → Float → Vector
mul_scalar_of a s = vec (mul binary64 a.x s) (mul binary64 a.y s) (mul binary64 a.z s)

abbrev pub div_scalar_of : Vector → Float → Vector
div_scalar_of a s = vec (div binary64 a.x s) (div binary64 a.y s) (div binary64 a.z s)

-- two points whose coordinates compare equal: -0 equals 0
unfoldable pub equal_of : Vector → Vector → Bool
equal_of p v = eq p.x v.x && (eq p.y v.y && eq p.z v.z)

-- ---- products

abbrev pub dot_of : Vector → Vector → Float
dot_of a b = add binary64 (add binary64 (mul binary64 a.x b.x) (mul binary64 a.y b.y)) (mul binary64 a.z b.z)

abbrev pub cross_of : Vector → Vector → Vector
cross_of a b =
    vec
    (sub binary64 (mul binary64 a.y b.z) (mul binary64 a.z b.y))
    (sub binary64 (mul binary64 a.z b.x) (mul binary64 a.x b.z))
    (sub binary64 (mul binary64 a.x b.y) (mul binary64 a.y b.x))

abbrev pub length_squared_of : Vector → Float
length_squared_of a = dot_of a a

abbrev pub distance_squared_of : Vector → Vector → Float
distance_squared_of a b = length_squared_of (sub_of a b)
