-- The branches of a measure from a segment: what each answers, by what was computed and tested before it.
use Rattle.std.proofs.Common.{◌≡◌, true, false}
use lib.Ieee.{Float, binary64, div, eq, lt}
use Rattle.vector.specs.declared.Vector.{Vector}
use Rattle.vector.specs.Vectors.{add_of, sub_of, mul_scalar_of, dot_of, distance_squared_of}
use Rattle.vector.specs.Lengths.{zero64, one64, from_segment}

module _ (measure : Vector → Vector → Float) (p v w : Vector) (l : Float) (square : l ≡ distance_squared_of v w) where
  pub no_segment : eq l zero64 ≡ true → measure p v ≡ from_segment measure p v w
  no_segment t = rw (← square, t)

  module _ (d : Float) (dot : d ≡ dot_of (sub_of p v) (sub_of w v)) (some : eq l zero64 ≡ false) where
    pub before-first : lt (div binary64 d l) zero64 ≡ true → measure p v ≡ from_segment measure p v w
    before-first t = rw (← square, ← dot, some, t)

    module _ (from_First : lt (div binary64 d l) zero64 ≡ false) where
      pub after_last : lt one64 (div binary64 d l) ≡ true → measure p w ≡ from_segment measure p v w
      after_last t = rw (← square, ← dot, some, from_First, t)

      pub between : lt one64 (div binary64 d l) ≡ false → measure (add_of v (mul_scalar_of (sub_of w v) (div binary64 d l))) p ≡ from_segment measure p v w
      between t = rw (← square, ← dot, some, from_First, t)
