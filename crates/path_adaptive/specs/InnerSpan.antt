-- How a span goes down the recursion: the points and their places on the screen one by one.
use Rattle.std.specs.Float.{binary64}
use Rattle.std.specs.Float.Ieee.{of_bits}
use Rattle.vector.specs.declared.Vector.{Vector}
use Rattle.vector.specs.Vectors.{add_of, mul_scalar_of}
use Rattle.path_adaptive.specs.declared.Shown.{Shown}

-- a point with its place on the screen
abbrev pub shown_at : Vector → Vector → Shown
shown_at here seen = record { here = here; seen = seen }

-- the middle of two points
abbrev pub middle_at : Vector → Vector → Vector
middle_at a b = mul_scalar_of (add_of a b) (of_bits binary64 0x3fe0_0000_0000_0000)
