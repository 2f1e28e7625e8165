-- The most of each that a call takes.
use Rattle.std.specs.Prelude.{ℕ}

abbrev pub most_faces : ℕ
most_faces = 65536

abbrev pub most_vertices : ℕ
most_vertices = 196608

abbrev pub most_strokes : ℕ
most_strokes = 196608

abbrev pub most_points : ℕ
most_points = 1048576

-- the points of a stroke to simplify
abbrev pub most_to_simplify : ℕ
most_to_simplify = 4096
