-- What the notes on a stroke say while it is thinned.
use Rattle.std.specs.Prelude.{◌++◌, map, ℕ, ◌+◌, take}
use Rattle.path_simplify.specs.declared.notes.Notes.{Notes}
use Rattle.vector.specs.declared.Vector.{Vector}
use Rattle.path_simplify.specs.Simplify.{Thin}

-- what the notes say, by the point at each place
unfoldable pub thin_at : (ℕ → Vector) → Notes → Thin
thin_at at k = record { points = map at (take k.count k.places); measured = k.distances }

-- one after the other
unfoldable pub plus : Thin → Thin → Thin
plus a b = record { points = a.points ++ b.points; measured = a.measured + b.measured }
