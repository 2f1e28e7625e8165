-- Writing a mesh as a binary STL file: when it is refused, what it answers, and what it leaves in the bytes lent to it.
use Rattle.std.specs.Prelude.{Ok, Bool, ◌&&◌, List, [], ◌∷◌, ℕ, ◌/◌, length, leb, Float}
use Rattle.refusal.specs.declared.Refusal.TheVariants.{Shape, Count, Vertex, Number, Room}
use Rattle.refusal.specs.Refusals.{Verdict, unless}
use Rattle.refusal.specs.Said.{Said, accepted}
use Rattle.refusal.specs.Outcome.{Outcome, leaves, outcome}
use Rattle.path.specs.Tests.{coordinates_good}
use Rattle.path.specs.Laid.{over}
use Rattle.mesh.specs.Meshes.{gathered, shaped_of, counted_of, all_below}
use Rattle.stl.specs.Files.{size_of, stl_of, all_single}

-- the coordinates of every vertex, named by a face or not, within their bound; those of every corner that a face names exactly f32
unfoldable pub numbers_good : List Float → List ℕ → Bool
numbers_good vs is = coordinates_good vs && all_single (gathered vs is)

-- the lowest refusal that applies: three numbers a vertex and three indices a face, the limits, indices below the vertex count, numbers
-- that a file holds as they are, and room for the whole file
unfoldable pub verdict_of : List Float → List ℕ → ℕ → Verdict
verdict_of vs is room =
    unless (shaped_of (length vs) (length is)) Shape
    (unless (counted_of (length vs) (length is)) Count
    (unless (all_below (length vs / 3) is) Vertex
    (unless (numbers_good vs is) Number
    (unless (leb (size_of (length is / 3)) room) Room
    (Ok tt)))))

pub record Lent : Type 0 where
  pub bytes : List ℕ

abbrev pub lent : List ℕ → Lent
lent bs = record { bytes = bs }

abbrev pub left : Said ℕ → List ℕ → Outcome Lent
left a bs = leaves a (lent bs)

-- accepted: the file, and the rest as it was
unfoldable pub laid : List ℕ → List ℕ → Outcome Lent
laid file out = left (accepted (length file ∷ [])) (over out file)

unfoldable pub write_left : List Float → List ℕ → List ℕ → Outcome Lent
write_left vs is out = outcome (verdict_of vs is (length out)) (lent out) (laid (stl_of (gathered vs is)) out)
