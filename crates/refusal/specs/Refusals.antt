-- The table of refusals: each number is given exactly when its line says, and the lowest that applies, but: between the two that carry a
-- face the lowest face at fault decides; in `chop_adaptive` 6 and 8 go to whichever the walk meets first; reading a sheet tests 9 before 6,
-- and reading a file 11 before all others.
use Rattle.std.specs.Prelude.{Bool, true, false, List, [], ◌∷◌, ℕ, Result, Err}
use Rattle.refusal.specs.declared.Refusal.{Refusal}
use Rattle.refusal.specs.declared.Refusal.TheVariants.{Shape, Count, Vertex, Number, Scratch, Room, Alike, Deep, Sheet, NoLength, Stl}

-- a face with two corners whose coordinates compare equal; one with three different corners whose normal has computed length 0
abbrev pub alike_number : ℕ
alike_number = 7

abbrev pub no_length_number : ℕ
no_length_number = 10

abbrev pub number_of : Refusal → ℕ
number_of Shape = 1  -- a list that is no list of triangles, points, pairs or strokes
number_of Count = 2  -- a count above its limit
number_of Vertex = 3  -- a vertex number not below the vertex count
number_of Number = 4  -- a number outside its range
number_of Scratch = 5  -- scratch too short
number_of Room = 6  -- output too short, or a cut of too many points
number_of (Alike face) = alike_number
number_of Deep = 8  -- a span halved too often
number_of Sheet = 9  -- bytes that are not a sheet
number_of (NoLength face) = no_length_number
number_of Stl = 11  -- bytes that are not a binary STL file

-- what a refusal carries beside its number: the face at fault, those two alone
abbrev pub carried_by : Refusal → List ℕ
carried_by Shape = []
carried_by Count = []
carried_by Vertex = []
carried_by Number = []
carried_by Scratch = []
carried_by Room = []
carried_by (Alike face) = face ∷ []
carried_by Deep = []
carried_by Sheet = []
carried_by (NoLength face) = face ∷ []
carried_by Stl = []

-- what the tests before a call's work come to: no value, or the refusal
abbrev pub Verdict : Type 0
Verdict = Result (Unit {0}) Refusal

-- a test that must hold, and the refusal where it does not, before the tests that follow
unfoldable pub unless : Bool → Refusal → Verdict → Verdict
unless true r next = next
unless false r next = Err r
