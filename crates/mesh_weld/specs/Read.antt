-- Reading a binary STL file: when it is refused, and what it leaves: what a weld of its corners does.
use Rattle.std.specs.Prelude.{List, ℕ, length, Float}
use Rattle.refusal.specs.declared.Refusal.TheVariants.{Stl}
use Rattle.refusal.specs.Refusals.{Verdict}
use Rattle.refusal.specs.Refusals.{unless}
use Rattle.refusal.specs.Outcome.{Outcome, outcome}
use Rattle.stl.specs.Files.{is_stl, coordinates_in}
use Rattle.mesh_weld.specs.Call.{Lent, lent, verdict_of, welded}

-- that bytes are no file comes before all that a weld is refused for
unfoldable pub read_verdict : List ℕ → ℕ → ℕ → ℕ → Verdict
read_verdict bs words room numbers = unless (is_stl bs) Stl (verdict_of (coordinates_in bs) words room numbers)

unfoldable pub read_left : List ℕ → List ℕ → List Float → List ℕ → Outcome Lent
read_left bs s vs is = outcome (read_verdict bs (length s) (length vs) (length is)) (lent s vs is) (welded (coordinates_in bs) s vs is)
