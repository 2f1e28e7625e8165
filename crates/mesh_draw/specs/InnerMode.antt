-- A verdict with the mode to draw in, where all tests are passed.
use Rattle.std.specs.Prelude.{Result, Ok, Err}
use Rattle.refusal.specs.declared.Refusal.{Refusal}
use Rattle.refusal.specs.Refusals.{Verdict}
use Rattle.mesh_mode.specs.declared.Mode.{Mode}

abbrev pub with_mode : Verdict → Mode → Result Mode Refusal
with_mode (Ok _) mode = Ok mode
with_mode (Err r) mode = Err r
