-- `clear_header` meets its contract. Storing the zeros that are left leaves what storing all leaves; those that are left fall.
use mathlib.Core.Path.{◌≡◌}
use Prim.Native.Nat.{◌-◌}
use lib.Seq.{sets}
use Rattle.stl.specs.Files.{header_bytes, zeros}
use Rattle.stl.proofs.clear_header.Given as goal

abbrev pub invariant-loop-i : goal.invariant-loop-i
invariant-loop-i l = sets l.out l.i (zeros (header_bytes - l.i)) ≡ sets l.initial.out 0 (zeros header_bytes)
