-- `write_numbers` meets its contract. Storing the numbers from the i-th on from here leaves what storing all leaves.
use mathlib.Core.Path.{◌≡◌}
use lib.Seq.{sets}
use Prim.Native.Nat.{◌+◌, ◌*◌}
use lib.ListN.{drop}
use Rattle.byte_words.specs.Bytes.{bytes_all}
use Rattle.sheet_write.proofs.write_numbers.Given as goal

abbrev pub invariant-loop-i : goal.invariant-loop-i
invariant-loop-i l = (sets l.out ((l.k + l.i) * 4) (bytes_all (drop l.i l.numbers)) ≡ sets l.initial.out (l.k * 4) (bytes_all l.numbers))
