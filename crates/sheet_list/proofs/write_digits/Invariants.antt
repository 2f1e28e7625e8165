-- `write_digits` meets its contract. Writing the digits from the power q down from here leaves what writing all leaves,
-- and so far there are at most as many bytes as turns.
use mathlib.Core.Path.{◌≡◌}
use Prim.Native.Nat.{◌+◌, ◌-◌, ◌≤◌}
use lib.Seq.{sets}
use Rattle.path.specs.Courses.{course, advanced}
use Rattle.sheet_list.specs.Listing.{digits_from}
use Rattle.sheet_list.proofs.write_digits.Given as goal

abbrev pub invariant-loop : goal.invariant-loop
invariant-loop l = (l.at ≤ l.k + l.counter) × (advanced sets (course l.out l.at) (digits_from (10 - l.counter) l.q l.x) ≡ advanced sets (course l.initial.out l.k) (digits_from 10 l.p l.x))
