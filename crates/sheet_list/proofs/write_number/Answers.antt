-- `write_number` meets its contract.
use mathlib.Core.Path.{ap, ◌∙◌}
use Prim.Native.Nat.{ℕ}
use lib.Seq.{sets}
use Rattle.path.specs.Courses.{course, advanced}
use Rattle.sheet_list.specs.Listing.{digits_from, decimal}
use Rattle.sheet_list.proofs.write_number.Goals as goal

pub returns : goal.returns
unfolding decimal
returns c = (c.write_digits.ensures.0 ∙ ap (λ (p : ℕ). advanced sets (course c.args.out.now c.args.k) (digits_from 10 p c.args.x)) c.top.ensures, c.write_digits.ensures.1)
