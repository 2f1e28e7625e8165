-- `write_stroke` meets its contract.
use mathlib.Core.Path.{ap, ◌∙◌}
use mathlib.Core.List.{List}
use Prim.Native.Nat.{ℕ}
use lib.Seq.{sets}
use Rattle.path.specs.Courses.{course, advanced}
use Rattle.sheet_list.specs.Listing.{line_of}
use Rattle.sheet_list.proofs.Lines.{numbers-are}
use Rattle.sheet_list.proofs.write_stroke.Goals as goal

pub returns : goal.returns
returns c = (c.write_line.ensures.0 ∙ ap (λ (l : List ℕ). advanced sets (course c.args.out.now c.args.k) (line_of l)) (numbers-are c.args.bytes.now c.args.strokes _ _ _ _ _ c.numbers_from-b.ensures c.start_at-a.ensures.0 c.start_at-e.ensures.0), c.write_line.ensures.1)
