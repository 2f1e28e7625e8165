-- `stroke_at` meets its contract: the start and the end are brought within the slice, which does not change the part.
use mathlib.Core.Path.{refl, ap, ◌∙◌}
use Prim.Native.Nat.{ℕ}
use lib.ListN.{length}
use Rattle.path_reader.specs.Reading.{least, stroke_at}
use Rattle.path_reader.proofs.Parts.{part-is, part_at}
use Rattle.path_reader.proofs.stroke_at.Goals as goal

pub returns : goal.returns
unfolding stroke_at
returns c =
    let n = length c.args.points.now in
    let e = c.lesser-e.ensures.value ∙ ap (λ (x : ℕ). least x n) c.end_of.ensures in
    let f = c.lesser-a.ensures.value ∙ ap (λ (x : ℕ). least x c.lesser-e.result) c.start_of.ensures in
    record { holds = part-is c.args.points.now _ _ _ _ e f; block = refl; place = part_at c.args.points.ref_ptr.1 _ _ n _ _ e f }
