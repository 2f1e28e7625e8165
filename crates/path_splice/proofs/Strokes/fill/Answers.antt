-- `fill` meets its contract.
use native.Mathlib.Omega.{arith}
use mathlib.Core.Path.{sym}
use Prim.Native.Nat.{◌*◌}
use lib.ListN.{length}
use lib.Seq.{length-take-le}
use Rattle.path.proofs.Again.{strokes_count}
use Rattle.path_splice.proofs.Readings.{filled}
use Rattle.path.specs.Strokes.{number_at, strokes_in}
use Rattle.path_splice.proofs.Strokes.fill.Goals as goal

pub slice_bounds-fill_values-end-2 : goal.slice_bounds-fill_values-end-2
slice_bounds-fill_values-end-2 c = sym (length-take-le (2 * length c.args.self.starts.now) c.args.s.now (omega (arith, c.requires.0)))

pub returns : goal.returns
returns c = filled (strokes_in c.args.self.points.now c.args.self.starts.now) c.args.s.now (length c.args.self.starts.now) (strokes_count (number_at c.args.self.points.now) (length c.args.self.points.now) c.args.self.starts.now) c.requires.0 c.fill_values.new.v c.fill_todo.new.t c.fill_values.auto.v c.fill_values.ensures c.fill_todo.auto.t c.fill_todo.ensures
