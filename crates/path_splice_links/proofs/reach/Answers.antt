-- `reach` meets its contract.
use native.Mathlib.Omega.{arith}
use mathlib.Core.Path.{◌≡◌, sym, subst}
use Prim.Native.Nat.{ℕ, ◌+◌, ◌-◌, ◌*◌}
use lib.Seq.{length-take-le}
use Rattle.order.specs.Regions.{region}
use Rattle.path_splice_links.specs.Runs.{Reach}
use Rattle.path_splice_links.proofs.reach.Goals as goal

pub slice_bounds-run_end-end : goal.slice_bounds-run_end-end
slice_bounds-run_end-end c = sym (length-take-le (2 * c.args.n) c.args.s.now (omega arith))

pub returns : goal.returns
returns c =
    let n = c.args.n in
    let k : 2 * n + c.args.c - 2 * n ≡ c.args.c = omega arith in
    subst (λ (w : ℕ). Reach (region c.args.s.now 0 (2 * n)) (region c.args.s.now (2 * n) w) c.args.p c.run_end.result) k c.run_end.ensures
