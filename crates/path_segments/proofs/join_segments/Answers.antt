-- `join_segments` meets its contract.
use mathlib.Core.Path.{sym, ◌∙◌}
use Prim.Native.Nat.{◌*◌, ◌≤◌}
use lib.ListN.{length}
use native.Mathlib.Omega.{arith}
use lib.Seq.{length-take-le}
use Rattle.path_splice.proofs.Pairs.{fit_all, zeroed}
use Rattle.path_segments.proofs.Joins.{join-no, join-yes}
use Rattle.path_segments.proofs.join_segments.Goals as goal

pub returns-then-not-fits : goal.returns-then-not-fits
returns-then-not-fits c = join-no c.args.points.now c.args.n c.args.s.now c.args.out_points.now c.args.out_starts.now (sym c.fits.ensures ∙ c.if-not-fits.true)

pub slice_bounds-clear-end-2 : goal.slice_bounds-clear-end-2
slice_bounds-clear-end-2 c =
    let h : 12 * c.args.n ≤ length c.join_in-p.new.s = omega (arith, fit_all 12 6 _ _ _ _ (sym c.fits.ensures ∙ c.if-not-fits.false), c.join_in-p.auto.s) in
    grind (arith, length-take-le)

pub returns : goal.returns
returns c =
    let y = sym c.fits.ensures ∙ c.if-not-fits.false in
    join-yes c.args.points.now c.args.n c.args.s.now c.args.out_points.now c.args.out_starts.now y _ c.join_in-p.new.s _ _ _ _ (zeroed c.args.s.now c.join_in-p.new.s (12 * c.args.n) (fit_all 12 6 _ _ _ _ y).0 c.join_in-p.auto.s c.join_in-p.ensures.rest c.clear.new.s c.clear.ensures) c.join_in-p.ensures
