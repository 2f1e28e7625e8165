-- `splice_pairs` meets its contract.
use mathlib.Core.Path.{sym, ◌∙◌}
use Prim.Native.Nat.{◌*◌, ◌≤◌}
use lib.ListN.{length}
use native.Mathlib.Omega.{arith}
use lib.Seq.{length-take-le}
use Rattle.path_splice.proofs.Pairs.{fit_all, pairs_no, pairs_yes, zeroed}
use Rattle.path_splice.proofs.splice_pairs.Goals as goal

pub returns-then-not-fits : goal.returns-then-not-fits
returns-then-not-fits c = pairs_no c.args.s.now c.args.out_points.now c.args.out_starts.now c.args.n (sym c.fits.ensures ∙ c.if-not-fits.true)

pub returns : goal.returns
returns c =
    let y = sym c.fits.ensures ∙ c.if-not-fits.false in
    pairs_yes c.args.s.now c.args.out_points.now c.args.out_starts.now c.args.n y _ c.draw_pairs-p.new.s _ _ _ _ (zeroed c.args.s.now c.draw_pairs-p.new.s (8 * c.args.n) (fit_all 8 2 _ _ _ _ y).0 c.draw_pairs-p.auto.s c.draw_pairs-p.ensures.rest c.clear.new.s c.clear.ensures) c.draw_pairs-p.ensures

pub slice_bounds-clear-end-2 : goal.slice_bounds-clear-end-2
slice_bounds-clear-end-2 c =
    let h : 8 * c.args.n ≤ length c.draw_pairs-p.new.s = omega (arith, fit_all 8 2 _ _ _ _ (sym c.fits.ensures ∙ c.if-not-fits.false), c.draw_pairs-p.auto.s) in
    grind (arith, length-take-le)
