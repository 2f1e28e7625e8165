-- `write_sheet` meets its contract: a refusal leaves all as it was, and an accepted call writes the whole sheet.
use mathlib.Core.Path.{sym, ◌∙◌}
use native.Mathlib.Omega.{arith}
use lib.ListN.{length}
use Rattle.std.proofs.lemmas.Result.{err_from_is_err_and}
use Rattle.sheet.proofs.Sizes.{words_size}
use Rattle.sheet.specs.InnerKept.{kept_from}
use Rattle.sheet.specs.Sheets.{mode_word}
use Rattle.sheet_write.specs.Call.{write_left}
use Rattle.refusal.proofs.Outcomes.{accept, refuse}
use Rattle.sheet_write.proofs.Calls.{granted, sheet_is, all_written}
use Rattle.sheet_write.proofs.write_sheet.Goals as goal

pub returns-in_err-write_verdict : goal.returns-in_err-write_verdict
unfolding write_left
returns-in_err-write_verdict c =
    let p = err_from_is_err_and c.from_residual.result c.from_residual.ensures.1 in
    rw (p.1, p.2) (refuse _ _ _ _ (sym c.in_err-write_verdict.was ∙ c.write_verdict.ensures))

pub write_all-requires : goal.write_all-requires
write_all-requires c =
    let g = granted c.args.mode c.args.vertices c.args.numbers.now c.args.starts.now _ (sym c.write_verdict.ensures ∙ c.in_ok-write_verdict.was) in
    (g.strokes, g.points)

pub returns : goal.returns
unfolding write_left
returns c =
    let z = sym c.write_verdict.ensures ∙ c.in_ok-write_verdict.was in
    let g = granted c.args.mode c.args.vertices c.args.numbers.now c.args.starts.now _ z in
    let s = words_size (mode_word c.args.mode) c.args.vertices (kept_from (length c.args.numbers.now) c.args.starts.now) c.args.numbers.now in
    accept _ _ _ z
    (all_written _ c.args.out.now _ _ _ (sheet_is (mode_word c.args.mode) c.args.vertices c.args.numbers.now c.args.starts.now g.table) c.write_all.ensures.out_after (c.write_all.ensures.value ∙ sym s) (omega (arith, c.write_all.ensures.value, g.fits)))
