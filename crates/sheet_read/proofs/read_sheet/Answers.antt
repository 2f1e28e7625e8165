-- `read_sheet` meets its contract: a refusal leaves all as it was, and an accepted call writes the sheet's numbers and starts.
use mathlib.Core.Path.{sym, ◌∙◌}
use native.Mathlib.Omega.{arith}
use Rattle.std.proofs.lemmas.Result.{err_from_is_err_and}
use Rattle.sheet_read.specs.Call.{read_left}
use Rattle.refusal.proofs.Outcomes.{accept, refuse}
use Rattle.sheet_read.proofs.Calls.{granted, all_read}
use Rattle.sheet_read.proofs.read_sheet.Goals as goal

pub returns-in_err-read_verdict : goal.returns-in_err-read_verdict
unfolding read_left
returns-in_err-read_verdict c =
    let p = err_from_is_err_and c.from_residual.result c.from_residual.ensures.1 in
    rw (p.1, p.2) (refuse _ _ _ _ (sym c.in_err-read_verdict.was ∙ c.read_verdict.ensures))

pub copy_words-requires : goal.copy_words-requires
copy_words-requires c =
    let g = granted c.args.bytes.now _ _ (sym c.read_verdict.ensures ∙ c.in_ok-read_verdict.was) in
    omega (arith, g.strokes, c.word_at-strokes.ensures)

pub copy_words-requires-2 : goal.copy_words-requires-2
copy_words-requires-2 c =
    let g = granted c.args.bytes.now _ _ (sym c.read_verdict.ensures ∙ c.in_ok-read_verdict.was) in
    omega (arith, g.strokes, g.points, c.word_at-strokes.ensures, c.word_at-points.ensures, c.numbers_from.ensures)

pub returns : goal.returns
unfolding read_left
returns c =
    let z = sym c.read_verdict.ensures ∙ c.in_ok-read_verdict.was in
    let g = granted c.args.bytes.now _ _ z in
    accept _ _ _ z
    (all_read c.args.bytes.now c.args.out_numbers.now c.args.out_starts.now g.room_points g.room_starts _ _ _ _ _ c.word_at.ensures c.word_at-2.ensures c.word_at-strokes.ensures c.word_at-points.ensures c.numbers_from.ensures _ _ c.copy_words-2.ensures c.copy_words.ensures)
