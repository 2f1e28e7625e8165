use mathlib.Core.Path.{sym, ap, ◌∙◌}
use Prim.Native.Nat.{◌≤◌}
use native.Mathlib.Omega.{arith}
use lib.ListN.{length}
use Rattle.path.proofs.Pushes.{front}
use Rattle.refusal.proofs.Outcomes.{accept, refuse}
use Rattle.std.proofs.lemmas.Result.{err_from_is_err_and}
use Rattle.sheet_salvage.specs.InnerPieces.{after}
use Rattle.sheet_salvage.specs.Call.{salvaged, salvage_left}
use Rattle.sheet_salvage.proofs.Calls.{few_strokes, saved_read, kept-starts, kept-points, salvaged-length, good-is, ignored_read, granted, verdict_is, all_left}
use Rattle.sheet_salvage.proofs.salvage_usable.Goals as goal

pub count_strokes-t-requires : goal.count_strokes-t-requires
count_strokes-t-requires c =
    let m = c.taken-m.ensures.value in
    (omega (arith, c.word_at.ensures, few_strokes c.args.bytes.now c.requires), c.taken-m.ensures.upper_bound)

pub write_kept-requires : goal.write_kept-requires
write_kept-requires c =
    let m = c.taken-m.ensures.value in
    let kept = c.count_strokes-t.ensures.kept_value ∙ ap (after front) (saved_read c.args.bytes.now _ _ _ c.word_at-2.ensures c.word_at.ensures m) in
    let g = granted _ _ _ (sym c.kept_verdict.ensures ∙ c.in_ok-kept_verdict.was) in
    (c.requires, m, kept, omega (arith, g.0, kept-starts c.args.bytes.now _ kept))

pub report-requires : goal.report-requires
report-requires c =
    let m = c.taken-m.ensures.value in
    let kept = c.count_strokes-t.ensures.kept_value ∙ ap (after front) (saved_read c.args.bytes.now _ _ _ c.word_at-2.ensures c.word_at.ensures m) in
    let g = granted _ _ _ (sym c.kept_verdict.ensures ∙ c.in_ok-kept_verdict.was) in
    record { bytes_value = (c.requires, kept, omega (arith, g.0, kept-starts c.args.bytes.now _ kept)); bytes_value_2 = (good-is c.args.bytes.now _ _ _ _ c.word_at-2.ensures c.word_at.ensures m c.count_strokes-t.ensures.good_value, ignored_read c.args.bytes.now _ _ _ c.word_at.ensures m c.count_strokes-t.ensures.ignored_value, c.count_strokes-t.ensures.points_le_m.2) }

pub returns-in_err-kept_verdict : goal.returns-in_err-kept_verdict
unfolding salvage_left
returns-in_err-kept_verdict c =
    let p = err_from_is_err_and c.from_residual.result c.from_residual.ensures.1 in
    let m = c.taken-m.ensures.value in
    let kept = c.count_strokes-t.ensures.kept_value ∙ ap (after front) (saved_read c.args.bytes.now _ _ _ c.word_at-2.ensures c.word_at.ensures m) in
    rw (p.1, p.2) (refuse _ _ _ _ (sym c.in_err-kept_verdict.was ∙ c.kept_verdict.ensures ∙ verdict_is c.args.bytes.now _ kept _ c.requires))

pub returns : goal.returns
unfolding salvage_left
returns c =
    let m = c.taken-m.ensures.value in
    let kept = c.count_strokes-t.ensures.kept_value ∙ ap (after front) (saved_read c.args.bytes.now _ _ _ c.word_at-2.ensures c.word_at.ensures m) in
    let z = sym c.kept_verdict.ensures ∙ c.in_ok-kept_verdict.was in
    let g = granted _ _ _ z in
    let fits : length (salvaged c.args.bytes.now) ≤ length c.args.out.now = omega (arith, g.1, salvaged-length c.args.bytes.now, kept-starts c.args.bytes.now _ kept, kept-points c.args.bytes.now _ kept) in
    accept _ _ _ (sym (verdict_is c.args.bytes.now _ kept _ c.requires) ∙ z) (all_left c.args.bytes.now c.args.out.now _ _ c.report.ensures c.write_kept.ensures fits)
