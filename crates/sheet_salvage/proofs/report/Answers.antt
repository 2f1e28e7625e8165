use mathlib.Core.Path.{◌≡◌, ◌∙◌}
use Prim.Native.Nat.{◌-◌}
use native.Mathlib.Omega.{arith}
use Rattle.sheet_salvage.specs.Salvage.{wild_in}
use Rattle.sheet_salvage.proofs.Calls.{stroked_is, kept-starts, kept-points, few_points, salvaged-length, ignored_is, offsets_are, left_over, all_told}
use Rattle.sheet_salvage.proofs.report.Goals as goal

pub overflow_add-result : goal.overflow_add-result
overflow_add-result c = omega (arith, c.numbers_from.ensures, kept-starts c.args.bytes.now c.args.t.kept c.requires.bytes_value.1, c.requires.bytes_value.2, few_points c.args.bytes.now c.args.t.kept c.requires.bytes_value.1)

pub overflow_mul-result : goal.overflow_mul-result
overflow_mul-result c = omega (arith, c.numbers_from.ensures, kept-starts c.args.bytes.now c.args.t.kept c.requires.bytes_value.1, c.requires.bytes_value.2, few_points c.args.bytes.now c.args.t.kept c.requires.bytes_value.1)

pub overflow_sub-result : goal.overflow_sub-result
overflow_sub-result c =
    let r = stroked_is c.args.bytes.now _ _ _ c.word_at-strokes.ensures c.taken-m.ensures.value c.stroked.ensures in
    let w : c.stroked.result - c.args.t.good ≡ wild_in c.args.bytes.now = omega (arith, r, c.requires.bytes_value_2.0) in
    (left_over c.args.bytes.now _ _ _ c.taken-m.ensures.value (kept-points c.args.bytes.now c.args.t.kept c.requires.bytes_value.1) w).0

pub overflow_sub-result-2 : goal.overflow_sub-result-2
overflow_sub-result-2 c =
    let r = stroked_is c.args.bytes.now _ _ _ c.word_at-strokes.ensures c.taken-m.ensures.value c.stroked.ensures in
    let w : c.stroked.result - c.args.t.good ≡ wild_in c.args.bytes.now = omega (arith, r, c.requires.bytes_value_2.0) in
    (left_over c.args.bytes.now _ _ _ c.taken-m.ensures.value (kept-points c.args.bytes.now c.args.t.kept c.requires.bytes_value.1) w).1

pub returns : goal.returns
returns c =
    let r = stroked_is c.args.bytes.now _ _ _ c.word_at-strokes.ensures c.taken-m.ensures.value c.stroked.ensures in
    let m = c.taken-m.ensures.value in
    let w : c.stroked.result - c.args.t.good ≡ wild_in c.args.bytes.now = omega (arith, r, c.requires.bytes_value_2.0) in
    let starts = kept-starts c.args.bytes.now c.args.t.kept c.requires.bytes_value.1 in
    let points = kept-points c.args.bytes.now c.args.t.kept c.requires.bytes_value.1 in
    all_told c.args.bytes.now _ _ _ _ _ (omega (arith, c.numbers_from.ensures, starts, points, salvaged-length c.args.bytes.now)) (c.offsets.ensures ∙ offsets_are c.args.bytes.now _ starts) (ignored_is c.args.bytes.now _ _ c.args.t.ignored _ m c.word_at-strokes.ensures c.requires.bytes_value_2.1 c.ignored.ensures) w (left_over c.args.bytes.now _ _ _ m points w).2
