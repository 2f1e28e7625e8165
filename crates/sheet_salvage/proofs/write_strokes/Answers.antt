use mathlib.Core.Path.{sym, ap, ◌∙◌}
use Prim.Native.Nat.{ℕ, ◌+◌, ◌<◌, ◌≤◌}
use native.Mathlib.Omega.{arith}
use Rattle.sheet.specs.Sheets.{header_words, word_at}
use Rattle.sheet_salvage.specs.Salvage.{behind}
use Rattle.sheet_salvage.specs.InnerPieces.{saved_by, laid_at}
use Rattle.sheet_salvage.proofs.Lays.{laid_none}
use Rattle.sheet_salvage.proofs.Turns.{count-more, lay_more, end_within, saved-turn, saved_end}
use Rattle.sheet_salvage.proofs.write_strokes.Goals as goal

pub loop-i-preserved : goal.loop-i-preserved
loop-i-preserved c =
    let h : c.loop-i.i ≤ c.args.strokes = omega arith in
    let word = word_at c.args.bytes.now in
    let at = behind c.args.bytes.now c.numbers_from-k.result in
    let within = end_within c.args.m c.args.strokes word c.loop-i.i c.loop-i.a _ c.end_of-e.ensures c.loop-i.invariant.1 in
    let t = saved-turn c.args.m c.args.strokes word c.loop-i.i c.loop-i.a _ c.end_of-e.ensures c.args.n at h in (
      omega arith,
      within.1,
      c.write_stroke-p.ensures.value.1,
      c.write_stroke-p.ensures.value.2,
      c.write_stroke-p.auto.out ∙ c.loop-i.invariant.4,
      count-more c.loop-i.p _ _ _ _ t c.write_stroke-p.ensures.value.0 ∙ c.loop-i.invariant.5,
      lay_more c.loop-i.out _ c.args.total c.loop-i.p _ _ _ _ t c.write_stroke-p.ensures.value.0 c.loop-i.invariant.5 c.write_stroke-p.ensures.lays_over ∙ c.loop-i.invariant.6,
    )

pub returns : goal.returns
returns c =
    let h : c.args.strokes < c.loop-i.i = omega arith in
    let word = word_at c.args.bytes.now in
    let base = header_words + c.args.total.starts in
    sym (laid_none c.loop-i.out base c.loop-i.p) ∙ ap (laid_at c.loop-i.out base c.loop-i.p) (sym (saved_end c.args.n (behind c.args.bytes.now c.numbers_from-k.result) c.args.m c.args.strokes word c.loop-i.i c.loop-i.a h)) ∙ c.loop-i.invariant.6
    ∙ ap (λ (x : ℕ). laid_at c.args.out.now base (record { points = 0; starts = 0 }) (saved_by c.args.n (behind c.args.bytes.now x) c.args.m c.args.strokes word 1 0)) c.numbers_from-k.ensures
