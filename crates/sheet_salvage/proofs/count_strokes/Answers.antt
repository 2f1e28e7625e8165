use mathlib.Core.Path.{refl, sym, ap, ◌∙◌}
use mathlib.Core.Bool.{cond}
use Prim.Native.Nat.{ℕ, ◌+◌, ◌<◌, ◌≤◌}
use native.Mathlib.Omega.{arith}
use lib.Dec.{eqb}
use Rattle.path.specs.Strokes.{gather}
use Rattle.sheet.specs.Sheets.{word_at}
use Rattle.sheet_salvage.specs.Salvage.{behind}
use Rattle.sheet_salvage.specs.InnerPieces.{saved_by, ignored_by, after}
use Rattle.sheet_salvage.specs.InnerScan.{num, good_of}
use Rattle.sheet_salvage.proofs.Lays.{after_none}
use Rattle.sheet_salvage.proofs.Points.{num-few, all_stroked, good_more, good-end}
use Rattle.sheet_salvage.proofs.Turns.{count-more, end_within, end_next, end_last, saved-turn, saved_end, ignored_turn, ignored_end}
use Rattle.sheet_salvage.proofs.count_strokes.Goals as goal

pub loop-i-preserved : goal.loop-i-preserved
loop-i-preserved c =
    let h : c.loop-i.i ≤ c.args.strokes = omega arith in
    let word = word_at c.args.bytes.now in
    let at = behind c.args.bytes.now c.numbers_from-k.result in
    let e = c.end_of-e.result in
    let w = end_within c.args.m c.args.strokes word c.loop-i.i c.loop-i.a _ c.end_of-e.ensures c.loop-i.invariant.1 in
    let z = all_stroked c.args.strokes c.args.m (omega arith) in (
      omega arith,
      w.1,
      λ u. end_next c.args.m c.args.strokes word c.loop-i.i c.loop-i.a _ c.end_of-e.ensures (c.loop-i.invariant.2 h) u,
      λ u. omega (arith, z, end_last c.args.m c.args.strokes word c.loop-i.i c.loop-i.a _ c.end_of-e.ensures u),
      c.count_stroke-p.ensures.points_le_e.0,
      c.count_stroke-p.ensures.points_le_e.1,
      c.count_stroke-p.ensures.points_le_e.2,
      omega (arith, c.count_stroke-p.ensures.good_value.1, num-few (eqb c.loop-i.a e)),
      count-more c.loop-i.p.kept _ _ _ _ (saved-turn c.args.m c.args.strokes word c.loop-i.i c.loop-i.a _ c.end_of-e.ensures c.args.n at h) c.count_stroke-p.ensures.kept_value ∙ c.loop-i.invariant.8,
      good_more c.args.n at c.loop-i.a _ c.args.m _ _ _ _ z w.0 w.1 c.loop-i.invariant.9 c.count_stroke-p.ensures.good_value.0,
      ap (λ (x : ℕ). x + ignored_by c.args.m c.args.strokes word (c.loop-i.i + 1) e) c.count_stroke-p.ensures.good_value.1 ∙ ignored_turn c.args.m c.args.strokes word c.loop-i.i c.loop-i.a e c.end_of-e.ensures h (c.loop-i.invariant.2 h) c.loop-i.p.ignored _ (num (eqb c.loop-i.a e)) refl c.loop-i.invariant.10,
    )

pub returns : goal.returns
returns c =
    let h : c.args.strokes < c.loop-i.i = omega arith in
    let word = word_at c.args.bytes.now in
    let at = behind c.args.bytes.now c.numbers_from-k.result in
    let z = cond (eqb c.args.strokes 0) 0 c.args.m in
    let kept = sym (after_none c.loop-i.p.kept) ∙ ap (after c.loop-i.p.kept) (sym (saved_end c.args.n at c.args.m c.args.strokes word c.loop-i.i c.loop-i.a h)) ∙ c.loop-i.invariant.8 in
    let good = good-end c.args.n at z c.loop-i.a c.loop-i.p.good _ (c.loop-i.invariant.3 h) c.loop-i.invariant.9 in record { kept_value = kept ∙ ap (λ (x : ℕ). after (record { points = 0; starts = 0 }) (saved_by c.args.n (behind c.args.bytes.now x) c.args.m c.args.strokes word 1 0)) c.numbers_from-k.ensures; good_value = good ∙ ap (λ (x : ℕ). good_of c.args.n (gather (behind c.args.bytes.now x) 0 z)) c.numbers_from-k.ensures; ignored_value = ignored_end c.args.m c.args.strokes word c.loop-i.i c.loop-i.a c.loop-i.p.ignored _ h c.loop-i.invariant.10; points_le_m = (omega arith, omega arith, omega arith) }
