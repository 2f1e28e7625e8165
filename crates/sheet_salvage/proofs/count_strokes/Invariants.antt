-- The invariants of `count_strokes`.
use mathlib.Core.Path.{◌≡◌}
use mathlib.Core.Bool.{cond}
use Prim.Native.Nat.{◌+◌, ◌-◌, ◌≤◌, ◌<◌}
use lib.Dec.{eqb}
use Rattle.path.specs.Strokes.{gather}
use Rattle.sheet.specs.Sheets.{word_at}
use Rattle.sheet_salvage.specs.Salvage.{behind}
use Rattle.sheet_salvage.specs.InnerPieces.{saved_by, ignored_by, after}
use Rattle.sheet_salvage.specs.InnerScan.{good_of}
use Rattle.sheet_salvage.proofs.count_strokes.Given as goal

abbrev pub invariant-loop-i : goal.invariant-loop-i
invariant-loop-i l = (1 ≤ l.i) × (l.a ≤ l.m) × (l.i ≤ l.strokes → l.a ≤ l.m - 1) × (l.strokes < l.i → cond (eqb l.strokes 0) 0 l.m ≤ l.a)
    × (l.p.kept.points ≤ l.a) × (l.p.kept.starts ≤ l.a) × (l.p.good ≤ l.a) × (l.p.ignored + 1 ≤ l.i)
    × (after l.p.kept (saved_by l.n (behind l.bytes l.k) l.m l.strokes (word_at l.bytes) l.i l.a) ≡ after l.initial.p.kept (saved_by l.n (behind l.bytes l.k) l.m l.strokes (word_at l.bytes) 1 0))
    × (l.p.good + good_of l.n (gather (behind l.bytes l.k) l.a (cond (eqb l.strokes 0) 0 l.m - l.a)) ≡ good_of l.n (gather (behind l.bytes l.k) 0 (cond (eqb l.strokes 0) 0 l.m)))
    × (l.p.ignored + ignored_by l.m l.strokes (word_at l.bytes) l.i l.a ≡ ignored_by l.m l.strokes (word_at l.bytes) 1 0)
