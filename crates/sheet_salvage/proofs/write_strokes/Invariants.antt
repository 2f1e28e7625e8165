-- The invariants of `write_strokes`.
use mathlib.Core.Path.{◌≡◌}
use Prim.Native.Nat.{◌+◌, ◌≤◌}
use lib.ListN.{length}
use Rattle.sheet.specs.Sheets.{header_words, word_at}
use Rattle.sheet_salvage.specs.Salvage.{behind}
use Rattle.sheet_salvage.specs.InnerPieces.{saved_by, after, laid_at}
use Rattle.sheet_salvage.proofs.write_strokes.Given as goal

abbrev pub invariant-loop-i : goal.invariant-loop-i
invariant-loop-i l = (1 ≤ l.i) × (l.a ≤ l.m) × (l.p.points ≤ l.a) × (l.p.starts ≤ l.a) × (length l.out ≡ length l.initial.out) × (after l.p (saved_by l.n (behind l.bytes l.k) l.m l.strokes (word_at l.bytes) l.i l.a) ≡ l.total)
    × (laid_at l.out (header_words + l.total.starts) l.p (saved_by l.n (behind l.bytes l.k) l.m l.strokes (word_at l.bytes) l.i l.a) ≡ laid_at l.initial.out (header_words + l.total.starts) l.initial.p (saved_by l.n (behind l.bytes l.k) l.m l.strokes (word_at l.bytes) 1 0))
