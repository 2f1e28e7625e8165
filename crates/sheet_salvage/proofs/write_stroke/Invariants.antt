-- The invariants of `write_stroke`.
use mathlib.Core.Path.{◌≡◌}
use mathlib.Core.Bool.{◌&&◌}
use mathlib.Core.List.{List, ◌++◌}
use Prim.Native.Nat.{ℕ, ◌+◌, ◌-◌, ◌≤◌}
use lib.ListN.{length}
use lib.Dec.{ltb, eqb}
use Rattle.path.specs.Strokes.{gather}
use Rattle.path.specs.Laid.{joined, starts_from}
use Rattle.sheet.specs.Sheets.{header_words}
use Rattle.sheet_salvage.specs.Salvage.{behind}
use Rattle.sheet_salvage.specs.InnerPieces.{kept_from, placed}
use Rattle.sheet_salvage.specs.InnerScan.{num, scanned, begun}
use Rattle.sheet_salvage.proofs.write_stroke.Given as goal

abbrev pub invariant-loop-i : goal.invariant-loop-i
invariant-loop-i l = (l.prev ≤ 1) × (l.points ≤ l.i) × (l.starts ≤ l.i) × (l.w ≡ behind l.bytes l.k l.i) × (l.here ≡ num (ltb (behind l.bytes l.k l.i) l.n && ltb l.i l.e)) × (length l.out ≡ length l.initial.out)
    × (l.points + length (scanned l.n (ltb (l.e - l.a) 2) (eqb l.prev 1) (gather (behind l.bytes l.k) l.i (l.e - l.i))) ≡ l.initial.points + length (joined (kept_from l.n (behind l.bytes l.k) l.a l.e)))
    × (l.starts + length (begun l.n (ltb (l.e - l.a) 2) (eqb l.prev 1) l.points (gather (behind l.bytes l.k) l.i (l.e - l.i))) ≡ l.initial.starts + length (kept_from l.n (behind l.bytes l.k) l.a l.e))
    × ((ns ss : List ℕ) → l.points + length (scanned l.n (ltb (l.e - l.a) 2) (eqb l.prev 1) (gather (behind l.bytes l.k) l.i (l.e - l.i)) ++ ns) ≡ l.total.points
    → l.starts + length (begun l.n (ltb (l.e - l.a) 2) (eqb l.prev 1) l.points (gather (behind l.bytes l.k) l.i (l.e - l.i)) ++ ss) ≡ l.total.starts
    → placed l.out (header_words + l.total.starts) l.points l.starts (scanned l.n (ltb (l.e - l.a) 2) (eqb l.prev 1) (gather (behind l.bytes l.k) l.i (l.e - l.i)) ++ ns) (begun l.n (ltb (l.e - l.a) 2) (eqb l.prev 1) l.points (gather (behind l.bytes l.k) l.i (l.e - l.i)) ++ ss)
    ≡ placed l.initial.out (header_words + l.total.starts) l.initial.points l.initial.starts (joined (kept_from l.n (behind l.bytes l.k) l.a l.e) ++ ns) (starts_from l.initial.points (kept_from l.n (behind l.bytes l.k) l.a l.e) ++ ss))
