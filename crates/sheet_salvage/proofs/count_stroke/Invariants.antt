-- The invariants of `count_stroke`.
use mathlib.Core.Path.{◌≡◌}
use Prim.Native.Nat.{◌+◌, ◌-◌, ◌≤◌}
use lib.ListN.{length}
use lib.Dec.{ltb, eqb}
use mathlib.Core.Bool.{◌&&◌}
use Rattle.path.specs.Strokes.{gather}
use Rattle.path.specs.Laid.{joined}
use Rattle.sheet_salvage.specs.Salvage.{behind}
use Rattle.sheet_salvage.specs.InnerPieces.{kept_from}
use Rattle.sheet_salvage.specs.InnerScan.{num, scanned, begun, good_of}
use Rattle.sheet_salvage.proofs.count_stroke.Given as goal

abbrev pub invariant-loop-i : goal.invariant-loop-i
invariant-loop-i l = (l.prev ≤ 1) × (l.points ≤ l.i) × (l.starts ≤ l.i) × (l.good ≤ l.i) × (l.here ≡ num (ltb (behind l.bytes l.k l.i) l.n && ltb l.i l.e))
    × (l.points + length (scanned l.n (ltb (l.e - l.a) 2) (eqb l.prev 1) (gather (behind l.bytes l.k) l.i (l.e - l.i))) ≡ l.at.kept.points + length (joined (kept_from l.n (behind l.bytes l.k) l.a l.e)))
    × (l.starts + length (begun l.n (ltb (l.e - l.a) 2) (eqb l.prev 1) l.points (gather (behind l.bytes l.k) l.i (l.e - l.i))) ≡ l.at.kept.starts + length (kept_from l.n (behind l.bytes l.k) l.a l.e))
    × (l.good + good_of l.n (gather (behind l.bytes l.k) l.i (l.e - l.i)) ≡ l.at.good + good_of l.n (gather (behind l.bytes l.k) l.a (l.e - l.a)))
