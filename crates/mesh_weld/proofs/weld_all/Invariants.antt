-- `weld_all` meets its contract. The vertices and the numbers that the first i corners weld to are stored, and each
-- vertex is on the way of its coarse cell (`Built`).
use mathlib.Core.Path.{◌≡◌}
use lib.ListN.{length}
use Rattle.mesh_weld.proofs.Loop.{Built}
use Rattle.mesh_weld.proofs.weld_all.Given as goal

abbrev pub invariant-loop-i : goal.invariant-loop-i
invariant-loop-i g l = (length l.scratch ≡ length l.initial.scratch) × (length l.vertices ≡ length l.initial.vertices) × (length l.indices ≡ length l.initial.indices) × Built (g.C.Corners.coordinates l.corners) l.initial.vertices l.initial.indices l.m l.i l.scratch l.vertices l.indices l.k
