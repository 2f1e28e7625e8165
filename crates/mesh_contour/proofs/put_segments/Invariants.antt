-- `put_segments` meets its contract. What is still to be put from here is what was to be put at the start, and so is how many there will
-- be; so far there is at most a segment a face.
use mathlib.Core.Path.{◌≡◌}
use Prim.Native.Nat.{◌+◌, ◌-◌, ◌*◌, ◌≤◌}
use lib.ListN.{length}
use Rattle.path.specs.Laid.{joined}
use Rattle.path.specs.InnerPushes.{put_points}
use Rattle.mesh_contour_rule.specs.Contour.{corner_of, segments_from}
use Rattle.mesh_contour.proofs.put_segments.Given as goal

abbrev pub invariant-loop-f : goal.invariant-loop-f
invariant-loop-f l = let left = segments_from (corner_of l.plane l.tolerance l.mesh.vertices.now l.mesh.indices.now) l.f (l.n - l.f) in
    let all = segments_from (corner_of l.plane l.tolerance l.mesh.vertices.now l.mesh.indices.now) 0 l.n in
    (l.k ≤ l.f) × (length l.out ≡ length l.initial.out) × (put_points l.out (2 * l.k) (joined left) ≡ put_points l.initial.out 0 (joined all)) × (l.k + length left ≡ length all)
