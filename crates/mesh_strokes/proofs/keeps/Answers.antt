-- `keeps` meets its contract.
use native.Mathlib.Omega.{arith}
use mathlib.Core.Path.{◌≡◌, ap, ◌∙◌}
use Prim.Native.Nat.{ℕ, ◌+◌, ◌-◌, ◌*◌}
use lib.ListN.{take, drop}
use Rattle.mesh_keep.specs.Keep.{kept_by, faces_of, seen_in}
use Rattle.mesh_strokes.specs.InnerWalk.{flip_at}
use Rattle.mesh_strokes.proofs.keeps.Goals as goal

pub returns : goal.returns
returns c =
    let e : 2 * c.args.n + c.args.q - (2 * c.args.n + c.args.p) ≡ c.args.q - c.args.p = omega arith in
    c.kept.ensures ∙ ap (λ (i : ℕ). kept_by c.args.mode (seen_in c.args.seen.now) (flip_at c.args.s.now c.args.n c.args.p) c.args.tolerance (faces_of (take i (drop (2 * c.args.n + c.args.p) c.args.s.now)))) e
