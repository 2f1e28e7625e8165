-- `rank` meets its contract: three cells and their places, none above 100, which add up without wrapping.
use mathlib.Core.Path.{◌≡◌, ap, ◌∙◌}
use Prim.Native.Nat.{ℕ}
use native.Mathlib.Omega.{arith}
use Rattle.mesh_weld.specs.InnerTable.{rank_of, place_of, key}
use Rattle.mesh_weld.proofs.rank.Goals as goal

pub returns : goal.returns
unfolding rank_of
returns c =
    let x : c.place.result ≡ place_of (key c.args.v.x) c.args.c.x = c.place.ensures.0 ∙ ap (λ (w : ℕ). place_of w c.args.c.x) c.key_of.ensures.0 in
    let y : c.place-2.result ≡ place_of (key c.args.v.y) c.args.c.y = c.place-2.ensures.0 ∙ ap (λ (w : ℕ). place_of w c.args.c.y) c.key_of-2.ensures.0 in
    let z : c.place-3.result ≡ place_of (key c.args.v.z) c.args.c.z = c.place-3.ensures.0 ∙ ap (λ (w : ℕ). place_of w c.args.c.z) c.key_of-3.ensures.0 in
    (rw (x, y, z), omega arith)
