-- `key_of` meets its contract: the cell is the floor's answer, and what is counted up from it fits.
use mathlib.Core.Path.{◌≡◌, sym, ap, ◌∙◌}
use Prim.Native.Nat.{◌^◌, ◌≤◌}
use native.Mathlib.Omega.{arith}
use lib.IntN.{nat_abs}
use Rattle.refusal.specs.Said.{value_said}
use Rattle.mesh_weld.specs.Weld.{cell}
use Rattle.mesh_weld.specs.InnerTable.{key, count}
use Rattle.mesh_weld.proofs.Cells.{read, cell-le, cell-told, key-pos, key-lt}
use Rattle.mesh_weld.proofs.key_of.Goals as goal

pub counted-requires : goal.counted-requires
counted-requires c =
    let z = c.in-Ok.z in
    let x = c.args.x in
    let e : z ≡ cell x = cell-told x _ (ap value_said (sym c.in-Ok.is) ∙ c.floor.ensures) in
    let h : nat_abs z ≤ 2 ^ 53 = rw e (cell-le x) in
    rw (read z h) h

pub returns-in-Ok : goal.returns-in-Ok
unfolding key
returns-in-Ok c =
    let x = c.args.x in
    let z = c.in-Ok.z in
    let e : z ≡ cell x = cell-told x _ (ap value_said (sym c.in-Ok.is) ∙ c.floor.ensures) in
    let h : nat_abs z ≤ 2 ^ 53 = rw e (cell-le x) in
    let r : c.counted.result ≡ key x = c.counted.ensures ∙ ap count (read z h ∙ e) in
    (r, omega (arith, key-pos x), omega (arith, key-lt x))

pub returns-in-Err : goal.returns-in-Err
unfolding key
returns-in-Err c =
    let x = c.args.x in
    let r : c.counted-in-Err.result ≡ key x = c.counted-in-Err.ensures ∙ ap count (cell-told x _ (ap value_said (sym c.in-Err.is) ∙ c.floor.ensures)) in
    (r, omega (arith, key-pos x), omega (arith, key-lt x))
