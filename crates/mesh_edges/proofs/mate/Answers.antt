-- `mate` meets its contract.
use native.Mathlib.Omega.{arith}
use mathlib.Core.Path.{◌≡◌, ap}
use Prim.Native.Nat.{ℕ, ◌+◌, ◌*◌, ◌<◌}
use lib.ListN.{get_or}
use Rattle.mesh_edges.proofs.Mating.{mate_no, mate_yes}
use Rattle.mesh_edges.proofs.mate.Goals as goal

pub returns-then-q-p : goal.returns-then-q-p
returns-then-q-p c = mate_no c.args.s.now c.args.n c.args.p c.args.q c.requires.n_in_bounds.0 c.requires.n_in_bounds.2 c.requires.n_in_bounds.3 (λ h. omega arith)

pub overflow_cast-i : goal.overflow_cast-i
overflow_cast-i c = omega (arith, c.requires.n_in_bounds, c.requires.below c.args.p (omega (arith, c.requires.n_in_bounds)))

pub overflow_add-i-2 : goal.overflow_add-i-2
overflow_add-i-2 c = omega (arith, c.requires.n_in_bounds, c.requires.below c.args.p (omega (arith, c.requires.n_in_bounds)))

pub overflow_add-s-3 : goal.overflow_add-s-3
overflow_add-s-3 c =
    let e : 2 * c.args.n + (c.args.p + 1) ≡ 2 * c.args.n + c.args.p + 1 = omega arith in
    let h : get_or c.args.s.now (2 * c.args.n + (c.args.p + 1)) 0 < c.args.n = c.requires.below (c.args.p + 1) (omega (arith, c.requires.n_in_bounds)) in
    omega (arith, c.requires.n_in_bounds, h, ap (λ (j : ℕ). get_or c.args.s.now j 0) e)

pub offset_bounds-s-i : goal.offset_bounds-s-i
offset_bounds-s-i c = omega (arith, c.requires.n_in_bounds, c.requires.below c.args.p (omega (arith, c.requires.n_in_bounds)))

pub bounds-s-i : goal.bounds-s-i
bounds-s-i c = omega (arith, c.requires.n_in_bounds, c.requires.below c.args.p (omega (arith, c.requires.n_in_bounds)))

pub returns : goal.returns
returns c = mate_yes c.args.s.now c.args.n c.args.p c.args.q c.requires.n_in_bounds.0 c.requires.n_in_bounds.2 c.requires.n_in_bounds.3 (omega arith) c.requires.below
