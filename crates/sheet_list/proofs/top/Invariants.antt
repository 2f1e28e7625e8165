-- `top` meets its contract. The power that is found from p on in the turns that are left is the one that is found from
-- 1 on in all.
use mathlib.Core.Path.{◌≡◌}
use Prim.Native.Nat.{◌-◌, ◌≤◌}
use Rattle.sheet_list.specs.Listing.{top_from}
use Rattle.sheet_list.proofs.top.Given as goal

abbrev pub invariant-loop : goal.invariant-loop
invariant-loop l = (1 ≤ l.p) × (top_from (9 - l.counter) l.p l.x ≡ top_from 9 1 l.x)
