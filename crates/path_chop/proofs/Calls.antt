-- What an accepted chop has been tested for.
use Rattle.std.specs.Prelude.{Ok}
use mathlib.Core.Path.{◌≡◌}
use mathlib.Core.Bool.{true, ◌&&◌}
use mathlib.Core.List.{List}
use Prim.Native.Nat.{ℕ, ◌*◌, ◌/◌, ◌≤◌}
use lib.ListN.{length}
use lib.Dec.{leb}
use lib.Ieee.{Float}
use borrow.Author.Tests.{leb-true}
use Rattle.refusal.specs.Limits.{most_points, most_strokes}
use Rattle.vector.specs.declared.Vector.{Vector}
use Rattle.path.specs.Laid.{joined, non_empty}
use Rattle.path.proofs.Tests.{passed, both, few_strokes}
use Rattle.path_chop.specs.Chop.{chopped_of}
use Rattle.path_chop.specs.Call.{room_for, verdict_of}

-- what there is room for
fitting : (ss : List (List Vector)) (room start_room : ℕ) → room_for ss room start_room ≡ true
    → (length (joined ss) ≤ most_points) × (length (joined ss) * 3 ≤ room) × (length (non_empty ss) ≤ start_room)
unfolding room_for
fitting ss room start_room h =
    let few = leb (length (joined ss)) most_points in
    let fit = leb (length (joined ss) * 3) room in
    let all = both (few && fit) (leb (length (non_empty ss)) start_room) h in
    let some = both few fit all.0 in
    (leb-true _ _ some.0, leb-true _ _ some.1, leb-true _ _ all.1)

pub chop_accepted : (ps : List Float) (ss : List ℕ) (step : Float) (room start_room : ℕ) → verdict_of ps ss step room start_room ≡ (Ok tt)
    → (length (joined (chopped_of step ps ss)) ≤ most_points) × (length (joined (chopped_of step ps ss)) * 3 ≤ room)
    × (length (non_empty (chopped_of step ps ss)) ≤ start_room) × (length ss ≤ most_strokes)
unfolding verdict_of
chop_accepted ps ss step room start_room h =
    let shape = passed _ _ _ h in
    let count = passed _ _ _ shape.1 in
    let number = passed _ _ _ count.1 in
    let good = passed _ _ _ number.1 in
    let fit = fitting (chopped_of step ps ss) room start_room (passed _ _ _ good.1).0 in
    (fit.0, fit.1, fit.2, few_strokes (length ps / 3) (length ss) count.0)
