-- What the measuring walk hands on from span to span: one word, the points left or what stopped it.
use Rattle.std.specs.Prelude.{◌≡◌, Bool, true, false, cond, ℕ, ◌+◌, ◌-◌, leb, eqb, Ok, Err}
use Rattle.refusal.specs.Limits.{most_points}
use Rattle.refusal.specs.declared.Refusal.TheVariants.{Room, Deep}
use Rattle.path_adaptive.specs.Walk.{Walk}
use Rattle.path_adaptive.specs.Tally.{Tally, room_left, spent}

-- after one point
unfoldable pub pointed : Tally → Tally
pointed (Err r) = Err r
pointed (Ok b) = cond (leb 1 b.points) (room_left (b.points - 1) b.starts) (Err Room)

-- whether a refusal was met
abbrev pub stopped_of : Tally → Bool
stopped_of (Ok b) = false
stopped_of (Err r) = true

-- the words for a walk that lacks room, and for one that is too deep; points left are fewer than either
abbrev pub no_room : ℕ
no_room = most_points + 1

abbrev pub too_deep : ℕ
too_deep = most_points + 2

-- the tally that a word says, where so many starts are left
unfoldable pub tally_of : ℕ → ℕ → Tally
tally_of left starts = cond (leb left most_points) (room_left left starts) (cond (eqb left no_room) (Err Room) (Err Deep))

-- the points left
abbrev pub points_of : Tally → ℕ
points_of (Ok b) = b.points
points_of (Err r) = 0

-- from the word n a point comes to the word r, however many starts are left
abbrev pub Takes : ℕ → ℕ → Type 0
Takes n r = (starts : ℕ) → tally_of r starts ≡ pointed (tally_of n starts)

-- and a walk
abbrev pub Meets : ℕ → Walk → ℕ → Type 0
Meets n w r = (starts : ℕ) → tally_of r starts ≡ spent (tally_of n starts) w
