-- What a walk meets first: the room for points and starts that is left, or a refusal.
use Rattle.std.specs.Prelude.{Result, Ok, Err, ℕ, cond, List, [], ◌∷◌, ◌-◌, length, leb, eqb}
use Rattle.refusal.specs.declared.Refusal.{Refusal}
use Rattle.refusal.specs.declared.Refusal.TheVariants.{Room, Deep}
use Rattle.refusal.specs.Refusals.{Verdict}
use Rattle.path_adaptive.specs.declared.Budget.{Budget}
use Rattle.path_adaptive.specs.Walk.{Walk}

-- the room that is left, or the refusal that was met first
abbrev pub Tally : Type 0
Tally = Result Budget Refusal

abbrev pub room_left : ℕ → ℕ → Tally
room_left points starts = Ok (record { points = points; starts = starts })

-- after a walk's points there is room left, or they lack room, or they end too deep
unfoldable pub spent : Tally → Walk → Tally
spent (Err r) w = Err r
spent (Ok b) w = cond (leb (length w.points) b.points) (cond w.deep (Err Deep) (room_left (b.points - length w.points) b.starts)) (Err Room)

-- after a start
unfoldable pub begun : Tally → Tally
begun (Err r) = Err r
begun (Ok b) = cond (leb 1 b.starts) (room_left b.points (b.starts - 1)) (Err Room)

-- after a stroke: its start is met with its first point; an empty one meets nothing
unfoldable pub spent_stroke : Tally → Walk → Tally
spent_stroke t w = cond (eqb (length w.points) 0) t (spent (begun t) w)

unfoldable pub spent_all : Tally → List Walk → Tally
spent_all t [] = t
spent_all t (w ∷ ws) = spent_all (spent_stroke t w) ws

abbrev pub verdict_by : Tally → Verdict
verdict_by (Ok b) = Ok tt
verdict_by (Err r) = Err r
