-- What writing a walk asks, and what it does.
use Rattle.std.specs.Prelude.{◌≡◌, false, List, [], ◌∷◌, ◌+◌, ◌≤◌, length, Float}
use Rattle.refusal.specs.Limits.{most_points}
use Rattle.path.specs.InnerPushes.{put_points}
use Rattle.path.specs.Courses.{course, advanced}
use Rattle.path.specs.declared.Place.{Place}
use Rattle.path_adaptive.specs.declared.Adapted.{Adapted}
use Rattle.path_adaptive.specs.declared.write.Mark.{Mark}
use Rattle.path_adaptive.specs.Walk.{Walk}

-- the places in the course of a call
abbrev pub places_in : Adapted → Place
places_in w = record { points = w.points; starts = w.starts }

-- a walk that comes to its end, with few enough points and halvings after the mark m
pub record Fits (w : Walk) (m : Mark) : Type 0 where
  pub calm : w.deep ≡ false
  pub few : m.points + length w.points ≤ most_points
  pub few_halvings : m.halvings + w.halvings ≤ most_points

-- a walk was written into the list a from the mark m on: its points lie there in b, its halvings are counted, and the next mark is n
pub record Inks (w : Walk) (a : List Float) (m : Mark) (b : List Float) (n : Mark) : Type 0 where
  pub ink : course b n.points ≡ advanced put_points (course a m.points) w.points
  pub count : n.halvings ≡ m.halvings + w.halvings

-- no walk ends too deep
unfoldable pub Calm : List Walk → Type 0
Calm [] = Unit {0}
Calm (w ∷ ws) = (w.deep ≡ false) × Calm ws
