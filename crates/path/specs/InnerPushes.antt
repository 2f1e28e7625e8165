-- How strokes come to be laid, one after the other: what only the functions that write them are held to.
use Rattle.std.specs.Prelude.{List, [], ◌∷◌, ℕ, ◌+◌, ◌*◌, length, set, Float}
use Rattle.vector.specs.declared.Vector.{Vector}
use Rattle.path.specs.declared.Place.{Place}

-- a point stored at place i; points stored one after the other from place i on
unfoldable pub put_point : List Float → ℕ → Vector → List Float
put_point l i v = set (set (set l (i * 3) v.x) (i * 3 + 1) v.y) (i * 3 + 2) v.z

unfoldable pub put_points : List Float → ℕ → List Vector → List Float
put_points l i [] = l
put_points l i (v ∷ vs) = put_points (put_point l i v) (i + 1) vs

-- the two lent lists in the course of a call, and the places of what comes next
pub record Out (B : Type 0) : Type 0 where
  pub buf : List B
  pub starts : List ℕ
  pub place : Place

abbrev pub out : {B : Type 0} → List B → List ℕ → Place → Out B
out b ss p = record { buf = b; starts = ss; place = p }

-- how the elements of a stroke are stored from a place on is said by `put`: `put_points` for points, `sets` for numbers
module _ {A B : Type 0} (put : List B → ℕ → List A → List B) where
  -- one stroke more: its start where the next start goes, its elements where the next element goes
  unfoldable pub push : Out B → List A → Out B
  push o [] = o
  push o (x ∷ xs) =
      out (put o.buf o.place.points (x ∷ xs)) (set o.starts o.place.starts o.place.points)
      (record { points = o.place.points + length (x ∷ xs); starts = o.place.starts + 1 })

  unfoldable pub push_all : Out B → List (List A) → Out B
  push_all o [] = o
  push_all o (s ∷ ss) = push_all (push o s) ss
