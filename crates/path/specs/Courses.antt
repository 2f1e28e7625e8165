-- A lent list that elements are written into, one after the other.
use Rattle.std.specs.Prelude.{List, ℕ, ◌+◌, length}

-- a lent list in the course of a call, and the place of the element that comes next
pub record Course (B : Type 0) : Type 0 where
  pub buf : List B
  pub at : ℕ

abbrev pub course : {B : Type 0} → List B → ℕ → Course B
course b i = record { buf = b; at = i }

-- elements written from there on, stored as `put` says: `put_points` for points, `sets` for numbers
unfoldable pub advanced : {A B : Type 0} → (List B → ℕ → List A → List B) → Course B → List A → Course B
advanced put p xs = course (put p.buf p.at xs) (p.at + length xs)
