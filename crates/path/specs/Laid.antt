-- Strokes laid into two lent lists: all elements in a row, and the place of each stroke's first. An empty stroke is not written.
use Rattle.std.specs.Prelude.{List, [], ◌∷◌, ◌++◌, ℕ, ◌+◌, length, drop, Float}
use Rattle.vector.specs.declared.Vector.{Vector}

module _ {A : Type 0} where
  -- new in the place of old's front, the rest of old as it was
  unfoldable pub over : List A → List A → List A
  over old new = new ++ drop (length new) old

  unfoldable pub non_empty : List (List A) → List (List A)
  non_empty [] = []
  non_empty ([] ∷ ss) = non_empty ss
  non_empty ((x ∷ xs) ∷ ss) = (x ∷ xs) ∷ non_empty ss

  unfoldable pub joined : List (List A) → List A
  joined [] = []
  joined (s ∷ ss) = s ++ joined ss

  -- the start of each stroke where the first begins at a
  unfoldable pub starts_from : ℕ → List (List A) → List ℕ
  starts_from a [] = []
  starts_from a (s ∷ ss) = a ∷ starts_from (a + length s) ss

-- points as numbers, three to a point
unfoldable pub flat : List Vector → List Float
flat [] = []
flat (v ∷ vs) = v.x ∷ v.y ∷ v.z ∷ flat vs
