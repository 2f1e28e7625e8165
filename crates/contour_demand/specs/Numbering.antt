-- Splicing by a test of equality is splicing by the numbers of its classes: so links and walk need to know numbers alone.
-- proofs/Numbering proves it of strokes of any points, for a test that is true exactly of equal ones.
use Rattle.std.specs.Prelude.{◌≡◌, Bool, List, map, ℕ, eqb, length, get_or}
use Rattle.path.specs.Laid.{joined}
use Rattle.path_classes.specs.Classes.{first_from}
use Rattle.path_splice_rule.specs.Splice.{splice}

-- d is any point
module _ {A : Type 0} (d : A) (same : A → A → Bool) (ss : List (List A)) where
  -- the number of a point: the place of the first of all points of the strokes that is the same
  unfoldable pub number_in : A → ℕ
  number_in x = first_from same (λ k. get_or (joined ss) k d) x 0 (length (joined ss))

  -- the numbers spliced are the numbers of what is spliced
  abbrev pub ByClasses : Type 0
  ByClasses = splice 0 eqb (map (map number_in) ss) ≡ map (map number_in) (splice d same ss)
