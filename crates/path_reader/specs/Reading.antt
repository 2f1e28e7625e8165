-- What a reader over a list of strokes hands out: the strokes one after another, an empty one too, then none.
use Rattle.std.specs.Prelude.{cond, List, [], ◌∷◌, ◌≡◌, ℕ, zero, suc, ◌+◌, ◌-◌, ◌*◌, length, get_or, take, drop, ltb}
use Rattle.std.specs.Borrow.{Bor}

abbrev pub least : ℕ → ℕ → ℕ
least x y = cond (ltb x y) x y

-- the points from stroke i's start to the next one's, or to the end
unfoldable pub stroke_at : List ℕ → List ℕ → ℕ → List ℕ
stroke_at ps ss i = take (get_or ss (i + 1) (length ps) - get_or ss i (length ps)) (drop (get_or ss i (length ps)) ps)

-- the place of its first point; that of an empty stroke lies within the points too
abbrev pub first_at : List ℕ → List ℕ → ℕ → ℕ
first_at ps ss i = least (get_or ss i (length ps)) (least (get_or ss (i + 1) (length ps)) (length ps))

-- stroke i handed out as the caller's own part: it lies in the caller's points, four bytes each, and holds the stroke's
pub record Own (points : Bor (List ℕ)) (ss : List ℕ) (i : ℕ) (part : Bor (List ℕ)) : Type 0 where
  pub holds : part.now ≡ stroke_at points.now ss i
  pub block : part.ref_ptr.0 ≡ points.ref_ptr.0
  pub place : part.ref_ptr.1 ≡ points.ref_ptr.1 + first_at points.now ss i * 4

-- how many strokes there are from the i-th on
abbrev pub left_at : List ℕ → ℕ → ℕ
left_at ss i = length ss - i

-- the number of the stroke after the i-th; past the table it stays
abbrev pub stroke_after : List ℕ → ℕ → ℕ
stroke_after ss i = cond (ltb i (length ss)) (i + 1) i

-- what is handed out until none is left, from the i-th stroke on, k strokes being left
unfoldable pub handed : List ℕ → List ℕ → ℕ → ℕ → List (List ℕ)
handed ps ss i zero = []
handed ps ss i (suc k) = stroke_at ps ss i ∷ handed ps ss (stroke_after ss i) k
