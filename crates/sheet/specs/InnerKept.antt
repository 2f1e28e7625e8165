-- The starts that are written: those of strokes that have points.
use Rattle.std.specs.Prelude.{cond, List, [], ◌∷◌, ◌++◌, ℕ, ◌+◌, get_or, ltb}

-- the start s of a stroke that ends at e, where it has points
abbrev pub kept_one : ℕ → ℕ → List ℕ
kept_one s e = cond (ltb s e) (s ∷ []) []

-- of stroke i, in a table for n points
unfoldable pub kept_at : ℕ → List ℕ → ℕ → List ℕ
kept_at n ss i = kept_one (get_or ss i 0) (get_or ss (i + 1) n)

-- of all strokes
unfoldable pub kept_from : ℕ → List ℕ → List ℕ
kept_from n [] = []
kept_from n (s ∷ ss) = kept_one s (get_or ss 0 n) ++ kept_from n ss
