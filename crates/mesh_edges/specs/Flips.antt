-- The list of flips: pairs of faces, which may hold any numbers.
use Rattle.std.specs.Prelude.{Bool, false, ◌&&◌, ◌||◌, List, [], ◌∷◌, ℕ, eqb}

-- whether the list has the pair, written as it is
unfoldable pub flipped : ℕ → ℕ → List ℕ → Bool
flipped a b [] = false
flipped a b (x ∷ []) = false
flipped a b (x ∷ y ∷ fs) = (eqb x a && eqb y b) || flipped a b fs
