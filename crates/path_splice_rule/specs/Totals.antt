-- Weights summed over the strokes that are still to do.
use Rattle.std.specs.Prelude.{List, [], ◌∷◌, ℕ, zero, suc, ◌+◌}

-- x where t is not 0
abbrev pub part : ℕ → ℕ → ℕ
part zero x = 0
part (suc t) x = x

-- the weights of the strokes i, i + 1, .. whose number in the list is not 0
unfoldable pub total : (ℕ → ℕ) → ℕ → List ℕ → ℕ
total w i [] = 0
total w i (t ∷ ts) = part t (w i) + total w (suc i) ts
