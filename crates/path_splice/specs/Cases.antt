-- The paper's proved cases of splicing, through the call's own definition.
use Rattle.std.specs.Prelude.{◌≡◌, List, [], ◌∷◌, ℕ, ◌*◌, length, replicate}
use Rattle.refusal.specs.Said.{accepted}
use Rattle.refusal.specs.Outcome.{Outcome}
use Rattle.path_splice.specs.Call.{Lent, left, splice_left}

-- points and starts, and what the call answers and leaves
pub data Case : Type 0 where
  joins : List ℕ → List ℕ → Outcome Lent → Case

-- scratch and output are as long as they must be, all 9
abbrev pub Holds : Case → Type 0
Holds (joins ps ss out) = splice_left ps ss (replicate (8 * length ss) 9) (replicate (length ps) 9) (replicate (length ss) 9) ≡ out

unfoldable pub paper : List Case
paper =
    -- [1,2] [2,3] [2,4] give [1,2,4] [2,3]
    joins (1 ∷ 2 ∷ 2 ∷ 3 ∷ 2 ∷ 4 ∷ []) (0 ∷ 2 ∷ 4 ∷ []) (left (accepted (5 ∷ 2 ∷ [])) (replicate 24 0) (1 ∷ 2 ∷ 4 ∷ 2 ∷ 3 ∷ 9 ∷ []) (0 ∷ 3 ∷ 9 ∷ []))
    -- [7] [7] give [7]
    ∷ joins (7 ∷ 7 ∷ []) (0 ∷ 1 ∷ []) (left (accepted (1 ∷ 1 ∷ [])) (replicate 16 0) (7 ∷ 9 ∷ []) (0 ∷ 9 ∷ []))
    ∷ []
