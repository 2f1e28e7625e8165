-- The splice of strokes of two points each that lie in scratch already.
use Rattle.std.specs.Prelude.{Bool, ◌&&◌, cond, List, [], ◌∷◌, ◌≡◌, ℕ, ◌*◌, ◌<◌, length, get_or, take, drop, replicate, leb, eqb}
use Rattle.refusal.specs.Limits.{most_strokes}
use Rattle.refusal.specs.Said.{accepted}
use Rattle.refusal.specs.Outcome.{Outcome}
use Rattle.path.specs.Laid.{over}
use Rattle.path_splice_rule.specs.Splice.{splice}
use Rattle.path_splice.specs.InnerText.{LaidOut}
use Rattle.path_splice.specs.Call.{Lent, left, laid}

-- each two points a stroke
unfoldable pub pairs_of : List ℕ → List (List ℕ)
pairs_of [] = []
pairs_of (x ∷ []) = []
pairs_of (x ∷ y ∷ s) = (x ∷ y ∷ []) ∷ pairs_of s

-- n strokes are within the limit, w words a stroke in scratch, p numbers and a start a stroke in the output
unfoldable pub strokes_fit : ℕ → ℕ → ℕ → ℕ → ℕ → ℕ → Bool
strokes_fit w p n words room starts = leb n most_strokes && leb (w * n) words && leb (p * n) room && leb n starts

-- n strokes are within the limit, 8 words a stroke in scratch, 2 points and a start a stroke in the output
unfoldable pub pairs_fit : ℕ → ℕ → ℕ → ℕ → Bool
pairs_fit n words room starts = leb n most_strokes && leb (8 * n) words && leb (2 * n) room && leb n starts

-- the strokes of the first 2 n words spliced and written, and the first 8 n words zero; nothing is changed where it does not fit
unfoldable pub pairs_left : List ℕ → ℕ → List ℕ → List ℕ → Outcome Lent
pairs_left s n op os =
    cond (pairs_fit n (length s) (length op) (length os)) (laid (splice 0 eqb (pairs_of (take (2 * n) s))) (over s (replicate (8 * n) 0)) op os) (left (accepted (0 ∷ 0 ∷ [])) s op os)

-- each of n strokes of two points is there, and stroke i begins at point 2 i
pub record Paired (n : ℕ) (todo starts : List ℕ) : Type 0 where
  pub there : (i : ℕ) → i < n → get_or todo i 0 ≡ 1
  pub begins : (i : ℕ) → i < n → get_or starts i 0 ≡ 2 * i

-- what is written of the first 2 n words, and all from 8 n on as it was
pub record PairsDrawn (s s' : List ℕ) (n : ℕ) (op os op' os' : List ℕ) (p q : ℕ) : Type 0 where
  pub out : LaidOut (splice 0 eqb (pairs_of (take (2 * n) s))) op os op' os' p q
  pub rest : drop (8 * n) s' ≡ drop (8 * n) s
