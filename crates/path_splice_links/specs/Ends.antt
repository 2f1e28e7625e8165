-- The ends as words of scratch have them: `vs` the value of each end, `todo` not 0 for each stroke that is there.
use Rattle.std.specs.Prelude.{◌≡◌, List, [], ◌∷◌, ◌++◌, Bool, ◌&&◌, not, cond, ℕ, zero, suc, ◌≤◌, get_or, length, drop, eqb}
use Rattle.path_splice_rule.specs.Splice.{stroke_of, is_zero}

-- e and f are ends of two strokes, and of one value
unfoldable pub fit : List ℕ → ℕ → ℕ → Bool
fit vs e f = not (eqb (stroke_of e) (stroke_of f)) && eqb (get_or vs e 0) (get_or vs f 0)

-- and both strokes are there
unfoldable pub fit_live : List ℕ → List ℕ → ℕ → ℕ → Bool
fit_live todo vs e f = not (is_zero (get_or todo (stroke_of e) 0)) && not (is_zero (get_or todo (stroke_of f) 0)) && fit vs e f

-- the ends e, e + 1, .. (k of them) of the strokes that are there
unfoldable pub live_from : List ℕ → ℕ → ℕ → List ℕ
live_from todo e zero = []
live_from todo e (suc k) = let r = live_from todo (suc e) k in cond (is_zero (get_or todo (stroke_of e) 0)) r (e ∷ r)

-- r ends are written, and nothing after them
pub record Lived (todo a a' : List ℕ) (r : ℕ) : Type 0 where
  pub count : r ≡ length (live_from todo 0 (length a))
  pub room : r ≤ length a
  pub first : a' ≡ live_from todo 0 (length a) ++ drop r a
