-- Lists that are filled from a row and held to one.
use Rattle.std.specs.Prelude.{ℕ, zero, suc, ◌+◌, Bool, true, cond, ◌&&◌, List, [], ◌∷◌, nat_lt, slice_set}
use Rattle.replay_rows.specs.declared.Page.{Page}
use Rattle.replay_rows.specs.Words.{past_of}
use Rattle.replay_rows.specs.Pages.{word_of}

-- the first n elements set by a rule
unfoldable pub filled : {A : Type 0} → (ℕ → A) → List A → ℕ → List A
filled f s zero = s
filled f s (suc n) = slice_set (filled f s n) n (f n)

-- whether each element, the first of them at place i of its list, is what is wanted at its place
unfoldable pub held : {A : Type 0} → (A → ℕ → Bool) → (ℕ → ℕ) → ℕ → List A → Bool
held is want i [] = true
held is want i (x ∷ xs) = is x (want i) && held is want (i + 1) xs

-- the word that is to stand at place i of a list: of n words those from `at` on, then what was there
unfoldable pub expected : Page → ℕ → ℕ → ℕ → ℕ → ℕ
expected page at n rest i = cond (nat_lt i n) (word_of page (past_of at i)) rest
