-- The words of n strokes in one list: the values of their ends, the order, the links, and what is to do, one after the other.
use Rattle.std.specs.Prelude.{◌≡◌, List, ℕ, ◌+◌, ◌*◌, ◌≤◌, length}
use Rattle.order.specs.Regions.{region}
use Rattle.path_splice_rule.specs.Splice.{links}
use Rattle.path_splice_links.specs.Ends.{fit_live}

-- where the order, the links and what is to do begin, and where that ends; the values lie from 0
abbrev pub order_at : ℕ → ℕ
order_at n = 2 * n

abbrev pub links_at : ℕ → ℕ
links_at n = 4 * n

abbrev pub todo_at : ℕ → ℕ
todo_at n = 6 * n

abbrev pub words_for : ℕ → ℕ
words_for n = 7 * n

-- the value and the link of each end, and of each stroke whether it is to do
abbrev pub values_in : List ℕ → ℕ → List ℕ
values_in s n = region s 0 (2 * n)

abbrev pub links_in : List ℕ → ℕ → List ℕ
links_in s n = region s (links_at n) (2 * n)

abbrev pub todo_in : List ℕ → ℕ → List ℕ
todo_in s n = region s (todo_at n) n

-- the links that the definition has for the values and what is to do
abbrev pub links_of : List ℕ → ℕ → List ℕ
links_of s n = links (fit_live (todo_in s n) (values_in s n)) (2 * n)

-- the links are the definition's, and the values, what is to do and all after it are as they were
pub record LinksIn (s s' : List ℕ) (n : ℕ) : Type 0 where
  pub links : links_in s' n ≡ links_of s n
  pub todo : todo_in s' n ≡ todo_in s n
  pub values : values_in s' n ≡ values_in s n
  pub rest : (b m : ℕ) → words_for n ≤ b → b + m ≤ length s → region s' b m ≡ region s b m
