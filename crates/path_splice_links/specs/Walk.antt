-- The order that the walk writes: for each stroke entered, in turn, its end times two, plus 1 where a chain begins.
use Rattle.std.specs.Prelude.{◌≡◌, Bool, ◌&&◌, cond, List, [], ◌∷◌, ◌++◌, ℕ, ◌+◌, ◌-◌, ◌*◌, ◌≤◌, length, get_or, take, replicate, leb}
use Rattle.refusal.specs.Limits.{most_strokes}
use Rattle.order.specs.Regions.{region, put}
use Rattle.path_splice_rule.specs.Splice.{free, is_zero, run, from, Walked, at_free, at_last, chains_of}
use Rattle.path_splice_links.specs.Layout.{order_at, words_for, values_in, links_in, todo_in, links_of}
use Rattle.path_splice_rule.specs.Totals.{total}

-- the link of end e
abbrev pub link_in : List ℕ → ℕ → ℕ
link_in ls e = get_or ls e free

-- no link leads out of the list
abbrev pub Within : List ℕ → Type 0
Within ls = (e : ℕ) → get_or ls e 0 ≤ length ls

-- the ends at which strokes are entered, doubled; the first carries f
unfoldable pub doubled_ends : ℕ → List ℕ → List ℕ
doubled_ends f [] = []
doubled_ends f (e ∷ c) = (e + e + f) ∷ doubled_ends 0 c

-- chains one after the other, each with its first end marked
unfoldable pub all_doubled : List (List ℕ) → List ℕ
all_doubled [] = []
all_doubled (c ∷ cs) = doubled_ends 1 c ++ all_doubled cs

-- a chain was walked: the order goes on with it after `at`
pub record RunIs (ls todo order : List ℕ) (at start : ℕ) (todo' order' : List ℕ) (r : ℕ) : Type 0 where
  pub left : todo' ≡ (run (link_in ls) (length todo) todo start).left
  pub front : take r order' ≡ take at order ++ doubled_ends 1 (run (link_in ls) (length todo) todo start).chain
  pub room : total (λ s. 1) 0 todo' + r ≤ length order'

-- the chains of w were walked
pub record Drew (w : Walked) (order : List ℕ) (at : ℕ) (todo' order' : List ℕ) (r : ℕ) : Type 0 where
  pub left : todo' ≡ w.left
  pub front : take r order' ≡ take at order ++ all_doubled w.chains
  pub room : total (λ s. 1) 0 todo' + r ≤ length order'

-- where a stroke is entered, plus 1
unfoldable pub entry : (ℕ → ℕ) → Bool → ℕ → ℕ
entry link rings i = cond rings (at_last i) (at_free link i)

-- the chain that begins at stroke i, if there is one
unfoldable pub begun_at : List ℕ → ℕ → List ℕ → Bool → ℕ → Walked
begun_at ls n todo rings i = from (link_in ls) n todo (cond (is_zero (get_or todo i 0)) free (entry (link_in ls) rings i))

-- a list in which a walk can go
pub record Walkable (s : List ℕ) (n at : ℕ) : Type 0 where
  pub size : words_for n ≤ length s
  pub few : n ≤ most_strokes
  pub within : Within (links_in s n)
  pub room : total (λ s. 1) 0 (todo_in s n) + at ≤ n

-- the order in which the chains of n strokes enter them, of the values of their ends and of what is to do
unfoldable pub order_in : List ℕ → ℕ → List ℕ
order_in s n = all_doubled (chains_of (link_in (links_of s n)) n (todo_in s n))

-- r words of the order lie in its place, and the values and all after what is to do are as they were
pub record Woven (s s' : List ℕ) (n r : ℕ) : Type 0 where
  pub few : r ≤ n
  pub order : region s' (order_at n) r ≡ order_in s n
  pub values : values_in s' n ≡ values_in s n
  pub rest : (b m : ℕ) → words_for n ≤ b → b + m ≤ length s → region s' b m ≡ region s b m

-- how many words of the order there are, and what is left in scratch
pub record Threaded : Type 0 where
  pub count : ℕ
  pub words : List ℕ

abbrev pub threaded : ℕ → List ℕ → Threaded
threaded r s = record { count = r; words = s }

-- the order in its place, zero after it up to the end of what is to do, and all else as it was; nothing is changed where there are
-- too many strokes, or too few words
unfoldable pub thread_in : List ℕ → ℕ → Threaded
thread_in s n =
    let o = order_in s n in
    cond (leb n most_strokes && leb (words_for n) (length s)) (threaded (length o) (put s (order_at n) (o ++ replicate (5 * n - length o) 0))) (threaded 0 s)
