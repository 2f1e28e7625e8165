-- What is filled into scratch, and what an order of entered strokes reads.
use Rattle.std.specs.Prelude.{◌≡◌, cond, List, [], ◌∷◌, ◌++◌, map, ℕ, ◌+◌, ◌-◌, ◌*◌, ◌/◌, ◌%◌, ◌<◌, ◌≤◌, length, get_or, drop}
use Rattle.order.specs.Regions.{region, put}
use Rattle.path.specs.Strokes.{strokes_in}
use Rattle.path.specs.Laid.{over, joined, starts_from}
use Rattle.path_splice_rule.specs.Splice.{is_zero, read_from, value_at, present}
use Rattle.path_splice_links.specs.Layout.{todo_at}

-- stroke i lies from place a up to place b
pub record Spans (ps ss : List ℕ) (i a b : ℕ) : Type 0 where
  pub low : a ≤ b
  pub high : b ≤ length ps
  pub is : get_or (strokes_in ps ss) i [] ≡ region ps a (b - a)

-- a start, where entry x of an order is odd
unfoldable pub start_mark : ℕ → ℕ → List ℕ
start_mark p x = cond (is_zero (x % 2)) [] (p ∷ [])

-- strokes of any points
module _ {A : Type 0} (ss : List (List A)) where
  -- what an entry x of the order writes: a stroke from its end x / 2, whole where x is odd, and else without its first point
  unfoldable pub entry_text : ℕ → List A
  entry_text x = drop (1 - x % 2) (read_from ss (x / 2))

  unfoldable pub order_text : List ℕ → List A
  order_text [] = []
  order_text (x ∷ xs) = entry_text x ++ order_text xs

  unfoldable pub marks_of : ℕ → List ℕ → List ℕ
  marks_of p [] = []
  marks_of p (x ∷ xs) = start_mark p x ++ marks_of (p + length (entry_text x)) xs

-- what the reading of an order leaves, where `write` stores points from a place on
pub record ReadOut {A B : Type 0} (write : List B → ℕ → List A → List B) (ss : List (List A)) (order : List ℕ) (op : List B) (os : List ℕ) (op' : List B) (os' : List ℕ) (p q : ℕ) : Type 0 where
  pub points : op' ≡ write op 0 (order_text ss order)
  pub starts : os' ≡ put os 0 (marks_of ss 0 order)
  pub many : p ≡ length (order_text ss order)
  pub chains : q ≡ length (marks_of ss 0 order)

-- the values of all ends, and which strokes have points
pub record Filled (ss : List (List ℕ)) (s : List ℕ) (n : ℕ) : Type 0 where
  pub values : (e : ℕ) → e < 2 * n → get_or (region s 0 (2 * n)) e 0 ≡ value_at 0 ss e
  pub todo : region s (todo_at n) n ≡ map present ss

-- strokes laid out at the front of two lists, points as `flat` says
pub record LaidBy {A B : Type 0} (flat : List A → List B) (ss : List (List A)) (op : List B) (os : List ℕ) (op' : List B) (os' : List ℕ) (p q : ℕ) : Type 0 where
  pub points : op' ≡ over op (flat (joined ss))
  pub starts : os' ≡ over os (starts_from 0 ss)
  pub many : p ≡ length (joined ss)
  pub strokes : q ≡ length ss

-- numbers lie as they are
abbrev pub LaidOut : List (List ℕ) → List ℕ → List ℕ → List ℕ → List ℕ → ℕ → ℕ → Type 0
LaidOut ss op os op' os' p q = LaidBy (λ ns. ns) ss op os op' os' p q
