-- The ends in the order of their values, and their mirrored links.
use Rattle.std.specs.Prelude.{◌≡◌, List, ◌≢◌, ◌⊎◌, ℕ, ◌+◌, ◌-◌, ◌<◌, ◌≤◌, length, get_or}
use Rattle.path_splice_rule.specs.Splice.{stroke_of, free, to}

-- the value of the end at place x
abbrev pub end_value : List ℕ → List ℕ → ℕ → ℕ
end_value vs s x = get_or vs (get_or s x 0) 0

-- the places from a to b, b not among them, are those of one value
pub record Run (vs s : List ℕ) (a b : ℕ) : Type 0 where
  pub some : a < b
  pub inside : b ≤ length s
  pub same : (z : ℕ) → a ≤ z → z < b → end_value vs s z ≡ end_value vs s a
  pub only : (z : ℕ) → z < length s → end_value vs s z ≡ end_value vs s a → (a ≤ z) × (z < b)

-- l is the link of e where f is at the mirrored place
pub record Pair (e f l : ℕ) : Type 0 where
  pub own : stroke_of e ≡ stroke_of f → l ≡ free
  pub other : stroke_of e ≢ stroke_of f → l ≡ to f

-- the end at place x of the run is linked as its mirror says
pub record Mirror (vs s : List ℕ) (x l : ℕ) : Type 0 where
  pub a : ℕ
  pub b : ℕ
  pub low : a ≤ x
  pub high : x < b
  pub run : Run vs s a b
  pub pair : Pair (get_or s x 0) (get_or s (a + b - 1 - x) 0) l

-- places in the order of their values, and then of the ends, which lie below m
pub record Ranked (vs s : List ℕ) (m : ℕ) : Type 0 where
  pub each : (x : ℕ) → x < length s → get_or s x 0 < m
  pub rise : (x y : ℕ) → x < y → y < length s → (end_value vs s x < end_value vs s y) ⊎ ((end_value vs s x ≡ end_value vs s y) × (get_or s x 0 < get_or s y 0))

-- q is the first place after p with another value
pub record Reach (vs s : List ℕ) (p q : ℕ) : Type 0 where
  pub some : p < q
  pub inside : q ≤ length s
  pub same : (z : ℕ) → p ≤ z → z < q → end_value vs s z ≡ end_value vs s p
  pub stop : q < length s → end_value vs s q ≢ end_value vs s p

-- the ends at the places from p to x, x not among them, are linked by their mirrors in the run from p to q, and no others are changed
pub record Mirrored (s ls ls' : List ℕ) (p q x : ℕ) : Type 0 where
  pub size : length ls' ≡ length ls
  pub pairs : (z : ℕ) → p ≤ z → z < x → Pair (get_or s z 0) (get_or s (p + q - 1 - z) 0) (get_or ls' (get_or s z 0) 0)
  pub rest : (e : ℕ) → ((z : ℕ) → p ≤ z → z < x → get_or s z 0 ≢ e) → get_or ls' e 0 ≡ get_or ls e 0

-- the ends at the places below p are linked by their mirrors, and no others are changed
pub record Linked (vs s ls ls' : List ℕ) (p : ℕ) : Type 0 where
  pub size : length ls' ≡ length ls
  pub each : (x : ℕ) → x < p → Mirror vs s x (get_or ls' (get_or s x 0) 0)
  pub rest : (e : ℕ) → ((x : ℕ) → x < p → get_or s x 0 ≢ e) → get_or ls' e 0 ≡ get_or ls e 0
