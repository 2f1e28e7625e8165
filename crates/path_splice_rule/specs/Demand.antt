-- Demand 3: what splicing keeps, and how few open strokes it leaves.
use Rattle.std.specs.Prelude.{List, [], ◌∷◌, Bool, true, false, ◌&&◌, ◌||◌, not, cond, ◌≡◌, ℕ, ◌+◌, ◌%◌, ◌≤◌, length}
use Rattle.path_splice_rule.specs.Splice.{last_of}

-- a test that is true exactly of equal points
pub record Law {A : Type 0} (same : A → A → Bool) : Type 0 where
  pub eq : (x y : A) → same x y ≡ true → x ≡ y
  pub self : (x : A) → same x x ≡ true

module _ {A : Type 0} where
  -- a weight summed over a list
  unfoldable pub sum : (A → ℕ) → List A → ℕ
  sum w [] = 0
  sum w (x ∷ s) = w x + sum w s

  -- a weight of pairs summed over a stroke's neighbouring pairs
  unfoldable pub over_pairs : (A → A → ℕ) → List A → ℕ
  over_pairs g [] = 0
  over_pairs g (x ∷ []) = 0
  over_pairs g (x ∷ y ∷ s) = g x y + over_pairs g (y ∷ s)

-- 1 for what is so, else 0
abbrev pub one : Bool → ℕ
one true = 1
one false = 0

module _ {A : Type 0} (same : A → A → Bool) where
  -- whether x y is the pair a b, in either direction
  unfoldable pub is_pair : A → A → A → A → ℕ
  is_pair a b x y = one ((same a x && same b y) || (same a y && same b x))

  -- how often the strokes draw the pair a b
  unfoldable pub drawn : A → A → List (List A) → ℕ
  drawn a b = sum (over_pairs (is_pair a b))

  -- how many drawn pairs meet at v, one from v to v counted twice
  unfoldable pub degree : A → List (List A) → ℕ
  degree v = sum (over_pairs (λ x y. one (same v x) + one (same v y)))

  -- a stroke is open where its first and its last point differ
  unfoldable pub open_one : List A → ℕ
  open_one [] = 0
  open_one (x ∷ s) = one (not (same x (last_of x s)))

  -- how many ends of an open stroke lie at v
  unfoldable pub ends_one : A → List A → ℕ
  ends_one v [] = 0
  ends_one v (x ∷ s) = cond (same x (last_of x s)) 0 (one (same v x) + one (same v (last_of x s)))

  -- how many strokes are open, and how many open strokes v ends
  unfoldable pub open_count : List (List A) → ℕ
  open_count = sum open_one

  unfoldable pub ends_open : A → List (List A) → ℕ
  ends_open v = sum (ends_one v)

  pub record Demand3 (given out : List (List A)) : Type 0 where
    -- each pair is drawn as often as before
    pub pairs : (a b : A) → drawn a b out ≡ drawn a b given
    -- a vertex ends one open stroke where an odd number of pairs meet, and else none
    pub odd : (v : A) → ends_open v out ≡ degree v given % 2
    -- no other strokes that draw these pairs have fewer open ones
    pub least : (other : List (List A)) → ((a b : A) → drawn a b other ≡ drawn a b given) → open_count out ≤ open_count other
    -- where an even number of pairs meets at every vertex, no stroke is open
    pub closed : ((v : A) → degree v given % 2 ≡ 0) → open_count out ≡ 0
    -- no more points and no more strokes than before
    pub points : sum length out ≤ sum length given
    pub strokes : length out ≤ length given
