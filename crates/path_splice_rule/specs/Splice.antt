-- Splice, by the paper's rule: the ends of strokes, their links, the walk along them, and what is read on it.
use Rattle.std.specs.Prelude.{List, [], ◌∷◌, ◌++◌, map, reverse, Bool, true, false, ◌&&◌, not, cond, ℕ, zero, suc, ◌+◌, ◌-◌, ◌*◌, ◌/◌, ◌%◌, length, get_or, set, drop, replicate, eqb}

-- Ends. Stroke i has the ends 2 i (first) and 2 i + 1 (last).
abbrev pub stroke_of : ℕ → ℕ
stroke_of e = e / 2

abbrev pub end_on : ℕ → Bool → ℕ
end_on s false = 2 * s
end_on s true = 2 * s + 1

-- 0 for a first end, 1 for a last
abbrev pub side_of : ℕ → ℕ
side_of e = e % 2

-- the other end of the stroke
abbrev pub opposite : ℕ → ℕ
opposite e = e + 1 - 2 * side_of e

abbrev pub is_zero : ℕ → Bool
is_zero zero = true
is_zero (suc n) = false

abbrev pub down : ℕ → ℕ
down zero = 0
down (suc n) = n

-- Links. A list has a link for each end, as a number: no end, or the end f. `join e f` says that e and f may be linked.
abbrev pub free : ℕ
free = 0

abbrev pub to : ℕ → ℕ
to f = suc f

abbrev pub is_free : ℕ → Bool
is_free l = is_zero l

-- the highest free end below k that may be linked with e, if there is one
unfoldable pub pick : (ℕ → ℕ → Bool) → List ℕ → ℕ → ℕ → ℕ
pick join ls e zero = free
pick join ls e (suc k) = let r = pick join ls e k in cond (is_free (get_or ls k free) && join e k) (to k) r

-- e and what was picked for it, linked with each other
unfoldable pub tie : List ℕ → ℕ → ℕ → List ℕ
tie ls e zero = ls
tie ls e (suc f) = set (set ls e (to f)) f (to e)

-- end e, of m, linked if it is free
unfoldable pub link_end : (ℕ → ℕ → Bool) → ℕ → List ℕ → ℕ → List ℕ
link_end join m ls e = let r = tie ls e (pick join ls e m) in cond (is_free (get_or ls e free)) r ls

-- the ends e, e + 1, .. (k of them), one after the other
unfoldable pub link_from : (ℕ → ℕ → Bool) → ℕ → ℕ → ℕ → List ℕ → List ℕ
link_from join m zero e ls = ls
link_from join m (suc k) e ls = link_from join m k (suc e) (link_end join m ls e)

-- going up through all m ends, none linked at first
unfoldable pub links : (ℕ → ℕ → Bool) → ℕ → List ℕ
links join m = link_from join m m 0 (replicate m free)

-- The walk, over the links as a function and a list `todo` with a number for each stroke, 0 for one that is drawn or empty.
-- where the walk goes on to: the end linked with the exit, unless its stroke is drawn
unfoldable pub onward : List ℕ → ℕ → ℕ
onward todo zero = free
onward todo (suc f) = cond (is_zero (get_or todo (stroke_of f) 0)) free (to f)

-- the ends at which the strokes of one chain are entered, and what is then left to do
abbrev pub Chained : Type 0
Chained = record { chain : List ℕ; left : List ℕ }

-- the chain from e on: e alone where the walk stops there, else e before the rest
unfoldable pub after : ℕ → List ℕ → ℕ → Chained → Chained
after e t zero r = record { chain = e ∷ []; left = t }
after e t (suc f) r = record { chain = e ∷ r.chain; left = r.left }

-- the chain that enters at e, of at most k more strokes
unfoldable pub run : (ℕ → ℕ) → ℕ → List ℕ → ℕ → Chained
run link zero todo e = record { chain = e ∷ []; left = set todo (stroke_of e) 0 }
run link (suc k) todo e =
    let t = set todo (stroke_of e) 0 in
    let x = onward t (link (opposite e)) in
    let r = run link k t (down x) in
    after e t x r

-- several chains, and what is then left to do
abbrev pub Walked : Type 0
Walked = record { chains : List (List ℕ); left : List ℕ }

-- a chain from an end, or none
unfoldable pub from : (ℕ → ℕ) → ℕ → List ℕ → ℕ → Walked
from link n todo zero = record { chains = []; left = todo }
from link n todo (suc e) = let r = run link n todo e in record { chains = r.chain ∷ []; left = r.left }

-- the strokes s, s + 1, .. (k of them): each that is still to do, and that `enter` gives an end to enter at, starts a chain
unfoldable pub pass : (ℕ → ℕ) → (ℕ → ℕ) → ℕ → ℕ → ℕ → List ℕ → Walked
pass enter link n zero s todo = record { chains = []; left = todo }
pass enter link n (suc k) s todo =
    let r = from link n todo (cond (is_zero (get_or todo s 0)) free (enter s)) in
    let q = pass enter link n k (suc s) r.left in
    record { chains = r.chains ++ q.chains; left = q.left }

-- first the strokes with a free end, entered at the first if that is free; then rings, entered at the last
unfoldable pub at_free : (ℕ → ℕ) → ℕ → ℕ
at_free link s = cond (is_free (link (end_on s false))) (to (end_on s false)) (cond (is_free (link (end_on s true))) (to (end_on s true)) free)

unfoldable pub at_last : ℕ → ℕ
at_last s = to (end_on s true)

-- all chains of n strokes
unfoldable pub chains_of : (ℕ → ℕ) → ℕ → List ℕ → List (List ℕ)
chains_of link n todo =
    let p = pass (at_free link) link n n 0 todo in
    let q = pass at_last link n n 0 p.left in
    p.chains ++ q.chains

-- Strokes, over any points with a test `same` of equality; d is any point, and no answer depends on it.
module _ {A : Type 0} where
  unfoldable pub last_of : A → List A → A
  last_of d [] = d
  last_of d (x ∷ s) = last_of x s

  unfoldable pub first_of : A → List A → A
  first_of d [] = d
  first_of d (x ∷ s) = x

  -- 1 for a stroke with points, 0 for an empty one
  unfoldable pub present : List A → ℕ
  present [] = 0
  present (x ∷ s) = 1

  -- the point at an end of a stroke, by its side
  unfoldable pub end_of : A → ℕ → List A → A
  end_of d zero s = first_of d s
  end_of d (suc k) s = last_of d s

  -- read from side 0 as it is, from side 1 backwards
  unfoldable pub turned : ℕ → List A → List A
  turned zero s = s
  turned (suc k) s = reverse s

  unfoldable pub value_at : A → List (List A) → ℕ → A
  value_at d ss e = end_of d (side_of e) (get_or ss (stroke_of e) [])

  -- two ends may be linked: of strokes with points, not of one stroke, and of equal value
  unfoldable pub joinable : A → (A → A → Bool) → List (List A) → ℕ → ℕ → Bool
  joinable d same ss e f =
      not (is_zero (present (get_or ss (stroke_of e) []))) && not (is_zero (present (get_or ss (stroke_of f) [])))
      && not (eqb (stroke_of e) (stroke_of f)) && same (value_at d ss e) (value_at d ss f)

  -- a stroke as it is read from the end e
  unfoldable pub read_from : List (List A) → ℕ → List A
  read_from ss e = turned (side_of e) (get_or ss (stroke_of e) [])

  -- each joined stroke loses its first read point
  unfoldable pub added : List (List A) → List ℕ → List A
  added ss [] = []
  added ss (e ∷ c) = drop 1 (read_from ss e) ++ added ss c

  unfoldable pub read_chain : List (List A) → List ℕ → List A
  read_chain ss [] = []
  read_chain ss (e ∷ c) = read_from ss e ++ added ss c

  -- the chains of the strokes, each read
  unfoldable pub splice : A → (A → A → Bool) → List (List A) → List (List A)
  splice d same ss =
      let ls = links (joinable d same ss) (2 * length ss) in
      map (read_chain ss) (chains_of (λ e. get_or ls e free) (length ss) (map present ss))
