-- What the steps of `edges` write: sides as they come, the order, mates, and flags.
use Rattle.std.specs.Prelude.{Bool, false, cond, List, [], ◌∷◌, ◌++◌, map, ℕ, zero, suc, ◌+◌, ◌*◌, ◌<◌, length, get_or, set, replicate, eqb}
use Rattle.order.specs.Order.{order, pair_key}
use Rattle.order.specs.Regions.{region, put}
use Rattle.mesh_edges.specs.Edges.{face_of, low_of, high_of, up_from, sides_of}

-- of n sides the first k: their smaller vertices, their larger ones, and their numbers
unfoldable pub sides_to : List ℕ → List ℕ → ℕ → ℕ → List ℕ
sides_to s is n k = put (put (put s 0 (map (low_of is) (up_from 0 k))) n (map (high_of is) (up_from 0 k))) (2 * n) (up_from 0 k)

-- the n numbers from 2 n on by the pairs of words that lie below them, and n words zero after them
unfoldable pub by_pairs : List ℕ → ℕ → List ℕ
by_pairs s n = put (put s (3 * n) (replicate n 0)) (2 * n) (order (pair_key (region s 0 n) (region s n n)) (region s (2 * n) n))

-- the words with no edge flipped
unfoldable pub plain_words : List ℕ → List ℕ
plain_words is =
    let n = length is in
    map (low_of is) (up_from 0 n) ++ map (high_of is) (up_from 0 n) ++ sides_of is ++ replicate n 0 ++ replicate n 0

-- the n numbers from 2 n on are sides
abbrev pub Below : List ℕ → ℕ → Type 0
Below s n = (k : ℕ) → k < n → get_or s (2 * n + k) 0 < n

-- of two sides the second one, plus 1, at the place of the first; any other number of sides changes nothing
unfoldable pub mate_mark : List ℕ → List ℕ → List ℕ
mate_mark [] m = m
mate_mark (a ∷ []) m = m
mate_mark (a ∷ b ∷ []) m = set m a (suc b)
mate_mark (a ∷ b ∷ c ∷ g) m = m

-- group after group
unfoldable pub marks : List (List ℕ) → List ℕ → List ℕ
marks [] m = m
marks (g ∷ gs) m = marks gs (mate_mark g m)

-- whether a word is a side of face y, plus 1
unfoldable pub mate_on : ℕ → ℕ → Bool
mate_on y zero = false
mate_on y (suc l) = eqb y (face_of l)

-- the flag of side k, where its mate is of face y
unfoldable pub flag_at : List ℕ → ℕ → ℕ → List ℕ → List ℕ
flag_at m y k f = cond (mate_on y (get_or m k 0)) (set f k 1) f

-- the flags of the sides of face x
unfoldable pub flag_pair : List ℕ → ℕ → ℕ → List ℕ → List ℕ
flag_pair m x y f = flag_at m y (3 * x + 2) (flag_at m y (3 * x + 1) (flag_at m y (3 * x) f))

-- pair after pair of a list of flips
unfoldable pub flag_all : List ℕ → List ℕ → List ℕ → List ℕ
flag_all m [] f = f
flag_all m (x ∷ []) f = f
flag_all m (x ∷ y ∷ fs) f = flag_all m fs (flag_pair m x y f)
