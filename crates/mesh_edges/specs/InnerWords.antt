-- The edges as words of scratch. With n sides: the smaller vertex of each side lies from word 0, the larger from n, the sides by their pairs from 2 n,
-- and from 4 n which edges of two faces are flipped.
use Rattle.std.specs.Prelude.{cond, ◌&&◌, List, [], ◌∷◌, ◌++◌, map, ℕ, zero, suc, ◌+◌, ◌*◌, length, get_or, drop, replicate, leb, eqb}
use Rattle.refusal.specs.Limits.{most_faces}
use Rattle.order.specs.Regions.{region, put}
use Rattle.mesh_edges.specs.Edges.{face_of, low_of, high_of, up_from, sides_of, edges_of}
use Rattle.mesh_edges.specs.Flips.{flipped}

-- of an edge of two sides the second one, plus 1, where k is the first; else 0
unfoldable pub mate_in : List (List ℕ) → ℕ → ℕ
mate_in [] k = 0
mate_in ([] ∷ es) k = mate_in es k
mate_in ((a ∷ []) ∷ es) k = mate_in es k
mate_in ((a ∷ b ∷ []) ∷ es) k = cond (eqb a k) (suc b) (mate_in es k)
mate_in ((a ∷ b ∷ c ∷ g) ∷ es) k = mate_in es k

-- 1 where the faces of a side and of its mate are in the list of flips
abbrev pub flag_by : List ℕ → ℕ → ℕ → ℕ
flag_by flips k zero = 0
flag_by flips k (suc l) = cond (flipped (face_of k) (face_of l) flips) 1 0

unfoldable pub flag_of : List ℕ → List ℕ → ℕ → ℕ
flag_of is flips k = flag_by flips k (mate_in (edges_of is) k)

-- what the words say of n sides
unfoldable pub side_words : List ℕ → List ℕ → List ℕ
side_words is flips =
    let n = length is in
    map (low_of is) (up_from 0 n) ++ map (high_of is) (up_from 0 n) ++ sides_of is ++ replicate n 0 ++ map (flag_of is flips) (up_from 0 n)

-- written to the front of a list; nothing is changed where there are too many sides, or too few words
unfoldable pub edges_in : List ℕ → List ℕ → List ℕ → List ℕ
edges_in s is flips = cond (leb (length is) (3 * most_faces) && leb (5 * length is) (length s)) (put s 0 (side_words is flips)) s

-- ---- neighbours in the list of sides

-- a side's pair as the words say it
abbrev pub pair_in : List ℕ → ℕ → ℕ → ℕ
pair_in s n k = get_or s k 0 * 4294967296 + get_or s (n + k) 0

-- how many of a list have the key of x, up to the first that has not
unfoldable pub alike : (ℕ → ℕ) → ℕ → List ℕ → ℕ
alike key x [] = 0
alike key x (y ∷ ys) = cond (eqb (key x) (key y)) (suc (alike key x ys)) 0

-- where the edge of the side at place p ends; p past the last
unfoldable pub end_in : List ℕ → ℕ → ℕ → ℕ
end_in s n p = let r = p + 1 + alike (pair_in s n) (get_or s (2 * n + p) 0) (drop (p + 1) (region s (2 * n) n)) in cond (leb (5 * n) (length s) && leb (p + 1) n) r p
