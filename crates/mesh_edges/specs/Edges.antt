-- The edges of a mesh: side k of the list of indices runs from corner k to the next corner of its face, k / 3.
use Rattle.std.specs.Prelude.{cond, List, [], ◌∷◌, ℕ, zero, suc, ◌+◌, ◌-◌, ◌*◌, ◌/◌, ◌%◌, min, max, length, get_or, eqb}
use Rattle.order.specs.Order.{order}

abbrev pub face_of : ℕ → ℕ
face_of k = k / 3

-- the corner after k in its face: sides 12, 23, 31
abbrev pub next_corner : ℕ → ℕ
next_corner k = cond (eqb (k % 3) 2) (k - 2) (k + 1)

-- the smaller and the larger vertex number of a side
abbrev pub low_of : List ℕ → ℕ → ℕ
low_of is k = min (get_or is k 0) (get_or is (next_corner k) 0)

abbrev pub high_of : List ℕ → ℕ → ℕ
high_of is k = max (get_or is k 0) (get_or is (next_corner k) 0)

-- a side's pair as one number, the smaller first; vertex numbers are words
abbrev pub pair_of : List ℕ → ℕ → ℕ
pair_of is k = low_of is k * 4294967296 + high_of is k

-- n numbers from k on
unfoldable pub up_from : ℕ → ℕ → List ℕ
up_from k zero = []
up_from k (suc n) = k ∷ up_from (k + 1) n

-- all sides by their pair, and those of one pair as they came, which is by face
unfoldable pub sides_of : List ℕ → List ℕ
sides_of is = order (pair_of is) (up_from 0 (length is))

-- neighbours with one key are a group
unfoldable pub grow : (ℕ → ℕ) → ℕ → List (List ℕ) → List (List ℕ)
grow key k [] = (k ∷ []) ∷ []
grow key k ([] ∷ gs) = (k ∷ []) ∷ gs
grow key k ((j ∷ g) ∷ gs) = cond (eqb (key k) (key j)) ((k ∷ j ∷ g) ∷ gs) ((k ∷ []) ∷ (j ∷ g) ∷ gs)

unfoldable pub groups_of : (ℕ → ℕ) → List ℕ → List (List ℕ)
groups_of key [] = []
groups_of key (k ∷ ks) = grow key k (groups_of key ks)

-- the edges: each pair once, with the sides that have it
unfoldable pub edges_of : List ℕ → List (List ℕ)
edges_of is = groups_of (pair_of is) (sides_of is)
