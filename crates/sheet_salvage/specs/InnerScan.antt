-- What is kept of a stroke, point by point: a point tells by its neighbours whether it is kept, and whether a stroke begins with it.
use Rattle.std.specs.Prelude.{Bool, false, ◌&&◌, ◌||◌, cond, List, [], ◌∷◌, ℕ, ◌+◌, ltb}

-- 1 for true
abbrev pub num : Bool → ℕ
num b = cond b 1 0

-- whether there is a point, and it is below n
unfoldable pub next_good : ℕ → List ℕ → Bool
next_good n [] = false
next_good n (q ∷ qs) = ltb q n

-- a point is kept if it is below n, and so is the one before or the one behind, or it is all of its stroke
abbrev pub keeps : Bool → Bool → Bool → Bool → Bool
keeps single prev here next = here && (single || (prev || next))

-- the numbers kept of a stroke's points that are left; the one before them is below n if `prev` says so
unfoldable pub scanned : ℕ → Bool → Bool → List ℕ → List ℕ
scanned n single prev [] = []
scanned n single prev (p ∷ ps) = cond (keeps single prev (ltb p n) (next_good n ps)) (p ∷ scanned n single (ltb p n) ps) (scanned n single (ltb p n) ps)

-- the starts among them, where k numbers are kept before
unfoldable pub begun : ℕ → Bool → Bool → ℕ → List ℕ → List ℕ
begun n single prev k [] = []
begun n single prev k (p ∷ ps) =
    cond (keeps single prev (ltb p n) (next_good n ps)) (cond prev (begun n single (ltb p n) (k + 1) ps) (k ∷ begun n single (ltb p n) (k + 1) ps)) (begun n single (ltb p n) k ps)

-- how many points are below n
unfoldable pub good_of : ℕ → List ℕ → ℕ
good_of n [] = 0
good_of n (p ∷ ps) = num (ltb p n) + good_of n ps
