-- What salvage takes of bytes, what it keeps of that, and what it counts of the rest. Offsets that are stated are not followed.
use Rattle.std.specs.Prelude.{Bool, ◌&&◌, cond, List, [], ◌∷◌, ◌++◌, ℕ, zero, suc, ◌+◌, ◌-◌, ◌*◌, ◌/◌, length, leb, ltb, eqb}
use Rattle.refusal.specs.Limits.{most_points}
use Rattle.path.specs.Strokes.{strokes_of}
use Rattle.path.specs.Laid.{joined}
use Rattle.mesh.specs.Meshes.{all_below}
use Rattle.sheet.specs.Sheets.{starts_offset, numbers_offset, header_words, numbers_from, word_at, mode_in, vertices_in, stroke_count, point_count, starts_in, mode_good, counts_good}

-- a header to go by: its mode, vertices and strokes are a sheet's, and the bytes hold it and all the starts that it states
unfoldable pub header_usable : List ℕ → Bool
header_usable bs = mode_good (mode_in bs) && counts_good (vertices_in bs) (stroke_count bs) 0 && leb (4 * numbers_from (stroke_count bs)) (length bs)

-- ---- what is taken

abbrev pub lesser : ℕ → ℕ → ℕ
lesser x y = cond (leb x y) x y

-- how many points: the smallest of the count stated, the whole words behind the stated starts, and the limit
unfoldable pub taken_count : List ℕ → ℕ
taken_count bs = lesser (point_count bs) (lesser (length bs / 4 - numbers_from (stroke_count bs)) most_points)

-- the i-th word from the k-th on
abbrev pub behind : List ℕ → ℕ → ℕ → ℕ
behind bs k i = word_at bs (k + i)

-- the points lie behind the stated starts
abbrev pub point_in : List ℕ → ℕ → ℕ
point_in bs = behind bs (numbers_from (stroke_count bs))

-- of the starts after one at prev those that are above the last one taken, and below n
unfoldable pub rising_from : ℕ → ℕ → List ℕ → List ℕ
rising_from n prev [] = []
rising_from n prev (s ∷ ss) = cond (ltb prev s && ltb s n) (s ∷ rising_from n s ss) (rising_from n prev ss)

-- the starts taken of n points: the first as 0, whatever it says; with no points none
unfoldable pub starts_taken : ℕ → List ℕ → List ℕ
starts_taken zero ss = []
starts_taken (suc n) [] = []
starts_taken (suc n) (s ∷ ss) = 0 ∷ rising_from (suc n) 0 ss

unfoldable pub strokes_taken : List ℕ → List (List ℕ)
strokes_taken bs = strokes_of (point_in bs) (taken_count bs) (starts_taken (taken_count bs) (starts_in bs))

-- ---- what is kept of a stroke, of a sheet of n vertices

-- a point in front of the first piece
unfoldable pub longer : ℕ → List (List ℕ) → List (List ℕ)
longer p [] = (p ∷ []) ∷ []
longer p (c ∷ cs) = (p ∷ c) ∷ cs

-- a stroke cut at each point that is not below n; that point is dropped
unfoldable pub pieces_of : ℕ → List ℕ → List (List ℕ)
pieces_of n [] = [] ∷ []
pieces_of n (p ∷ ps) = cond (ltb p n) (longer p (pieces_of n ps)) ([] ∷ pieces_of n ps)

-- the pieces of so many points and more
unfoldable pub long_ones : ℕ → List (List ℕ) → List (List ℕ)
long_ones k [] = []
long_ones k (c ∷ cs) = cond (leb k (length c)) (c ∷ long_ones k cs) (long_ones k cs)

-- a stroke that nothing cuts is kept, of one point too; of others the pieces of two points and more
unfoldable pub kept_of : ℕ → List ℕ → List (List ℕ)
kept_of n s = cond (all_below n s) (s ∷ []) (long_ones 2 (pieces_of n s))

unfoldable pub kept_all : ℕ → List (List ℕ) → List (List ℕ)
kept_all n [] = []
kept_all n (s ∷ ss) = kept_of n s ++ kept_all n ss

-- the strokes of the sheet that is written
unfoldable pub saved_in : List ℕ → List (List ℕ)
saved_in bs = kept_all (vertices_in bs) (strokes_taken bs)

-- ---- what is counted

-- 1 where what is written is not what was stated
abbrev pub changed : ℕ → ℕ → ℕ
changed stated written = cond (eqb stated written) 0 1

-- offsets written other than stated, with so many strokes
unfoldable pub offsets_by : List ℕ → ℕ → ℕ
offsets_by bs strokes = changed (word_at bs starts_offset) (4 * header_words) + changed (word_at bs numbers_offset) (4 * numbers_from strokes)

unfoldable pub offsets_changed : List ℕ → ℕ
offsets_changed bs = offsets_by bs (length (saved_in bs))

-- starts ignored, of n points: those that are not taken, and the first where it says other than 0
unfoldable pub ignored_of : ℕ → List ℕ → ℕ
ignored_of zero ss = length ss
ignored_of (suc n) [] = 0
ignored_of (suc n) (s ∷ ss) = changed s 0 + (length ss - length (rising_from (suc n) 0 ss))

unfoldable pub starts_ignored : List ℕ → ℕ
starts_ignored bs = ignored_of (taken_count bs) (starts_in bs)

-- points not below n
unfoldable pub wild_of : ℕ → List ℕ → ℕ
wild_of n [] = 0
wild_of n (p ∷ ps) = cond (ltb p n) 0 1 + wild_of n ps

-- points of strokes that are dropped for their number
unfoldable pub wild_in : List ℕ → ℕ
wild_in bs = wild_of (vertices_in bs) (joined (strokes_taken bs))

-- pieces of one point
unfoldable pub lones_of : List (List ℕ) → ℕ
lones_of [] = 0
lones_of (c ∷ cs) = cond (eqb (length c) 1) 1 0 + lones_of cs

-- those that a cut makes, of all strokes
unfoldable pub lones_all : ℕ → List (List ℕ) → ℕ
lones_all n [] = 0
lones_all n (s ∷ ss) = cond (all_below n s) 0 (lones_of (pieces_of n s)) + lones_all n ss

-- points dropped as leftovers: pieces of one point; with no strokes stated all points
unfoldable pub leftovers_in : List ℕ → ℕ
leftovers_in bs = cond (eqb (stroke_count bs) 0) (taken_count bs) (lones_all (vertices_in bs) (strokes_taken bs))
