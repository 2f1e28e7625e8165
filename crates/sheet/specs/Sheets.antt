-- A sheet: strokes of vertex numbers as bytes, in words of four bytes, the lowest byte first.
use Rattle.std.specs.Prelude.{Bool, true, ◌&&◌, cond, List, [], ◌∷◌, ◌++◌, ℕ, ◌+◌, ◌*◌, length, leb, ltb, eqb}
use Rattle.refusal.specs.Limits.{most_vertices, most_strokes, most_points}
use Rattle.byte_words.specs.Bytes.{bytes_all, word_from}
use Rattle.path.specs.Strokes.{gather}
use Rattle.path.specs.Laid.{non_empty, joined, starts_from}
use Rattle.mesh.specs.Meshes.{all_below}
use Rattle.mesh_mode.specs.Modes.{meant}

-- the k-th word of bytes; a byte past the end is 0
unfoldable pub word_at : List ℕ → ℕ → ℕ
word_at bs k = word_from bs (k * 4)

-- ---- the places of the words

-- the header: mode and counts, then the offsets in bytes of starts and numbers
abbrev pub mode_place : ℕ
mode_place = 0

abbrev pub vertices_place : ℕ
vertices_place = 1

abbrev pub strokes_place : ℕ
strokes_place = 2

abbrev pub points_place : ℕ
points_place = 3

abbrev pub starts_offset : ℕ
starts_offset = 4

abbrev pub numbers_offset : ℕ
numbers_offset = 5

-- the starts follow the header
abbrev pub header_words : ℕ
header_words = 6

-- the numbers follow what each stroke has before them: one word, its start
abbrev pub numbers_from : ℕ → ℕ
numbers_from strokes = header_words + strokes

-- ---- what is written

unfoldable pub header_of : ℕ → ℕ → ℕ → ℕ → List ℕ
header_of mode vertices strokes points = mode ∷ vertices ∷ strokes ∷ points ∷ 4 * header_words ∷ 4 * numbers_from strokes ∷ []

-- header, starts, vertex numbers, nothing more
abbrev pub words_of : ℕ → ℕ → List ℕ → List ℕ → List ℕ
words_of mode vertices starts ns = header_of mode vertices (length starts) (length ns) ++ (starts ++ ns)

-- the sheet of strokes; an empty stroke is not written
unfoldable pub sheet_of : ℕ → ℕ → List (List ℕ) → List ℕ
sheet_of mode vertices ss = bytes_all (words_of mode vertices (starts_from 0 (non_empty ss)) (joined ss))

-- how many bytes a sheet of so many strokes and points has
abbrev pub size_of : ℕ → ℕ → ℕ
size_of strokes points = 4 * (numbers_from strokes + points)

-- ---- what is read

abbrev pub mode_in : List ℕ → ℕ
mode_in bs = word_at bs mode_place

abbrev pub vertices_in : List ℕ → ℕ
vertices_in bs = word_at bs vertices_place

abbrev pub stroke_count : List ℕ → ℕ
stroke_count bs = word_at bs strokes_place

abbrev pub point_count : List ℕ → ℕ
point_count bs = word_at bs points_place

unfoldable pub starts_in : List ℕ → List ℕ
starts_in bs = gather (word_at bs) header_words (stroke_count bs)

unfoldable pub numbers_in : List ℕ → List ℕ
numbers_in bs = gather (word_at bs) (numbers_from (stroke_count bs)) (point_count bs)

-- the mode numbers that a sheet has: 1, 2 and 3
unfoldable pub mode_good : ℕ → Bool
mode_good m = leb m 3 && ltb 0 m

-- the one that is stored of a mode number: what it stands for, and 0 where a sheet has none
unfoldable pub mode_word : ℕ → ℕ
mode_word n = cond (mode_good (meant n)) (meant n) 0

-- vertices, strokes and points within their limits
unfoldable pub counts_good : ℕ → ℕ → ℕ → Bool
counts_good vertices strokes points = leb vertices most_vertices && leb strokes most_strokes && leb points most_points

-- the offsets of starts and points, and the length to the byte: nothing is missing and nothing follows
unfoldable pub places_good : List ℕ → ℕ → ℕ → Bool
places_good bs strokes points = eqb (word_at bs starts_offset) (4 * header_words) && eqb (word_at bs numbers_offset) (4 * numbers_from strokes) && eqb (length bs) (size_of strokes points)

-- a header that fits the bytes
unfoldable pub header_good : List ℕ → Bool
header_good bs = mode_good (mode_in bs) && counts_good (vertices_in bs) (stroke_count bs) (point_count bs) && places_good bs (stroke_count bs) (point_count bs)

-- each start is above the one before it and below n
unfoldable pub strict_from : ℕ → ℕ → List ℕ → Bool
strict_from n prev [] = true
strict_from n prev (s ∷ ss) = ltb prev s && ltb s n && strict_from n s ss

-- the table of n points: the first start is 0, then strictly rising, below n; no strokes exactly if no points
unfoldable pub table_good : ℕ → List ℕ → Bool
table_good n [] = eqb n 0
table_good n (s ∷ ss) = eqb s 0 && ltb s n && strict_from n s ss

-- bytes that are a sheet
unfoldable pub is_sheet : List ℕ → Bool
is_sheet bs = header_good bs && table_good (point_count bs) (starts_in bs) && all_below (vertices_in bs) (numbers_in bs)
