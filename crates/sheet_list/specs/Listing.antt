-- The text that lists a sheet, in bytes.
use Rattle.std.specs.Prelude.{cond, List, [], ◌∷◌, ◌++◌, map, ℕ, zero, suc, ◌+◌, ◌*◌, ◌/◌, ◌%◌, length, leb, ltb}
use Rattle.refusal.specs.declared.Refusal.TheVariants.{Count, Sheet}
use Rattle.refusal.specs.Refusals.{number_of}
use Rattle.path.specs.Strokes.{strokes_in}
use Rattle.path.specs.Laid.{joined}
use Rattle.sheet.specs.Sheets.{mode_in, vertices_in, stroke_count, point_count, starts_in, numbers_in, is_sheet}

-- the power of ten of n's first digit, from the power p on, at most f powers up
unfoldable pub top_from : ℕ → ℕ → ℕ → ℕ
top_from zero p n = p
top_from (suc f) p n = cond (ltb (n / p) 10) p (top_from f (p * 10) n)

-- the digits of n from that of the power p down to the last, at most f of them
unfoldable pub digits_from : ℕ → ℕ → ℕ → List ℕ
digits_from zero p n = []
digits_from (suc f) p n = cond (ltb 0 p) ((48 + n / p % 10) ∷ digits_from f (p / 10) n) []

-- n in decimal, with no leading zero; a word has at most ten digits
unfoldable pub decimal : ℕ → List ℕ
decimal n = digits_from 10 (top_from 9 1 n) n

-- each number after a space
unfoldable pub spaced : List ℕ → List ℕ
spaced [] = []
spaced (x ∷ xs) = 32 ∷ decimal x ++ spaced xs

-- a line: the numbers parted by one space, and a newline
unfoldable pub line_of : List ℕ → List ℕ
line_of [] = 10 ∷ []
line_of (x ∷ xs) = decimal x ++ (spaced xs ++ 10 ∷ [])

-- a line a stroke
abbrev pub lines_of : List (List ℕ) → List ℕ
lines_of ss = joined (map line_of ss)

-- mode, vertices, strokes, points; then the strokes
unfoldable pub listed : List ℕ → List ℕ
listed bs = line_of (mode_in bs ∷ vertices_in bs ∷ stroke_count bs ∷ point_count bs ∷ []) ++ lines_of (strokes_in (numbers_in bs) (starts_in bs))

-- `refused ` and the number
unfoldable pub refused_text : ℕ → List ℕ
refused_text n = 114 ∷ 101 ∷ 102 ∷ 117 ∷ 115 ∷ 101 ∷ 100 ∷ 32 ∷ line_of (n ∷ [])

-- the most bytes that are listed
abbrev pub most_bytes : ℕ
most_bytes = 65536

-- the most that their text has
abbrev pub most_text : ℕ
most_text = 3 * most_bytes

-- a longer input is 2, and bytes that are no sheet are 9
unfoldable pub text_of : List ℕ → List ℕ
text_of bs = cond (leb (length bs) most_bytes) (cond (is_sheet bs) (listed bs) (refused_text (number_of Sheet))) (refused_text (number_of Count))
