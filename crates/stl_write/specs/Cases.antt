-- Worked cases of writing, as bytes.
use Rattle.std.specs.Prelude.{◌≡◌, List, [], ◌∷◌, ◌++◌, map, ℕ, length, replicate, Float}
use Rattle.std.specs.Float.{binary64}
use Rattle.std.specs.Float.Ieee.{of_bits}
use Rattle.refusal.specs.declared.Refusal.{Refusal}
use Rattle.refusal.specs.declared.Refusal.TheVariants.{Number, Room}
use Rattle.refusal.specs.Said.{accepted, refused}
use Rattle.stl_write.specs.Call.{left, write_left}

-- vertices by their f64 patterns, and indices; then how many bytes are lent behind the file, and the file; or how many are lent, and the refusal
pub data Case : Type 0 where
  writes : List ℕ → List ℕ → ℕ → List ℕ → Case
  refuses : List ℕ → List ℕ → ℕ → Refusal → Case

abbrev pub numbers : List ℕ → List Float
numbers ps = map (of_bits binary64) ps

-- every byte lent is 9 before: behind the file it still is, and after a refusal all are
abbrev pub Holds : Case → Type 0
Holds (writes ps is more file) = write_left (numbers ps) is (replicate (length file) 9 ++ replicate more 9) ≡ left (accepted (length file ∷ [])) (file ++ replicate more 9)
Holds (refuses ps is room r) = write_left (numbers ps) is (replicate room 9) ≡ left (refused r) (replicate room 9)

-- ---- numbers by their patterns

abbrev pub minus_zero : ℕ
minus_zero = 0x8000_0000_0000_0000

abbrev pub half : ℕ
half = 0x3fe0_0000_0000_0000

abbrev pub one : ℕ
one = 0x3ff0_0000_0000_0000

-- 2^-149, the least f32, and half of it
abbrev pub least : ℕ
least = 0x36a0_0000_0000_0000

abbrev pub below_least : ℕ
below_least = 0x3690_0000_0000_0000

-- 1048576, the greatest coordinate, and the next f64
abbrev pub most : ℕ
most = 0x4130_0000_0000_0000

abbrev pub past_most : ℕ
past_most = 0x4130_0000_0000_0001

-- 0.1, and 1 + 2^-24
abbrev pub tenth : ℕ
tenth = 0x3fb9_9999_9999_999a

abbrev pub long : ℕ
long = 0x3ff0_0000_1000_0000

abbrev pub not_a_number : ℕ
not_a_number = 0x7ff8_0000_0000_0000

-- ---- vertices and files

-- (-0, 0.5, 2^-149), (1048576, 0, 0), (0, 1, 0), and more
abbrev pub three : List ℕ → List ℕ
three more = minus_zero ∷ half ∷ least ∷ most ∷ 0 ∷ 0 ∷ 0 ∷ one ∷ 0 ∷ more

abbrev pub first : List ℕ
first = 0 ∷ 1 ∷ 2 ∷ []

abbrev pub zero_bytes : ℕ → List ℕ
zero_bytes n = replicate n 0

-- the face of these three: 80000000 3F000000 00000001, 49800000 0 0, 0 3F800000 0 behind the header, the count 1 and the normal
abbrev pub face_file : List ℕ
face_file =
    zero_bytes 80 ++ 1 ∷ 0 ∷ 0 ∷ 0 ∷ 0 ∷ 0 ∷ 0 ∷ 0 ∷ 0 ∷ 0 ∷ 0 ∷ 0 ∷ 0 ∷ 0 ∷ 0 ∷ 0
    ∷ 0 ∷ 0 ∷ 0 ∷ 0x80 ∷ 0 ∷ 0 ∷ 0 ∷ 0x3f ∷ 1 ∷ 0 ∷ 0 ∷ 0
    ∷ 0 ∷ 0 ∷ 0x80 ∷ 0x49 ∷ 0 ∷ 0 ∷ 0 ∷ 0 ∷ 0 ∷ 0 ∷ 0 ∷ 0
    ∷ 0 ∷ 0 ∷ 0 ∷ 0 ∷ 0 ∷ 0 ∷ 0x80 ∷ 0x3f ∷ 0 ∷ 0 ∷ 0 ∷ 0
    ∷ 0 ∷ 0 ∷ []

unfoldable pub worked : List Case
worked =
    writes (three []) first 0 face_file
    ∷ writes (three []) first 3 face_file  -- the bytes behind the file stay
    ∷ writes (three []) [] 0 (zero_bytes 84)  -- no faces
    ∷ writes (three (tenth ∷ 0 ∷ 0 ∷ [])) first 0 face_file  -- 0.1 of a vertex that no face names
    ∷ refuses (three (tenth ∷ 0 ∷ 0 ∷ [])) (0 ∷ 1 ∷ 3 ∷ []) 134 Number  -- that a face names
    ∷ refuses (three (0 ∷ below_least ∷ 0 ∷ [])) (0 ∷ 1 ∷ 3 ∷ []) 134 Number
    ∷ refuses (three (0 ∷ 0 ∷ long ∷ [])) (0 ∷ 1 ∷ 3 ∷ []) 134 Number
    ∷ refuses (three (0 ∷ not_a_number ∷ 0 ∷ [])) first 134 Number  -- NaN of a vertex that no face names
    ∷ refuses (three (0 ∷ past_most ∷ 0 ∷ [])) first 134 Number  -- past the bound, so too
    ∷ refuses (three []) first 133 Room
    ∷ []
