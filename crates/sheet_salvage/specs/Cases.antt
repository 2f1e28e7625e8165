-- The request's cases, as words: what is given, what is written into room of just so many bytes, and the four numbers.
use Rattle.std.specs.Prelude.{◌≡◌, List, [], ◌∷◌, ℕ, length, take, replicate}
use Rattle.refusal.specs.declared.Refusal.{Refusal}
use Rattle.refusal.specs.declared.Refusal.TheVariants.{Room, Sheet}
use Rattle.refusal.specs.Said.{accepted, refused}
use Rattle.byte_words.specs.Bytes.{bytes_all}
use Rattle.sheet_salvage.specs.Call.{left, salvage_left}

pub data Case : Type 0 where
  -- words, of which so many bytes are given; the words written; the numbers
  saves : List ℕ → ℕ → List ℕ → List ℕ → Case
  -- words, of which so many bytes are given; the room; the refusal
  refuses : List ℕ → ℕ → ℕ → Refusal → Case

abbrev pub Holds : Case → Type 0
Holds (saves ws k out report) = salvage_left (take k (bytes_all ws)) (replicate (length (bytes_all out)) 9) ≡ left (accepted (length (bytes_all out) ∷ report)) (bytes_all out)
Holds (refuses ws k room r) = salvage_left (take k (bytes_all ws)) (replicate room 9) ≡ left (refused r) (replicate room 9)

-- a good sheet
abbrev pub good : List ℕ
good = 1 ∷ 3 ∷ 1 ∷ 4 ∷ 24 ∷ 28 ∷ 0 ∷ 1 ∷ 0 ∷ 2 ∷ 1 ∷ []

-- one whose stroke is cut in two
abbrev pub cut : List ℕ
cut = 1 ∷ 3 ∷ 1 ∷ 5 ∷ 24 ∷ 28 ∷ 0 ∷ 0 ∷ 1 ∷ 7 ∷ 1 ∷ 2 ∷ []

abbrev pub none : List ℕ
none = 0 ∷ 0 ∷ 0 ∷ 0 ∷ []

unfoldable pub paper : List Case
paper =
    saves good 44 good none
    ∷ saves good 42 (1 ∷ 3 ∷ 1 ∷ 3 ∷ 24 ∷ 28 ∷ 0 ∷ 1 ∷ 0 ∷ 2 ∷ []) none
    ∷ saves (1 ∷ 3 ∷ 1 ∷ 4 ∷ 24 ∷ 28 ∷ 0 ∷ 1 ∷ 9 ∷ 2 ∷ 1 ∷ []) 44 (1 ∷ 3 ∷ 1 ∷ 2 ∷ 24 ∷ 28 ∷ 0 ∷ 2 ∷ 1 ∷ []) (0 ∷ 0 ∷ 1 ∷ 1 ∷ [])
    ∷ saves (1 ∷ 3 ∷ 1 ∷ 4 ∷ 24 ∷ 28 ∷ 0 ∷ 1 ∷ 3 ∷ 2 ∷ 1 ∷ []) 44 (1 ∷ 3 ∷ 1 ∷ 2 ∷ 24 ∷ 28 ∷ 0 ∷ 2 ∷ 1 ∷ []) (0 ∷ 0 ∷ 1 ∷ 1 ∷ [])
    ∷ saves cut 48 (1 ∷ 3 ∷ 2 ∷ 4 ∷ 24 ∷ 32 ∷ 0 ∷ 2 ∷ 0 ∷ 1 ∷ 1 ∷ 2 ∷ []) (1 ∷ 0 ∷ 1 ∷ 0 ∷ [])
    ∷ refuses cut 48 47 Room
    ∷ saves (3 ∷ 5 ∷ 4 ∷ 6 ∷ 24 ∷ 40 ∷ 1 ∷ 3 ∷ 2 ∷ 9 ∷ 0 ∷ 1 ∷ 2 ∷ 3 ∷ 4 ∷ 0 ∷ []) 64 (3 ∷ 5 ∷ 2 ∷ 6 ∷ 24 ∷ 32 ∷ 0 ∷ 3 ∷ 0 ∷ 1 ∷ 2 ∷ 3 ∷ 4 ∷ 0 ∷ []) (1 ∷ 3 ∷ 0 ∷ 0 ∷ [])
    ∷ saves (1 ∷ 3 ∷ 0 ∷ 4 ∷ 24 ∷ 24 ∷ 0 ∷ 9 ∷ 1 ∷ 2 ∷ []) 40 (1 ∷ 3 ∷ 0 ∷ 0 ∷ 24 ∷ 24 ∷ []) (0 ∷ 0 ∷ 0 ∷ 4 ∷ [])
    ∷ saves (2 ∷ 4 ∷ 2 ∷ 0 ∷ 24 ∷ 32 ∷ 0 ∷ 0 ∷ []) 32 (2 ∷ 4 ∷ 0 ∷ 0 ∷ 24 ∷ 24 ∷ []) (1 ∷ 2 ∷ 0 ∷ 0 ∷ [])
    ∷ saves (1 ∷ 3 ∷ 1 ∷ 4 ∷ 0 ∷ 4294967295 ∷ 0 ∷ 1 ∷ 0 ∷ 2 ∷ 1 ∷ []) 44 good (2 ∷ 0 ∷ 0 ∷ 0 ∷ [])
    ∷ refuses (0 ∷ 3 ∷ 1 ∷ 4 ∷ 24 ∷ 28 ∷ 0 ∷ 1 ∷ 0 ∷ 2 ∷ 1 ∷ []) 44 44 Sheet
    ∷ refuses (4 ∷ 3 ∷ 1 ∷ 4 ∷ 24 ∷ 28 ∷ 0 ∷ 1 ∷ 0 ∷ 2 ∷ 1 ∷ []) 44 44 Sheet
    ∷ refuses (1 ∷ 196609 ∷ 1 ∷ 4 ∷ 24 ∷ 28 ∷ 0 ∷ 1 ∷ 0 ∷ 2 ∷ 1 ∷ []) 44 44 Sheet
    ∷ refuses good 23 44 Sheet
    ∷ refuses good 27 44 Sheet
    ∷ []
