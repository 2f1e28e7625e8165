-- Words in bytes: four bytes each, the lowest first.
use Rattle.std.specs.Prelude.{List, [], ◌∷◌, ◌++◌, ℕ, ◌+◌, ◌*◌, ◌/◌, ◌%◌, get_or}

-- the four bytes of a word
unfoldable pub bytes_of : ℕ → List ℕ
bytes_of w = w % 256 ∷ w / 256 % 256 ∷ w / 256 / 256 % 256 ∷ w / 256 / 256 / 256 % 256 ∷ []

-- the bytes of words in a row
unfoldable pub bytes_all : List ℕ → List ℕ
bytes_all [] = []
bytes_all (w ∷ ws) = bytes_of w ++ bytes_all ws

-- the word of the four bytes from place i on; a byte past the end is 0
unfoldable pub word_from : List ℕ → ℕ → ℕ
word_from bs i = get_or bs i 0 + 256 * get_or bs (i + 1) 0 + 65536 * get_or bs (i + 2) 0 + 16777216 * get_or bs (i + 3) 0
