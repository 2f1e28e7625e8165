-- The paper's proved case of a sheet, and that of request 5, as bytes.
use Rattle.std.specs.Prelude.{◌≡◌, List, [], ◌∷◌, ℕ, length, replicate}
use Rattle.refusal.specs.Said.{accepted}
use Rattle.sheet_write.specs.Call.{left, write_left}

-- mode, vertices, numbers and starts, and the bytes that there are to be
pub data Case : Type 0 where
  writes : ℕ → ℕ → List ℕ → List ℕ → List ℕ → Case

-- into room of just so many bytes
abbrev pub Holds : Case → Type 0
Holds (writes mode vertices ns ss bytes) = write_left mode vertices ns ss (replicate (length bytes) 9) ≡ left (accepted (length bytes ∷ [])) bytes

-- the header 1, 3, 1, 4, 24, 28; the start 0; and 1 0 2 1
abbrev pub face_sheet : List ℕ
face_sheet =
    1 ∷ 0 ∷ 0 ∷ 0 ∷ 3 ∷ 0 ∷ 0 ∷ 0 ∷ 1 ∷ 0 ∷ 0 ∷ 0 ∷ 4 ∷ 0 ∷ 0 ∷ 0 ∷ 24 ∷ 0 ∷ 0 ∷ 0 ∷ 28 ∷ 0 ∷ 0 ∷ 0
    ∷ 0 ∷ 0 ∷ 0 ∷ 0 ∷ 1 ∷ 0 ∷ 0 ∷ 0 ∷ 0 ∷ 0 ∷ 0 ∷ 0 ∷ 2 ∷ 0 ∷ 0 ∷ 0 ∷ 1 ∷ 0 ∷ 0 ∷ 0 ∷ []

-- the header 2, 4, 1, 5, 24, 28; the start 0; and 1 0 3 2 1
abbrev pub square_sheet : List ℕ
square_sheet =
    2 ∷ 0 ∷ 0 ∷ 0 ∷ 4 ∷ 0 ∷ 0 ∷ 0 ∷ 1 ∷ 0 ∷ 0 ∷ 0 ∷ 5 ∷ 0 ∷ 0 ∷ 0 ∷ 24 ∷ 0 ∷ 0 ∷ 0 ∷ 28 ∷ 0 ∷ 0 ∷ 0
    ∷ 0 ∷ 0 ∷ 0 ∷ 0 ∷ 1 ∷ 0 ∷ 0 ∷ 0 ∷ 0 ∷ 0 ∷ 0 ∷ 0 ∷ 3 ∷ 0 ∷ 0 ∷ 0 ∷ 2 ∷ 0 ∷ 0 ∷ 0 ∷ 1 ∷ 0 ∷ 0 ∷ 0 ∷ []

-- face 0 1 2 in triangles is [1,0,2,1], and with empty strokes about it; the square in polygonal, which 0 stands for
unfoldable pub paper : List Case
paper =
    writes 1 3 (1 ∷ 0 ∷ 2 ∷ 1 ∷ []) (0 ∷ []) face_sheet
    ∷ writes 0 4 (1 ∷ 0 ∷ 3 ∷ 2 ∷ 1 ∷ []) (0 ∷ []) square_sheet
    ∷ writes 1 3 (1 ∷ 0 ∷ 2 ∷ 1 ∷ []) (0 ∷ 0 ∷ 4 ∷ []) face_sheet
    ∷ []
