-- The paper's proved case of the listing.
use Rattle.std.specs.Prelude.{◌≡◌, List, [], ◌∷◌, ℕ}
use Rattle.sheet.specs.Sheets.{sheet_of}
use Rattle.sheet_list.specs.Listing.{text_of}

-- bytes, and the text that there is to be
pub data Case : Type 0 where
  lists : List ℕ → List ℕ → Case

abbrev pub Holds : Case → Type 0
Holds (lists bytes text) = text_of bytes ≡ text

unfoldable pub paper : List Case
paper =
    -- [1,0,2,1] with 3 vertices, in triangles: `1 3 1 4`, then `1 0 2 1`
    lists (sheet_of 1 3 ((1 ∷ 0 ∷ 2 ∷ 1 ∷ []) ∷ [])) (49 ∷ 32 ∷ 51 ∷ 32 ∷ 49 ∷ 32 ∷ 52 ∷ 10 ∷ 49 ∷ 32 ∷ 48 ∷ 32 ∷ 50 ∷ 32 ∷ 49 ∷ 10 ∷ [])
    -- numbers of several digits: `3 12345 1 1`, then `10230`
    ∷ lists (sheet_of 3 12345 ((10230 ∷ []) ∷ [])) (51 ∷ 32 ∷ 49 ∷ 50 ∷ 51 ∷ 52 ∷ 53 ∷ 32 ∷ 49 ∷ 32 ∷ 49 ∷ 10 ∷ 49 ∷ 48 ∷ 50 ∷ 51 ∷ 48 ∷ 10 ∷ [])
    -- no bytes: `refused 9`
    ∷ lists [] (114 ∷ 101 ∷ 102 ∷ 117 ∷ 115 ∷ 101 ∷ 100 ∷ 32 ∷ 57 ∷ 10 ∷ [])
    ∷ []
