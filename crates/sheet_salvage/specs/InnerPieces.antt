-- The pieces of strokes by their places, as the code comes to them.
use Rattle.std.specs.Prelude.{◌≡◌, ◌&&◌, cond, List, [], ◌∷◌, ◌++◌, ℕ, ◌+◌, ◌-◌, ◌*◌, length, leb, ltb, eqb}
use Rattle.std.proofs.lemmas.List.Edits.{sets}
use Rattle.byte_words.specs.Bytes.{bytes_all}
use Rattle.path.specs.Strokes.{gather}
use Rattle.path.specs.Laid.{joined, starts_from}
use Rattle.path.specs.declared.Place.{Place}
use Rattle.sheet.specs.Sheets.{header_words, stroke_count}
use Rattle.sheet_salvage.specs.Salvage.{taken_count, pieces_of, long_ones}

-- the least piece that is kept of a stroke of so many points: one of one point is a piece of it only where nothing cuts it
abbrev pub least_kept : ℕ → ℕ
least_kept k = cond (ltb k 2) 1 2

-- what is kept of the points from a up to e
unfoldable pub kept_pieces : ℕ → (ℕ → ℕ) → ℕ → ℕ → ℕ → List (List ℕ)
kept_pieces n at least a e = long_ones least (pieces_of n (gather at a (e - a)))

-- of the stroke from a up to e; nothing of an empty one
unfoldable pub kept_from : ℕ → (ℕ → ℕ) → ℕ → ℕ → List (List ℕ)
kept_from n at a e = kept_pieces n at (least_kept (e - a)) a e

-- where the stroke ends that begins at a: at s if that is taken; else it does not end yet
abbrev pub start_after : ℕ → ℕ → ℕ → ℕ
start_after m a s = cond (ltb a s && ltb s m) s a

-- what is kept of m points from a on, with the starts that follow
unfoldable pub saved_from : ℕ → (ℕ → ℕ) → ℕ → ℕ → List ℕ → List (List ℕ)
saved_from n at m a [] = kept_from n at a m
saved_from n at m a (s ∷ ss) = kept_from n at a (start_after m a s) ++ saved_from n at m (start_after m a s) ss

-- where the stroke from a on ends by the i-th of so many starts; the last stroke with the m points
abbrev pub end_of : ℕ → ℕ → (ℕ → ℕ) → ℕ → ℕ → ℕ
end_of m strokes word i a = cond (ltb i strokes) (start_after m a (word (header_words + i))) m

-- what is kept from the stroke on that the i-th start ends
abbrev pub saved_by : ℕ → (ℕ → ℕ) → ℕ → ℕ → (ℕ → ℕ) → ℕ → ℕ → List (List ℕ)
saved_by n at m strokes word i a = cond (leb i strokes) (saved_from n at m a (gather word (header_words + i) (strokes - i))) []

-- how many of the starts are ignored
unfoldable pub ignored_from : ℕ → ℕ → List ℕ → ℕ
ignored_from m a [] = 0
ignored_from m a (s ∷ ss) = cond (ltb a s && ltb s m) 0 1 + ignored_from m (start_after m a s) ss

-- how many strokes have no points from that on which the i-th start ends: one for each start that is ignored, and the last where there is no point
abbrev pub ignored_by : ℕ → ℕ → (ℕ → ℕ) → ℕ → ℕ → ℕ
ignored_by m strokes word i a = cond (leb i strokes) (ignored_from m a (gather word (header_words + i) (strokes - i)) + cond (eqb m 0) 1 0) 0

-- the place after more strokes
abbrev pub after : Place → List (List ℕ) → Place
after p ss = record { points = p.points + length (joined ss); starts = p.starts + length ss }

-- the points that strokes have: with no strokes stated none
abbrev pub stroked_count : List ℕ → ℕ
stroked_count bs = cond (eqb (stroke_count bs) 0) 0 (taken_count bs)

-- numbers and starts stored in a sheet whose numbers begin at word `base`, behind so many of each
abbrev pub placed : List ℕ → ℕ → ℕ → ℕ → List ℕ → List ℕ → List ℕ
placed out base points starts ns ss = sets (sets out ((header_words + starts) * 4) (bytes_all ss)) ((base + points) * 4) (bytes_all ns)

-- strokes stored in it
unfoldable pub laid_at : List ℕ → ℕ → Place → List (List ℕ) → List ℕ
laid_at out base p ss = placed out base p.points p.starts (joined ss) (starts_from p.points ss)

-- strokes stored such that, with all that follow stored behind them, it is as if all were stored: what is left of points not kept lies where
-- those that follow go
abbrev pub LaysOver : List ℕ → List ℕ → Place → Place → List (List ℕ) → Type 0
LaysOver out out' total at ss = (rest : List (List ℕ)) → after at (ss ++ rest) ≡ total → laid_at out' (header_words + total.starts) (after at ss) rest ≡ laid_at out (header_words + total.starts) at (ss ++ rest)
