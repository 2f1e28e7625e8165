-- What the writing of joined segments leaves, before scratch is cleared.
use Rattle.std.specs.Prelude.{◌≡◌, List, ℕ, ◌*◌, drop, Float}
use Rattle.path.specs.Laid.{flat}
use Rattle.path_splice.specs.InnerText.{LaidBy}
use Rattle.path_segments.specs.Join.{segments_in, join_of}

-- the strokes of the first n segments are written, and all words from 12 n on are as they were
pub record Drawn (ps : List Float) (n : ℕ) (s s' : List ℕ) (op : List Float) (os : List ℕ) (op' : List Float) (os' : List ℕ) (p q : ℕ) : Type 0 where
  pub out : LaidBy flat (join_of (segments_in ps n)) op os op' os' p q
  pub rest : drop (12 * n) s' ≡ drop (12 * n) s
