-- How long a sheet is, and the limits of its counts.
use mathlib.Core.Path.{◌≡◌}
use mathlib.Core.Bool.{true, ◌&&◌}
use mathlib.Core.List.{List}
use Prim.Native.Nat.{ℕ, ◌≤◌}
use native.Mathlib.Omega.{arith}
use lib.ListN.{length, length-append}
use lib.Dec.{leb}
use borrow.Author.Tests.{leb-true}
use Rattle.refusal.specs.Limits.{most_vertices, most_strokes, most_points}
use Rattle.path.proofs.Tests.{both}
use Rattle.byte_words.specs.Bytes.{bytes_all}
use Rattle.sheet.specs.Sheets.{header_of, words_of, size_of, counts_good}
use Rattle.byte_words.proofs.Words.{length-bytes}

pub words_size : (m v : ℕ) (ks ns : List ℕ) → length (bytes_all (words_of m v ks ns)) ≡ size_of (length ks) (length ns)
unfolding header_of
words_size m v ks ns = omega (arith, length-bytes (words_of m v ks ns), length-append ks ns)

-- what the counts have been tested for
pub limits : (vertices strokes points : ℕ) → counts_good vertices strokes points ≡ true → (strokes ≤ most_strokes) × (points ≤ most_points) × (vertices ≤ most_vertices)
unfolding counts_good
limits vertices strokes points h =
    let b = both (leb vertices most_vertices && leb strokes most_strokes) (leb points most_points) h in
    let d = both (leb vertices most_vertices) (leb strokes most_strokes) b.0 in
    (leb-true strokes most_strokes d.1, leb-true points most_points b.1, leb-true vertices most_vertices d.0)
