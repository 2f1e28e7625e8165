-- The call as a whole: what its tests grant, what the parts come to, and what it leaves.
use Rattle.std.specs.Prelude.{Ok}
use mathlib.Core.Path.{◌≡◌, sym, ap, ◌∙◌}
use mathlib.Core.Bool.{true}
use mathlib.Core.List.{List, [], ◌∷◌, ◌++◌}
use Prim.Native.Nat.{ℕ, ◌*◌, ◌≤◌}
use native.Mathlib.Omega.{arith}
use lib.ListN.{length}
use lib.Seq.{sets}
use lib.Dec.{leb}
use borrow.Author.Tests.{leb-true}
use Rattle.refusal.specs.Limits.{most_strokes, most_points}
use Rattle.refusal.specs.Said.{accepted}
use Rattle.path.specs.Strokes.{good_starts, number_at, strokes_in}
use Rattle.path.specs.Laid.{over, non_empty}
use Rattle.path.proofs.Tests.{passed}
use Rattle.path.proofs.Pushes.{over-sets}
use Rattle.sheet.specs.InnerKept.{kept_from}
use Rattle.byte_words.specs.Bytes.{bytes_all}
use Rattle.sheet.specs.Sheets.{header_words, numbers_from, header_of, words_of, sheet_of, size_of}
use Rattle.sheet.proofs.Words.{put-more}
use Rattle.path.proofs.Again.{joined-all}
use Rattle.sheet.proofs.Tables.{kept-all, kept-count}
use Rattle.sheet.proofs.Sizes.{limits}
use Rattle.sheet_write.specs.Call.{verdict_of, left, laid}

-- how many strokes have points, as the definition counts them and as the code does
pub same_size : (ns ss : List ℕ) (room : ℕ) → good_starts (length ns) ss ≡ true
    → leb (size_of (length (kept_from (length ns) ss)) (length ns)) room ≡ leb (size_of (length (non_empty (strokes_in ns ss))) (length ns)) room
same_size ns ss room g = ap (λ (x : ℕ). leb (size_of x (length ns)) room) (sym (kept-count (number_at ns) (length ns) ss g))

-- what an accepted call has been tested for
pub record Granted (ns ss : List ℕ) (room : ℕ) : Type 0 where
  pub table : good_starts (length ns) ss ≡ true
  pub strokes : length ss ≤ most_strokes
  pub points : length ns ≤ most_points
  pub fits : size_of (length (kept_from (length ns) ss)) (length ns) ≤ room

pub granted : (mode vertices : ℕ) (ns ss : List ℕ) (room : ℕ) → verdict_of mode vertices ns ss room ≡ (Ok tt) → Granted ns ss room
unfolding verdict_of
granted mode vertices ns ss room h =
    let shape = passed _ _ _ h in
    let count = passed _ _ _ shape.1 in
    let vertex = passed _ _ _ count.1 in
    let number = passed _ _ _ vertex.1 in
    let fit = passed _ _ _ number.1 in
    let few = limits vertices (length ss) (length ns) count.0 in
    record { table = shape.0; strokes = few.0; points = few.1; fits = leb-true _ _ (same_size ns ss room shape.0 ∙ fit.0) }

-- header, starts and numbers stored one after the other
pub all_put : (l : List ℕ) (m v : ℕ) (ks ns : List ℕ) (k : ℕ) (l₁ l₂ l₃ : List ℕ) → l₁ ≡ sets l 0 (bytes_all (header_of m v (length ks) (length ns)))
    → l₂ ≡ sets l₁ (header_words * 4) (bytes_all ks) → k ≡ numbers_from (length ks) → l₃ ≡ sets l₂ (k * 4) (bytes_all ns) → l₃ ≡ sets l 0 (bytes_all (words_of m v ks ns))
unfolding header_of
all_put l m v ks ns k l₁ l₂ l₃ e₁ e₂ e e₃ =
    e₃ ∙ ap (λ (x : List ℕ). sets x (k * 4) (bytes_all ns)) e₂ ∙ ap (λ (x : ℕ). sets (sets l₁ (header_words * 4) (bytes_all ks)) (x * 4) (bytes_all ns)) e ∙ put-more l₁ header_words ks ns
    ∙ ap (λ (x : List ℕ). sets x (header_words * 4) (bytes_all (ks ++ ns))) e₁ ∙ put-more l 0 (header_of m v (length ks) (length ns)) (ks ++ ns)

-- the words that the code stores are those of the sheet
pub sheet_is : (m v : ℕ) (ns ss : List ℕ) → good_starts (length ns) ss ≡ true → bytes_all (words_of m v (kept_from (length ns) ss) ns) ≡ sheet_of m v (strokes_in ns ss)
unfolding sheet_of
sheet_is m v ns ss g = rw (kept-all (number_at ns) (length ns) ss g, joined-all ns ss g)

pub all_written : (sheet out out' written : List ℕ) (n : ℕ) → written ≡ sheet → out' ≡ sets out 0 written → n ≡ length written → n ≤ length out → left (accepted (n ∷ [])) out' ≡ laid sheet out
unfolding laid
all_written sheet out out' written n s e q h =
    let a : out' ≡ over out sheet = e ∙ ap (sets out 0) s ∙ over-sets out sheet (omega (arith, ap length s)) in
    let b : n ≡ length sheet = q ∙ ap length s in
    rw (a, b)
