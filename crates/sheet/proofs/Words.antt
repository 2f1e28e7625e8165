-- Words by their number, and their bytes.
use mathlib.Core.Path.{◌≡◌, ap, ◌∙◌}
use mathlib.Core.List.{List, ◌++◌}
use Prim.Native.Nat.{ℕ, ◌+◌, ◌*◌, ◌/◌, ◌%◌, ◌<◌}
use native.Mathlib.Omega.{arith}
use lib.ListN.{length}
use lib.Seq.{sets}
use Rattle.byte_words.specs.Bytes.{bytes_of, bytes_all}
use Rattle.byte_words.proofs.Words as words
use Rattle.byte_words.proofs.Words.{length-bytes, bytes_append}
use Rattle.path.proofs.Points.{numbers-lie}
use Rattle.sheet.specs.Sheets.{header_words, numbers_from, word_at, header_of, words_of}

-- past the end there is nothing to read
pub word_out : (bs : List ℕ) (k : ℕ) → length bs / 4 < k → 0 ≡ word_at bs k
unfolding word_at
word_out bs k h = words.word_out bs (k * 4) (omega arith)

-- words stored one after the other, from word k on
pub put-more : (l : List ℕ) (k : ℕ) (a b : List ℕ) → sets (sets l (k * 4) (bytes_all a)) ((k + length a) * 4) (bytes_all b) ≡ sets l (k * 4) (bytes_all (a ++ b))
put-more l k a b =
    let e : (k + length a) * 4 ≡ k * 4 + length (bytes_all a) = omega (arith, length-bytes a) in
    rw (e, bytes_append a b) (numbers-lie.more l (k * 4) (bytes_all a) (bytes_all b))

same_low : (k x y : ℕ) → x ≡ 256 * k + y → y % 256 ≡ x % 256
same_low k x y e = omega (arith, e)

-- a number's word has its last 32 bits
bytes_low : (x : ℕ) → bytes_of (x % 0x1_0000_0000) ≡ bytes_of x
unfolding bytes_of
bytes_low x =
    let q = x / 0x1_0000_0000 in
    let y = x % 0x1_0000_0000 in
    let f : x / 256 ≡ 0x100_0000 * q + y / 256 = omega arith in
    let g : x / 256 / 256 ≡ 0x1_0000 * q + y / 256 / 256 = omega (arith, f) in
    let h : x / 256 / 256 / 256 ≡ 0x100 * q + y / 256 / 256 / 256 = omega (arith, g) in
    let a = same_low (0x100_0000 * q) x y (omega arith) in
    let b = same_low (0x1_0000 * q) (x / 256) (y / 256) (omega (arith, f)) in
    let c = same_low (0x100 * q) (x / 256 / 256) (y / 256 / 256) (omega (arith, g)) in
    let d = same_low q (x / 256 / 256 / 256) (y / 256 / 256 / 256) h in
    rw (a, b, c, d)

-- the words of the header one after the other
pub header_put : (l : List ℕ) (m v s p o : ℕ) → o ≡ 4 * numbers_from s → (l₁ l₂ l₃ l₄ l₅ l₆ : List ℕ)
    → l₁ ≡ sets l 0 (bytes_of m) → l₂ ≡ sets l₁ 4 (bytes_of v) → l₃ ≡ sets l₂ 8 (bytes_of s) → l₄ ≡ sets l₃ 12 (bytes_of p) → l₅ ≡ sets l₄ 16 (bytes_of (4 * header_words)) → l₆ ≡ sets l₅ 20 (bytes_of (o % 0x1_0000_0000))
    → l₆ ≡ sets l 0 (bytes_all (header_of m v s p))
unfolding bytes_all bytes_of header_of
header_put l m v s p o q l₁ l₂ l₃ l₄ l₅ l₆ e₁ e₂ e₃ e₄ e₅ e₆ = let e : l₆ ≡ sets l₅ 20 (bytes_of o) = e₆ ∙ ap (sets l₅ 20) (bytes_low o) in rw (e, e₅, e₄, e₃, e₂, e₁, q)

-- header, starts and numbers stored one after the other
pub all_put : (l : List ℕ) (m v : ℕ) (ks ns : List ℕ) (k : ℕ) (l₁ l₂ l₃ : List ℕ) → l₁ ≡ sets l 0 (bytes_all (header_of m v (length ks) (length ns)))
    → l₂ ≡ sets l₁ (header_words * 4) (bytes_all ks) → k ≡ numbers_from (length ks) → l₃ ≡ sets l₂ (k * 4) (bytes_all ns) → l₃ ≡ sets l 0 (bytes_all (words_of m v ks ns))
unfolding header_of
all_put l m v ks ns k l₁ l₂ l₃ e₁ e₂ e e₃ =
    e₃ ∙ ap (λ (x : List ℕ). sets x (k * 4) (bytes_all ns)) e₂ ∙ ap (λ (x : ℕ). sets (sets l₁ (header_words * 4) (bytes_all ks)) (x * 4) (bytes_all ns)) e ∙ put-more l₁ header_words ks ns
    ∙ ap (λ (x : List ℕ). sets x (header_words * 4) (bytes_all (ks ++ ns))) e₁ ∙ put-more l 0 (header_of m v (length ks) (length ns)) (ks ++ ns)
