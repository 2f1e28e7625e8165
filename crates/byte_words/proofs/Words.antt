-- Words and their bytes.
use mathlib.Core.Path.{◌≡◌, refl, sym}
use mathlib.Core.List.{List, [], ◌∷◌, ◌++◌}
use Prim.Native.Nat.{ℕ, suc, ◌+◌, ◌*◌, ◌/◌, ◌%◌, ◌≤◌, ◌<◌}
use native.Mathlib.Omega.{arith}
use lib.ListN.{length, get_or, set, get_or-eq_default}
use lib.Seq.{sets, set_out}
use Rattle.std.specs.Int.{w32, to_le_bytes}
use Rattle.byte_words.specs.Bytes.{bytes_of, bytes_all, word_from}

-- the words that fit four bytes
abbrev pub word_limit : ℕ
word_limit = 4294967296

-- past the end there is nothing to read, and nothing is stored
pub word_out : (bs : List ℕ) (i : ℕ) → length bs ≤ i → 0 ≡ word_from bs i
unfolding word_from
word_out bs i h =
    let a : get_or bs i 0 ≡ 0 = get_or-eq_default bs 0 (omega arith) in
    let b : get_or bs (i + 1) 0 ≡ 0 = get_or-eq_default bs 0 (omega arith) in
    let d : get_or bs (i + 2) 0 ≡ 0 = get_or-eq_default bs 0 (omega arith) in
    let e : get_or bs (i + 3) 0 ≡ 0 = get_or-eq_default bs 0 (omega arith) in
    omega arith

-- four bytes stored one after the other
pub four_set : (l : List ℕ) (i w : ℕ) → set (set (set (set l i (w % 256)) (i + 1) (w / 256 % 256)) (i + 2) (w / 256 / 256 % 256)) (i + 3) (w / 256 / 256 / 256 % 256) ≡ sets l i (bytes_of w)
unfolding bytes_of
four_set l i w =
    let a : i + 1 ≡ suc i = omega arith in
    let b : i + 2 ≡ suc (suc i) = omega arith in
    let d : i + 3 ≡ suc (suc (suc i)) = omega arith in
    rw (a, b, d)

-- the bytes as the library has them
pub four_le : (l : List ℕ) (i w : ℕ) (b : List ℕ) → b ≡ to_le_bytes w32 w → set (set (set (set l i (get_or b 0 0)) (i + 1) (get_or b 1 0)) (i + 2) (get_or b 2 0)) (i + 3) (get_or b 3 0) ≡ sets l i (bytes_of w)
four_le l i w b e =
    let p : w / 65536 ≡ w / 256 / 256 = omega arith in
    let q : w / 16777216 ≡ w / 256 / 256 / 256 = omega arith in
    rw (e, p, q) (four_set l i w)

pub set-none : (l : List ℕ) (i w : ℕ) → length l ≤ i → l ≡ sets l i (bytes_of w)
set-none l i w h =
    sym (rw (set_out l i (w % 256) (omega arith), set_out l (i + 1) (w / 256 % 256) (omega arith), set_out l (i + 2) (w / 256 / 256 % 256) (omega arith), set_out l (i + 3) (w / 256 / 256 / 256 % 256) (omega arith)) at (sym (four_set l i w)))

pub length-bytes : (ws : List ℕ) → length (bytes_all ws) ≡ 4 * length ws
unfolding bytes_all bytes_of
length-bytes [] = refl
length-bytes (w ∷ ws) = let e = length-bytes ws in omega arith

pub bytes_append : (a b : List ℕ) → bytes_all (a ++ b) ≡ bytes_all a ++ bytes_all b
unfolding bytes_all bytes_of
bytes_append [] b = refl
bytes_append (w ∷ ws) b = rw (bytes_append ws b)

-- words stored one after the other, from place i on
pub put-none : (l : List ℕ) (i : ℕ) → sets l i (bytes_all []) ≡ l
unfolding bytes_all
put-none l i = refl

pub put_one : (l : List ℕ) (i w : ℕ) → sets l i (bytes_of w) ≡ sets l i (bytes_all (w ∷ []))
unfolding bytes_all bytes_of
put_one l i w = refl

-- ---- the word of bytes that stand in others

-- the first word is that of its bytes
pub word_first : (w : ℕ) (rest : List ℕ) → w < word_limit → word_from (bytes_of w ++ rest) 0 ≡ w
unfolding word_from bytes_of
word_first w rest h = omega arith

-- after other bytes
pub word_after : (a b : List ℕ) (i : ℕ) → word_from (a ++ b) (length a + i) ≡ word_from b i
unfolding word_from
word_after [] b i = let e : 0 + i ≡ i = omega arith in rw e
word_after (x ∷ a) b i =
    let e : suc (length a) + i ≡ suc (length a + i) = omega arith in
    let f : suc (length a) + i + 1 ≡ suc (length a + i + 1) = omega arith in
    let g : suc (length a) + i + 2 ≡ suc (length a + i + 2) = omega arith in
    let h : suc (length a) + i + 3 ≡ suc (length a + i + 3) = omega arith in
    rw (f, g, h, e) (word_after a b i)
