-- What `corner_in` answers past the end, and how long a file is at least.
use mathlib.Core.Path.{◌≡◌, refl, ap, ◌∙◌}
use mathlib.Core.Bool.{true, false}
use mathlib.Core.List.{List, ◌++◌}
use Prim.Native.Nat.{ℕ, ◌+◌, ◌*◌, ◌/◌, ◌≤◌, ◌<◌}
use native.Mathlib.Omega.{arith}
use lib.ListN.{length}
use lib.Ieee.{binary64, of_bits}
use borrow.Author.Tests.{eqb-true}
use Rattle.byte_words.specs.Bytes.{bytes_of, word_from}
use Rattle.byte_words.proofs.Words.{word_out}
use Rattle.single.specs.Singles.{value_of}
use Rattle.stl.specs.Files.{faces_from, face_bytes, face_numbers, size_of, faces_in, place_of, is_stl, coordinate_in, corner_in, zeros}

-- the word 0 is the number 0
zero_value : of_bits binary64 0 ≡ value_of 0
unfolding of_bits
zero_value = refl

pub past : (bs : List ℕ) (k : ℕ) → length bs / face_bytes < k / face_numbers → of_bits binary64 0 ≡ coordinate_in bs k
past bs k h = zero_value ∙ ap value_of (word_out bs (place_of k) (omega arith))

pub corner_past : (bs : List ℕ) (i : ℕ) → length bs / face_bytes < i / 3 → record { x = of_bits binary64 0; y = of_bits binary64 0; z = of_bits binary64 0 } ≡ corner_in bs i
corner_past bs i h =
    let x = past bs (i * 3) (omega arith) in
    let y = past bs (i * 3 + 1) (omega arith) in
    let z = past bs (i * 3 + 2) (omega arith) in
    λ j. record { x = x j; y = y j; z = z j }

pub long-enough : (bs : List ℕ) → is_stl bs ≡ true → faces_from ≤ length bs
unfolding is_stl
long-enough bs h = let e = eqb-true (length bs) (size_of (faces_in bs)) h in omega arith

-- the size that this count asks is 88 more than 2 ^ 32
pub no_wrap : is_stl (zeros 80 ++ (bytes_of 85899346 ++ zeros 4)) ≡ false
unfolding is_stl zeros bytes_of word_from
no_wrap = refl
