-- A row as it is read: 248 words, how many of them are whole, and whether a byte came that belongs to no row.
use Rattle.std.specs.Prelude.{ℕ, false, cond, nat_lt, replicate, from_bits, slice_index, Float}
use Rattle.std.specs.Float.{binary64}
use Rattle.vector.specs.declared.Vector.{Vector}
use Rattle.vector.specs.declared.matrix.Matrix.{Matrix}
use Rattle.vector.specs.Vectors.{vec}
use Rattle.replay_rows.specs.Words.{past_of}
use Rattle.replay_rows.specs.declared.Page.{Page}

-- before a row is read
abbrev pub blank : Page
blank = record { words = replicate 248 0; whole = 0; spoilt = false }

-- the word at a place, 0 past the row
unfoldable pub word_of : Page → ℕ → ℕ
word_of page at = cond (nat_lt at 248) (slice_index page.words at) 0

-- how many elements a list has, at most 96
unfoldable pub list_size : Page → ℕ → ℕ
list_size page at = cond (nat_lt (word_of page at) 96) (word_of page at) 96

-- the coordinate n words on from a place, a point and a matrix at a place
abbrev pub real_of : Page → ℕ → ℕ → Float
real_of page at n = from_bits binary64 (word_of page (past_of at n))

unfoldable pub point_of : Page → ℕ → Vector
point_of page at = vec (from_bits binary64 (word_of page at)) (real_of page at 1) (real_of page at 2)

unfoldable pub matrix_of : Page → ℕ → Matrix
matrix_of page at =
    record {
      x00 = real_of page at 0;
      x01 = real_of page at 1;
      x02 = real_of page at 2;
      x03 = real_of page at 3;
      x10 = real_of page at 4;
      x11 = real_of page at 5;
      x12 = real_of page at 6;
      x13 = real_of page at 7;
      x20 = real_of page at 8;
      x21 = real_of page at 9;
      x22 = real_of page at 10;
      x23 = real_of page at 11;
      x30 = real_of page at 12;
      x31 = real_of page at 13;
      x32 = real_of page at 14;
      x33 = real_of page at 15;
    }
