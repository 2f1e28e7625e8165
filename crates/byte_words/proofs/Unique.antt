-- What each contract permits is one outcome.
use mathlib.Core.Path.{◌≡◌}
use mathlib.Core.List.{List}
use Prim.Native.Nat.{ℕ}
use lib.ListN.{set}
use lib.Seq.{sets}
use Rattle.refusal.specs.One.{One}
use Rattle.refusal.proofs.Unique.{one_answer}
use Rattle.byte_words.specs.Bytes.{bytes_of, word_from}

pub one-word_from : (bs : List ℕ) (i : ℕ) → One ℕ (λ r. r ≡ word_from bs i)
one-word_from bs i = one_answer (word_from bs i)

pub one-put_byte : (l : List ℕ) (i b : ℕ) → One (List ℕ) (λ r. r ≡ set l i b)
one-put_byte l i b = one_answer (set l i b)

pub one-put_word_from : (l : List ℕ) (i w : ℕ) → One (List ℕ) (λ r. r ≡ sets l i (bytes_of w))
one-put_word_from l i w = one_answer (sets l i (bytes_of w))
