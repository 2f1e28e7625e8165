-- What the contract of `list` permits is one answer and one content of the bytes lent.
use mathlib.Core.Path.{◌≡◌}
use mathlib.Core.List.{List}
use Prim.Native.Nat.{ℕ}
use lib.Seq.{sets}
use Rattle.refusal.specs.One.{One}
use Rattle.refusal.proofs.Unique.{one-read}
use Rattle.path.specs.Courses.{course, advanced}
use Rattle.sheet_list.specs.Listing.{text_of}

pub one-text : (bs out : List ℕ) → One (ℕ × List ℕ) (λ o. course o.1 o.0 ≡ advanced sets (course out 0) (text_of bs))
one-text bs out = one-read (λ o. course o.1 o.0) (λ r t e i. ((e i).at, (e i).buf)) (advanced sets (course out 0) (text_of bs))
