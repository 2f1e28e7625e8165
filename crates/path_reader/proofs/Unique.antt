-- What the contracts of the reader permit is one answer; of a part, one place in the caller's points and one content.
use mathlib.Core.Path.{◌≡◌, sym, ◌∙◌}
use mathlib.Core.List.{List}
use Prim.Native.Nat.{ℕ}
use denote.Ref.{Bor}
use Rattle.refusal.specs.One.{One}
use Rattle.path_reader.specs.declared.Reader.{Reader}
use Rattle.path_reader.specs.Reading.{Own}

-- what a program can tell of a part: what it holds, and where it lies
abbrev told : Bor (List ℕ) → List ℕ × ℕ × ℕ
told part = (part.now, part.ref_ptr.0, part.ref_ptr.1)

pub one-part : (points : Bor (List ℕ)) (ss : List ℕ) (i : ℕ) → One (List ℕ × ℕ × ℕ) (λ o. (part : Bor (List ℕ)) × (told part ≡ o) × Own points ss i part)
one-part points ss i o u p q =
    let holds : p.0.now ≡ q.0.now = p.2.holds ∙ sym q.2.holds in
    let block : p.0.ref_ptr.0 ≡ q.0.ref_ptr.0 = p.2.block ∙ sym q.2.block in
    let place : p.0.ref_ptr.1 ≡ q.0.ref_ptr.1 = p.2.place ∙ sym q.2.place in
    sym p.1 ∙ (λ j. (holds j, block j, place j)) ∙ q.1

-- for `new` and `rest`, which say each field
pub one_reader : (points starts : Bor (List ℕ)) (at : ℕ) → One Reader (λ r. (r.points ≡ points) × (r.starts ≡ starts) × (r.at ≡ at))
one_reader points starts at r t p q =
    let a : r.points ≡ t.points = p.0 ∙ sym q.0 in
    let b : r.starts ≡ t.starts = p.1 ∙ sym q.1 in
    let d : r.at ≡ t.at = p.2 ∙ sym q.2 in
    λ i. record { points = a i; starts = b i; at = d i }
