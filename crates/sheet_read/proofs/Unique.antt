-- What the contract of `read_sheet` permits is one answer and one content of the lists lent.
use mathlib.Core.Path.{◌≡◌}
use mathlib.Core.List.{List, [], ◌∷◌}
use Prim.Native.Nat.{ℕ}
use lib.ListN.{get_or}
use Rattle.std.specs.Prelude.{Result}
use Rattle.refusal.specs.declared.Refusal.{Refusal}
use Rattle.refusal.specs.One.{One}
use Rattle.refusal.proofs.Unique.{one-said}
use Rattle.refusal.proofs.Outcomes.{one-outcome}
use Rattle.sheet_read.specs.declared.SheetRead.{SheetRead}
use Rattle.sheet_read.specs.Call.{said, lent, left, read_left}

told : (r t : Result SheetRead Refusal) → said r ≡ said t → r ≡ t
told = one-said (λ p. p.points ∷ p.starts ∷ p.mode ∷ p.vertices ∷ [])
    (λ a b e. λ i. record { mode = get_or (e i) 2 0; vertices = get_or (e i) 3 0; points = get_or (e i) 0 0; starts = get_or (e i) 1 0 })

pub one-read_sheet : (bs on os : List ℕ) → One (Result SheetRead Refusal × List ℕ × List ℕ) (λ o. left (said o.0) o.1 o.2 ≡ read_left bs on os)
one-read_sheet bs on os r t p q =
    let e = one-outcome said told (read_left bs on os) (r.0, lent r.1 r.2) (t.0, lent t.1 t.2) p q in
    λ i. ((e i).0, (e i).1.numbers, (e i).1.starts)
