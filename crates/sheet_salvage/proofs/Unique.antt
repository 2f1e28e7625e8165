-- What the contract of `salvage_sheet` permits is one answer and one content of the bytes lent.
use mathlib.Core.Path.{◌≡◌}
use mathlib.Core.List.{List, [], ◌∷◌}
use Prim.Native.Nat.{ℕ}
use lib.ListN.{get_or}
use Rattle.std.specs.Prelude.{Result}
use Rattle.refusal.specs.declared.Refusal.{Refusal}
use Rattle.refusal.specs.One.{One}
use Rattle.refusal.proofs.Unique.{one-said}
use Rattle.refusal.proofs.Outcomes.{one-outcome}
use Rattle.sheet_salvage.specs.declared.Salvaged.{Salvaged}
use Rattle.sheet_salvage.specs.Call.{said, lent, left, salvage_left}

told : (r t : Result Salvaged Refusal) → said r ≡ said t → r ≡ t
told = one-said (λ s. s.bytes ∷ s.offsets ∷ s.starts ∷ s.numbers ∷ s.leftovers ∷ [])
    (λ a b e. λ i. record { bytes = get_or (e i) 0 0; offsets = get_or (e i) 1 0; starts = get_or (e i) 2 0; numbers = get_or (e i) 3 0; leftovers = get_or (e i) 4 0 })

pub one-salvage_sheet : (bs out : List ℕ) → One (Result Salvaged Refusal × List ℕ) (λ o. left (said o.0) o.1 ≡ salvage_left bs out)
one-salvage_sheet bs out r t p q =
    let e = one-outcome said told (salvage_left bs out) (r.0, lent r.1) (t.0, lent t.1) p q in
    λ i. ((e i).0, (e i).1.bytes)
