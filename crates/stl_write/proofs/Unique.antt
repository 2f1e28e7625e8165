-- What the contract of `write_stl` permits is one answer and one content of the bytes lent.
use mathlib.Core.Path.{◌≡◌}
use mathlib.Core.List.{List}
use Prim.Native.Nat.{ℕ}
use lib.Ieee.{Float}
use Rattle.std.specs.Prelude.{Result}
use Rattle.refusal.specs.One.{One}
use Rattle.refusal.specs.Said.{value_said}
use Rattle.refusal.specs.declared.Refusal.{Refusal}
use Rattle.refusal.proofs.Unique.{one-value}
use Rattle.refusal.proofs.Outcomes.{one-outcome}
use Rattle.stl_write.specs.Call.{lent, left, write_left}

pub one_written : (vs : List Float) (is out : List ℕ) → One (Result ℕ Refusal × List ℕ) (λ o. left (value_said o.0) o.1 ≡ write_left vs is out)
one_written vs is out r t p q =
    let e = one-outcome value_said one-value (write_left vs is out) (r.0, lent r.1) (t.0, lent t.1) p q in
    λ i. ((e i).0, (e i).1.bytes)
