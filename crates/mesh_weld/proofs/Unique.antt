-- What the contract of `weld` permits is one answer and one content of everything lent.
use mathlib.Core.Path.{◌≡◌}
use mathlib.Core.List.{List, [], ◌∷◌}
use Prim.Native.Nat.{ℕ}
use lib.ListN.{get_or}
use lib.Ieee.{Float}
use Rattle.std.specs.Prelude.{Result}
use Rattle.refusal.specs.One.{One}
use Rattle.refusal.specs.declared.Refusal.{Refusal}
use Rattle.refusal.proofs.Unique.{one-said}
use Rattle.refusal.proofs.Outcomes.{one-outcome}
use Rattle.mesh_weld.specs.declared.Welded.{Welded}
use Rattle.mesh_weld.specs.Call.{said, lent, left, weld_left}
use Rattle.mesh_weld.specs.Read.{read_left}

told : (r t : Result Welded Refusal) → said r ≡ said t → r ≡ t
told = one-said (λ w. w.vertices ∷ w.indices ∷ []) (λ a b e. λ i. record { vertices = get_or (e i) 0 0; indices = get_or (e i) 1 0 })

pub one-weld : (cs : List Float) (s : List ℕ) (vs : List Float) (is : List ℕ)
    → One (Result Welded Refusal × List ℕ × List Float × List ℕ) (λ o. left (said o.0) o.1 o.2 o.3 ≡ weld_left cs s vs is)
one-weld cs s vs is r t p q =
    let e = one-outcome said told (weld_left cs s vs is) (r.0, lent r.1 r.2 r.3) (t.0, lent t.1 t.2 t.3) p q in
    λ i. ((e i).0, (e i).1.scratch, (e i).1.vertices, (e i).1.indices)

pub one-read_stl : (bs s : List ℕ) (vs : List Float) (is : List ℕ)
    → One (Result Welded Refusal × List ℕ × List Float × List ℕ) (λ o. left (said o.0) o.1 o.2 o.3 ≡ read_left bs s vs is)
one-read_stl bs s vs is r t p q =
    let e = one-outcome said told (read_left bs s vs is) (r.0, lent r.1 r.2 r.3) (t.0, lent t.1 t.2 t.3) p q in
    λ i. ((e i).0, (e i).1.scratch, (e i).1.vertices, (e i).1.indices)
