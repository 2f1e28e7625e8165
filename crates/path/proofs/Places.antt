-- A place as an answer: how many points and starts were written. It is told by what is said of it.
use mathlib.Core.Path.{◌≡◌}
use mathlib.Core.List.{List, [], ◌∷◌}
use Prim.Native.Nat.{ℕ}
use lib.ListN.{get_or}
use Rattle.refusal.specs.Said.{Said, accepted}
use Rattle.refusal.proofs.Unique.{same-values}
use Rattle.path.specs.declared.Place.{Place}

abbrev pub placed : Place → Said ℕ
placed r = accepted (r.points ∷ r.starts ∷ [])

pub same_place : (r t : Place) → placed r ≡ placed t → r ≡ t
same_place r t e =
    let v : ◌≡◌ {A = List ℕ} (r.points ∷ r.starts ∷ []) (t.points ∷ t.starts ∷ []) = same-values e in
    λ i. record { points = get_or (v i) 0 0; starts = get_or (v i) 1 0 }
