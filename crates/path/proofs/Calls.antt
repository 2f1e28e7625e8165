-- What an accepted call on points leaves, and that its contract permits one outcome: the answer and both lists.
use mathlib.Core.Path.{◌≡◌, ap}
use mathlib.Core.List.{List, ◌∷◌}
use Prim.Native.Nat.{ℕ, ◌*◌, ◌≤◌}
use lib.ListN.{length, get_or}
use lib.Ieee.{Float}
use Rattle.refusal.specs.One.{One}
use Rattle.refusal.specs.Said.{Said, accepted}
use Rattle.refusal.specs.Outcome.{Outcome}
use Rattle.refusal.specs.declared.Refusal.{Refusal}
use Rattle.refusal.proofs.Unique.{one-said}
use Rattle.refusal.proofs.Outcomes.{one-outcome}
use Rattle.vector.specs.declared.Vector.{Vector}
use Rattle.path.specs.declared.Place.{Place}
use Rattle.std.specs.Prelude.{[], Result}
use Rattle.path.specs.Laid.{joined, non_empty}
use Rattle.path.specs.InnerPushes.{Out, out, push_all, put_points}
use Rattle.path.specs.Call.{Lent, lent, left, laid, placed_said}
use Rattle.path.proofs.Pushes.{all_laid, front}
use Rattle.path.proofs.Points.{points_lie}

-- what a call answers and leaves that wrote as far as o says
abbrev pub wrote : List ℕ → Out Float → Outcome Lent
wrote more o = left (accepted (o.place.points ∷ o.place.starts ∷ more)) o.buf o.starts

pub wrote_all : (more : List ℕ) (ss : List (List Vector)) (op : List Float) (os : List ℕ) (q : Out Float) → q ≡ push_all put_points (out op os front) ss
    → length (joined ss) * 3 ≤ length op → length (non_empty ss) ≤ length os → wrote more q ≡ laid more ss op os
unfolding laid
wrote_all more ss op os q e hp hs = ap (wrote more) (all_laid points_lie op os ss q e hp hs)

-- an answer of points and starts is told by what is said of it
pub one-place : (r t : Result Place Refusal) → placed_said r ≡ placed_said t → r ≡ t
one-place = one-said (λ p. p.points ∷ p.starts ∷ []) (λ a b e. λ i. record { points = get_or (e i) 0 0; starts = get_or (e i) 1 0 })

pub one_left : {A : Type 0} (said : A → Said ℕ) → ((r t : A) → said r ≡ said t → r ≡ t) → (x : Outcome Lent)
    → One (A × List Float × List ℕ) (λ o. left (said o.0) o.1 o.2 ≡ x)
one_left said told x r t p q =
    let e = one-outcome said told x (r.0, lent r.1 r.2) (t.0, lent t.1 t.2) p q in
    λ i. ((e i).0, (e i).1.points, (e i).1.starts)
