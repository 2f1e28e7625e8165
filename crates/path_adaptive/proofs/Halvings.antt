-- Points written equal points read plus halvings.
use Rattle.std.specs.Prelude.{Ok}
use mathlib.Core.Path.{◌≡◌, ap, ◌∙◌}
use mathlib.Core.Bool.{true}
use mathlib.Core.List.{List, ◌∷◌}
use Prim.Native.Nat.{ℕ, ◌+◌, ◌/◌, ◌%◌}
use native.Mathlib.Omega.{arith}
use lib.ListN.{length}
use lib.Dec.{eqb}
use lib.Ieee.{Float}
use Rattle.refusal.specs.Said.{accepted}
use Rattle.refusal.specs.Outcome.{Outcome}
use Rattle.refusal.proofs.Unique.{same-values}
use Rattle.refusal.proofs.Outcomes.{was_accepted}
use Rattle.vector.specs.declared.Vector.{Vector}
use Rattle.vector.specs.declared.matrix.Matrix.{Matrix}
use Rattle.path.specs.Strokes.{good_starts, point_at, strokes_of}
use Rattle.path.specs.Laid.{joined, non_empty}
use Rattle.path.specs.Call.{Lent, left, laid}
use Rattle.path.specs.Tests.{shaped_of}
use Rattle.path.proofs.Again.{table_all}
use Rattle.path.proofs.Tests.{passed, both}
use Rattle.path_adaptive.specs.declared.Adapted.{Adapted}
use Rattle.path_adaptive.specs.Walk.{view_of, walks_of, adapted, halvings_of}
use Rattle.path_adaptive.specs.Call.{said, verdict_of, adaptive_left}
use Rattle.path_adaptive.proofs.Tallies.{points_and_halvings}
use Rattle.path_adaptive.proofs.Calls.{adaptive_accepted}

-- an accepted call's values
values_are : (more : List ℕ) (ss : List (List Vector)) (op : List Float) (os : List ℕ) (vs : List ℕ) (a : List Float) (d : List ℕ)
    → left (accepted vs) a d ≡ laid more ss op os → vs ≡ length (joined ss) ∷ length (non_empty ss) ∷ more
unfolding laid
values_are more ss op os vs a d h = same-values (ap (λ (o : Outcome Lent). o.answer) h)

shaped_table : (ps : List Float) (ss : List ℕ) → shaped_of ps ss ≡ true → good_starts (length ps / 3) ss ≡ true
unfolding shaped_of
shaped_table ps ss h = (both (eqb (length ps % 3) 0) (good_starts (length ps / 3) ss) h).1

accepted-table : (ps : List Float) (ss : List ℕ) (m : Matrix) (width height step tolerance : Float) (room start_room : ℕ)
    → verdict_of ps ss m width height step tolerance room start_room ≡ (Ok tt) → good_starts (length ps / 3) ss ≡ true
unfolding verdict_of
accepted-table ps ss m width height step tolerance room start_room h = shaped_table ps ss (passed _ _ _ h).0

counted-all : (ps : List Float) (ss : List ℕ) (m : Matrix) (width height step tolerance : Float) (room start_room : ℕ)
    → verdict_of ps ss m width height step tolerance room start_room ≡ (Ok tt)
    → length (joined (adapted (walks_of (view_of m width height step tolerance) ps ss))) ≡ length ps / 3 + halvings_of (walks_of (view_of m width height step tolerance) ps ss)
unfolding walks_of
counted-all ps ss m width height step tolerance room start_room h =
    let g = adaptive_accepted ps ss m width height step tolerance room start_room h in
    let t = accepted-table ps ss m width height step tolerance room start_room h in
    points_and_halvings (view_of m width height step tolerance) (strokes_of (point_at ps) (length ps / 3) ss) g.calm
    ∙ ap (λ (n : ℕ). n + halvings_of (walks_of (view_of m width height step tolerance) ps ss)) (table_all (point_at ps) (length ps / 3) ss t)

-- of an accepted call's answer, by the contract alone
pub written-is_read_and_halvings : (ps : List Float) (ss : List ℕ) (m : Matrix) (width height step tolerance : Float) (op : List Float) (os : List ℕ)
    (made : Adapted) (a : List Float) (d : List ℕ)
    → left (said (Ok made)) a d ≡ adaptive_left ps ss m width height step tolerance op os → made.points ≡ length ps / 3 + made.halvings
unfolding adaptive_left
written-is_read_and_halvings ps ss m width height step tolerance op os made a d h =
    let k = was_accepted _ _ _ _ _ h in
    let n = counted-all ps ss m width height step tolerance (length op) (length os) k.0 in
    let e = values_are _ _ op os _ a d k.1 in
    let p : made.points ≡ length (joined (adapted (walks_of (view_of m width height step tolerance) ps ss))) = cc in
    let q : made.halvings ≡ halvings_of (walks_of (view_of m width height step tolerance) ps ss) = cc in
    omega arith
