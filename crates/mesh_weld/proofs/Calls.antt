-- What an accepted weld has been tested for, and what it leaves.
use Rattle.std.specs.Prelude.{Ok}
use mathlib.Core.Path.{◌≡◌, ◌∙◌}
use mathlib.Core.List.{List, [], ◌∷◌}
use Prim.Native.Nat.{ℕ, ◌*◌, ◌/◌, ◌%◌, ◌≤◌}
use native.Mathlib.Omega.{arith}
use lib.ListN.{length, replicate}
use lib.Ieee.{Float}
use borrow.Author.Tests.{leb-true, eqb-true}
use Rattle.refusal.specs.Limits.{most_faces}
use Rattle.refusal.specs.Said.{Said, accepted}
use Rattle.path.proofs.Tests.{passed}
use Rattle.path.proofs.Pushes.{over-sets}
use Rattle.mesh_weld.specs.Weld.{weld_of}
use Rattle.mesh_weld.specs.Call.{lent_verdict, verdict_of, left, welded}
use Rattle.mesh_weld.specs.InnerTable.{Laid}

-- what an accepted call has been tested for
pub fitting : (cs : List Float) (w r n : ℕ) → verdict_of cs w r n ≡ (Ok tt)
    → (length cs % 9 ≡ 0) × (length cs / 9 ≤ most_faces) × (length cs / 9 * 12 ≤ w) × (length cs / 9 * 9 ≤ r) × (length cs / 9 * 3 ≤ n)
unfolding verdict_of lent_verdict
fitting cs w r n h =
    let shape = passed _ _ _ h in
    let count = passed _ _ _ shape.1 in
    let number = passed _ _ _ count.1 in
    let words = passed _ _ _ number.1 in
    let room = passed _ _ _ words.1 in
    let numbers = passed _ _ _ room.1 in
    (eqb-true _ _ shape.0, leb-true _ _ count.0, leb-true _ _ words.0, leb-true _ _ room.0, leb-true _ _ numbers.0)

same_left : {r q : Said ℕ} {s t : List ℕ} {vs us : List Float} {is js : List ℕ} → r ≡ q → s ≡ t → vs ≡ us → is ≡ js → left r s vs is ≡ left q t us js
same_left a b c d = cc

pub all_welded : (cs : List Float) (s : List ℕ) (vs : List Float) (is s' : List ℕ) (vs' : List Float) (is' : List ℕ) (k : ℕ) → verdict_of cs (length s) (length vs) (length is) ≡ (Ok tt)
    → Laid cs vs is vs' is' k → s' ≡ replicate (length s) 0 → left (accepted (k ∷ length cs / 3 ∷ [])) s' vs' is' ≡ welded cs s vs is
unfolding welded
all_welded cs s vs is s' vs' is' k z d g =
    let f = fitting cs (length s) (length vs) (length is) z in
    same_left (rw (← d.count, d.length_indices)) g (d.vertices ∙ over-sets vs (weld_of cs).vertices d.length_vertices)
    (d.indices ∙ over-sets is (weld_of cs).indices (omega (arith, d.length_indices)))
