-- Welding the corners of a welded mesh gives that mesh again: no two vertices meet, so a vertex's own point finds that vertex and no other.
use Rattle.path.specs.Strokes.{point_at}
use mathlib.Core.Path.{◌≡◌, refl, sym, ap, ◌∙◌}
use mathlib.Core.Bool.{true}
use mathlib.Core.Logic.{⊎_elim}
use mathlib.Core.List.{List, [], ◌∷◌, ◌++◌}
use Prim.Native.Nat.{ℕ, zero, suc, ◌+◌, ◌*◌, ◌/◌, ◌≤◌, ◌<◌}
use native.Mathlib.Omega.{arith}
use lib.ListN.{length, get_or, get_or-append}
use lib.Seq.{get_or-append-add}
use lib.Dec.{ltb}
use lib.Ieee.{Float, nan}
use borrow.Author.Tests.{ltb-true}
use Rattle.vector.specs.declared.Vector.{Vector}
use Rattle.path.specs.Tests.{coordinate_good, coordinates_good}
use Rattle.path.proofs.Tests.{both, split}
use Rattle.mesh.specs.Meshes.{gathered, all_below}
use Rattle.std.specs.Prelude.{Option, Some, None}
use Rattle.mesh_weld.specs.Weld.{find, Merged, join_as, join, weld_to, weld_of}
use Rattle.mesh_weld.proofs.Finds.{find-below}
use Rattle.stl_again.proofs.Meets.{Meets, find_none, find-only, meets_turned, meets_own}
use Rattle.mesh.proofs.Gathers.{length-gathered}
use Rattle.stl_again.proofs.Vertices.{Counts, counts, corners_length, all_of, all_good, point_has, has_to}

-- ---- points in a list that grows at its end
point_front : (xs ys : List Float) (i : ℕ) → i * 3 + 2 < length xs → point_at (xs ++ ys) i ≡ point_at xs i
unfolding point_at
point_front xs ys i l =
    rw (get_or-append xs ys nan (i * 3) (omega arith), get_or-append xs ys nan (i * 3 + 1) (omega arith), get_or-append xs ys nan (i * 3 + 2) l)

abbrev numbers : Vector → List Float
numbers v = v.x ∷ v.y ∷ v.z ∷ []

point_last : (xs : List Float) (v : Vector) (k : ℕ) → length xs ≡ k * 3 → point_at (xs ++ numbers v) k ≡ v
unfolding point_at
point_last xs v k e = rw (at 0 (k * 3) (omega arith), at 1 (k * 3 + 1) (omega arith), at 2 (k * 3 + 2) (omega arith))
  where
    at : (j m : ℕ) → m ≡ length xs + j → get_or (xs ++ numbers v) m nan ≡ get_or (numbers v) j nan
    at j m o = ap (λ (q : ℕ). get_or (xs ++ numbers v) q nan) o ∙ get_or-append-add xs (numbers v) j nan

-- ---- corners that are gathered
gathered-append : (vs : List Float) (is js : List ℕ) → gathered vs (is ++ js) ≡ gathered vs is ++ gathered vs js
unfolding gathered
gathered-append vs [] js = refl
gathered-append vs (i ∷ is) js = rw (gathered-append vs is js)

-- vertices added change no corner of those before
gathered-front : (vs us : List Float) (k : ℕ) (is : List ℕ) → length vs ≡ k * 3 → all_below k is ≡ true → gathered (vs ++ us) is ≡ gathered vs is
unfolding gathered all_below
gathered-front vs us k [] e h = refl
gathered-front vs us k (i ∷ is) e h =
    let b = both (ltb i k) (all_below k is) h in
    rw (point_front vs us i (omega (arith, ltb-true i k b.0)), gathered-front vs us k is e b.1)

gathered-last : (vs : List Float) (p : Vector) (k : ℕ) (is : List ℕ) → length vs ≡ k * 3 → all_below k is ≡ true
    → gathered (vs ++ numbers p) (is ++ k ∷ []) ≡ gathered vs is ++ numbers p
unfolding gathered
gathered-last vs p k is e h = gathered-append (vs ++ numbers p) is (k ∷ []) ∙ rw (gathered-front vs (numbers p) k is e h, point_last vs p k e)

-- ---- a corner more
weld_front : (a b : List Float) (n : ℕ) → n * 3 ≤ length a → weld_to (a ++ b) n ≡ weld_to a n
unfolding weld_to
weld_front a b zero l = refl
weld_front a b (suc n) l = rw (weld_front a b n (omega arith), point_front a b n (omega arith))

weld_last : (a : List Float) (v : Vector) (n : ℕ) (w : Merged) → length a ≡ n * 3 → weld_to a n ≡ w → weld_to (a ++ numbers v) (suc n) ≡ join w v
unfolding weld_to
weld_last a v n w l e = rw (weld_front a (numbers v) n (omega arith), point_last a v n l, e)

-- ---- no two vertices meet
abbrev Apart : Merged → Type 0
Apart w = (u v : ℕ) → u < v → v < w.count → Meets (point_at w.vertices v) (point_at w.vertices u) → ⊥

apart-join : (w : Merged) (p : Vector) (f : Option ℕ) → length w.vertices ≡ w.count * 3 → Apart w → find w.vertices w.count p ≡ f → Apart (join_as w p f)
unfolding join_as
apart-join w p (Some i) l a e = a
apart-join w p None l a e = λ u v g h m.
    let vs = w.vertices in
    let k = w.count in
    let first = point_front vs (numbers p) u (omega arith) in
    ⊎_elim
    (λ o. let q : v ≡ k = omega arith in
    let last = ap (point_at (vs ++ numbers p)) q ∙ point_last vs p k l in
    find_none vs k p e u (omega arith) (rw (last, first) at m))
    (λ o. a u v g o (rw (point_front vs (numbers p) v (omega arith), first) at m)) (split k v)

apart : (cs : List Float) (n : ℕ) → Apart (weld_to cs n)
unfolding weld_to join
apart cs zero = λ u v g h m. omega arith
apart cs (suc n) =
    let w = weld_to cs n in
    apart-join w (point_at cs n) (find w.vertices w.count (point_at cs n)) (counts cs n).wide (apart cs n) refl

only : (w : Merged) → Apart w → (u v : ℕ) → u < w.count → v < w.count → Meets (point_at w.vertices v) (point_at w.vertices u) → u ≡ v
only w a u v k l m =
    ⊎_elim (λ i. ⊎_elim (λ j. omega arith) (λ j. absurd (a u v j l m)) (split v u)) (λ i. absurd (a v u i k (meets_turned m))) (split u v)

-- ---- the corner n of the mesh, where those before gave w again
module _ (w : Merged) (n : ℕ) (c : Counts w n) (a : Apart w) (g : all_of coordinate_good w.vertices ≡ true) where
  -- a vertex's own point finds it
  find-own : (v : ℕ) → v < w.count → find w.vertices w.count (point_at w.vertices v) ≡ Some v
  find-own v l =
      let p = point_at w.vertices v in
      let h = point_has coordinate_good w.vertices v g (omega (arith, c.wide)) in
      find-only w.vertices w.count p v l (meets_own p h.0 h.1 h.2) (λ u k m. only w a u v k l m)

  again_join : (p : Vector) (f : Option ℕ) → weld_to (gathered w.vertices w.indices) n ≡ w → find w.vertices w.count p ≡ f
      → weld_to (gathered (join_as w p f).vertices (join_as w p f).indices) (suc n) ≡ join_as w p f
  unfolding join_as join gathered
  again_join p (Some v) h e =
      let b = point_at w.vertices v in
      ap (λ (cs : List Float). weld_to cs (suc n)) (gathered-append w.vertices w.indices (v ∷ []))
      ∙ weld_last (gathered w.vertices w.indices) b n w (length-gathered w.vertices w.indices ∙ ap (λ (m : ℕ). m * 3) c.long) h
      ∙ ap (join_as w b) (find-own v (find-below w.vertices w.count p v e))
  again_join p None h e =
      ap (λ (cs : List Float). weld_to cs (suc n)) (gathered-last w.vertices p w.count w.indices c.wide c.low)
      ∙ weld_last (gathered w.vertices w.indices) p n w (length-gathered w.vertices w.indices ∙ ap (λ (m : ℕ). m * 3) c.long) h
      ∙ ap (join_as w p) e

again : (cs : List Float) (n : ℕ) → all_of coordinate_good cs ≡ true → n * 3 ≤ length cs → weld_to (gathered (weld_to cs n).vertices (weld_to cs n).indices) n ≡ weld_to cs n
unfolding weld_to join
again cs zero g l = refl
again cs (suc n) g l =
    let w = weld_to cs n in
    again_join w n (counts cs n) (apart cs n) (has_to coordinate_good cs n g (omega arith)) (point_at cs n) (find w.vertices w.count (point_at cs n))
    (again cs n g (omega arith)) refl

pub weld_again : (cs : List Float) → coordinates_good cs ≡ true → weld_of (gathered (weld_of cs).vertices (weld_of cs).indices) ≡ weld_of cs
unfolding weld_of
weld_again cs h =
    let n = length cs / 3 in
    let w = weld_to cs n in
    let e : length (gathered w.vertices w.indices) / 3 ≡ n = omega (arith, corners_length cs) in
    ap (weld_to (gathered w.vertices w.indices)) e ∙ again cs n (sym (all_good cs) ∙ h) (omega arith)
