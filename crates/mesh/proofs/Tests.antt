-- Laws of the tests of a mesh.
use Rattle.std.specs.Prelude.{Ok, Err}
use lib.Ieee.{Float}
use mathlib.Core.Path.{◌≡◌, refl, sym, ap}
use mathlib.Core.Bool.{Bool, true, false, ◌&&◌}
use mathlib.Core.List.{List, [], ◌∷◌}
use mathlib.Core.Logic.{⊎_elim}
use Prim.Native.Nat.{ℕ, zero, suc, ◌+◌, ◌*◌, ◌/◌, ◌%◌, ◌≤◌, ◌<◌}
use native.Mathlib.Numerals.{add-one}
use native.Mathlib.Omega.{arith}
use lib.Dec.{eqb, leb, ltb}
use lib.ListN.{length, get_or, drop, drop_of_length-le, get_or-eq_default}
use lib.Seq.{drop-cons}
use borrow.Author.Tests.{le-ltb, lt-ltb, ltb-true, leb-true, le-leb, eqb-true, ne_eqb}
use Rattle.refusal.specs.Limits.{most_faces, most_vertices}
use Rattle.refusal.specs.declared.Refusal.{Refusal}
use Rattle.refusal.specs.declared.Refusal.TheVariants.{Shape, Count, Vertex}
use Rattle.refusal.specs.Refusals.{Verdict, unless}
use Rattle.path.proofs.Tests.{both, split, passed}
use Rattle.path.specs.Strokes.{point_at}
use Rattle.mesh.specs.Meshes.{corner_at, shaped_of, counted_of, all_below, mesh_verdict, reach_of}

and_false : (b : Bool) → (b && false) ≡ false
and_false true = refl
and_false false = refl

and_true : (b : Bool) → (b && true) ≡ b
and_true true = refl
and_true false = refl

and_assoc : (a b c : Bool) → (a && (b && c)) ≡ ((a && b) && c)
and_assoc true b c = refl
and_assoc false b c = refl

-- the larger of two numbers is below n exactly if both are
module _ (a b n : ℕ) where
  pub second_told : a ≤ b → ltb b n ≡ (ltb a n && ltb b n)
  second_told h = ⊎_elim (λ g. rw (le-ltb b n g) (sym (and_false (ltb a n)))) (λ l. rw (lt-ltb a n (omega arith), lt-ltb b n l)) (split n b)

  pub first-told : b ≤ a → ltb a n ≡ (ltb a n && ltb b n)
  first-told h = ⊎_elim (λ g. rw (le-ltb a n g)) (λ l. rw (lt-ltb a n l, lt-ltb b n (omega arith))) (split n a)

-- the largest so far, m, and the indices from place i on
module _ (n : ℕ) (is : List ℕ) (i m : ℕ) where
  pub compared : i < length is → (r : ℕ) → ltb r n ≡ (ltb m n && ltb (get_or is i 0) n) → (ltb m n && all_below n (drop i is)) ≡ (ltb r n && all_below n (drop (i + 1) is))
  unfolding all_below
  compared h r e = rw (drop-cons is i 0 h, add-one, e) (and_assoc (ltb m n) (ltb (get_or is i 0) n) _)

  pub no_more : length is ≤ i → (ltb m n && all_below n (drop i is)) ≡ ltb m n
  unfolding all_below
  no_more h = rw (drop_of_length-le is h) (and_true (ltb m n))

-- of no vertices there is no index
pub none_below : (is : List ℕ) → eqb (length is) 0 ≡ all_below 0 is
unfolding all_below
none_below [] = refl
none_below (i ∷ is) = rw (ne_eqb (suc (length is)) 0 (λ e. omega arith), le-ltb i 0 (omega arith))

-- an index that is there is that of a vertex
pub index_below : (v : ℕ) (is : List ℕ) (k : ℕ) → all_below v is ≡ true → k < length is → get_or is k 0 < v
unfolding all_below
index_below v [] k h l = absurd (omega arith)
index_below v (i ∷ is) zero h l = ltb-true i v (both (ltb i v) (all_below v is) h).0
index_below v (i ∷ is) (suc k) h l = index_below v is k (both (ltb i v) (all_below v is) h).1 (omega arith)

-- past the end there is index 0
pub index_past : (vs : List Float) (is : List ℕ) (k : ℕ) → length is ≤ k → point_at vs 0 ≡ corner_at vs is k
index_past vs is k h = ap (point_at vs) (sym (get_or-eq_default is 0 h))

-- the corners of faces within reach
module _ (v : ℕ) (is : List ℕ) (n k : ℕ) (h : reach_of v is n ≡ true) (l : k < n * 3) where
  pub corner_there : k < length is
  unfolding reach_of
  corner_there = omega (arith, leb-true (n * 3) (length is) (both (leb (n * 3) (length is)) (all_below v is) h).0)

  pub vertex_there : get_or is k 0 < v
  unfolding reach_of
  vertex_there = index_below v is k (both (leb (n * 3) (length is)) (all_below v is) h).1 corner_there

-- what reaches: the faces are there, and every index is that of a vertex
pub reached : (v : ℕ) (is : List ℕ) (n : ℕ) → reach_of v is n ≡ true → (n * 3 ≤ length is) × (all_below v is ≡ true)
unfolding reach_of
reached v is n h = let b = both (leb (n * 3) (length is)) (all_below v is) h in (leb-true (n * 3) (length is) b.0, b.1)

-- indices that are all those of vertices reach
pub all_reach : (v : ℕ) (is : List ℕ) → all_below v is ≡ true → reach_of v is (length is / 3) ≡ true
unfolding reach_of
all_reach v is h = rw (le-leb (length is / 3 * 3) (length is) (omega arith)) h

-- what the limits and the shape tell of the faces
pub few_faces : (numbers indices : ℕ) → counted_of numbers indices ≡ true → indices / 3 ≤ most_faces
unfolding counted_of
few_faces numbers indices h = leb-true _ _ (both (leb (numbers / 3) most_vertices) (leb (indices / 3) most_faces) h).1

pub whole_faces : (numbers indices : ℕ) → shaped_of numbers indices ≡ true → indices ≡ indices / 3 * 3
unfolding shaped_of
whole_faces numbers indices h = let e = eqb-true (indices % 3) 0 (both (eqb (numbers % 3) 0) (eqb (indices % 3) 0) h).1 in omega arith

-- what the tests of a mesh tell, and what they leave to those that follow
module _ (vs : List Float) (is : List ℕ) where
  pub mesh-told : mesh_verdict vs is (Ok tt) ≡ Ok tt → (shaped_of (length vs) (length is) ≡ true) × (counted_of (length vs) (length is) ≡ true) × (all_below (length vs / 3) is ≡ true)
  unfolding mesh_verdict
  mesh-told h =
      let a = passed _ _ _ h in
      let b = passed _ _ _ a.1 in
      (a.0, b.0, (passed _ _ _ b.1).0)

  pub mesh-passed : mesh_verdict vs is (Ok tt) ≡ Ok tt → (next : Verdict) → mesh_verdict vs is next ≡ next
  unfolding mesh_verdict unless
  mesh-passed h next = let t = mesh-told h in rw (t.0, t.1, t.2)

  pub mesh-refused : (r : Refusal) → mesh_verdict vs is (Ok tt) ≡ Err r → (next : Verdict) → mesh_verdict vs is next ≡ Err r
  unfolding mesh_verdict unless
  mesh-refused r h next = go (shaped_of (length vs) (length is)) (counted_of (length vs) (length is)) (all_below (length vs / 3) is) h
    where
      go : (a b c : Bool) → unless a Shape (unless b Count (unless c Vertex (Ok tt))) ≡ Err r → unless a Shape (unless b Count (unless c Vertex next)) ≡ Err r
      go false b c e = e
      go true false c e = e
      go true true false e = e
      go true true true e = cc
