-- A plane cuts a closed mesh in segments of which an even number of ends meets at every point, so every stroke spliced of them is closed.
use mathlib.Core.Path.{◌≡◌, refl, sym, ap, ◌∙◌}
use mathlib.Core.Logic.{⊎_elim}
use mathlib.Core.Bool.{Bool, cond}
use mathlib.Core.List.{List, [], ◌∷◌}
use Prim.Native.Nat.{ℕ, zero, suc, ◌+◌, ◌*◌, ◌/◌, ◌%◌, ◌<◌}
use native.Mathlib.Omega.{arith}
use native.Mathlib.Decide.{ℕ_discrete}
use lib.ListN.{length, get_or}
use lib.Dec.{eqb, eqb-suc-zero}
use lib.Ieee.{Float}
use borrow.Author.Tests.{lt-ltb, le-ltb}
use Rattle.vector.specs.declared.Vector.{Vector}
use Rattle.order.proofs.Tests.{le-or}
use Rattle.path.specs.Strokes.{point_at}
use Rattle.path_splice_rule.specs.Splice.{splice}
use Rattle.path_splice_rule.specs.Demand.{Law, sum, over_pairs, one, is_pair, degree, open_count}
use Rattle.path_splice_rule.proofs.Numbers.{numbers}
use Rattle.path_splice_rule.proofs.Spliced.{demand3}
use Rattle.mesh_edges.specs.Edges.{next_corner}
use Rattle.mesh_section.specs.declared.Plane.{Plane}
use Rattle.mesh_contour_rule.specs.declared.Side.{Side}
use Rattle.mesh_contour_rule.specs.declared.Side.TheVariants.{Above, Below, On}
use Rattle.mesh_contour_rule.specs.declared.Corner.{Corner}
use Rattle.mesh_contour_rule.specs.Contour.{corner_by, corner_of, above, below, on, crossing, gives, unsigned_point, segment_of, segments_from, segments_of}
use Rattle.mesh_contour_rule.specs.Closed.{runs, sides_between, ClosedMesh, EvenEnds}
use Rattle.mesh_contour_rule.proofs.Around.{segment_in, by_sides}
use Rattle.mesh_contour_rule.proofs.Pairing.{pairs_even}

-- ---- what a side weighs

-- a corner that is on the plane, at the side to one that is above
beside : Side → Side → ℕ → ℕ
beside s t h = on s * above t * h

-- a side that the plane parts
across : Side → Side → ℕ → ℕ
across s t h = (above s * below t + above t * below s) * h

-- the side between corners on s and t that weigh h and k, with a crossing that weighs x
weight : Side → Side → ℕ → ℕ → ℕ → ℕ
weight s t h k x = beside s t h + beside t s k + across s t x

across_turn : (s t : Side) (h : ℕ) → across s t h ≡ across t s h
unfolding across
across_turn s t h = let e : above s * below t + above t * below s ≡ above t * below s + above s * below t = omega arith in rw e

weight_turn : (s t : Side) (h k x : ℕ) → weight s t h k x ≡ weight t s k h x
unfolding weight
weight_turn s t h k x = omega (arith, across_turn s t x)

-- ---- the ends of a face's segment weigh what its sides do, but for an even number: twice the corner that is on where the others are above

module _ (w : Vector → ℕ) where
  -- what a place met weighs as an end
  abbrev worth : Vector → ℕ
  worth p = w (unsigned_point p)

  -- corners p, q, u on r, s, t, and the crossings x, y, z of the sides after them
  round : (r s t : Side) (p x q y u z : Vector)
      → over_pairs (λ a b. w a + w b) (segment_in r s t p x q y u z) % 2
      ≡ (weight r s (worth p) (worth q) (worth x) + weight s t (worth q) (worth u) (worth y) + weight t r (worth u) (worth p) (worth z)) % 2
  unfolding over_pairs gives weight beside across
  round Above Above Above p x q y u z = omega arith
  round Above Above Below p x q y u z = omega arith
  round Above Above On p x q y u z = omega arith
  round Above Below Above p x q y u z = omega arith
  round Above Below Below p x q y u z = omega arith
  round Above Below On p x q y u z = omega arith
  round Above On Above p x q y u z = omega arith
  round Above On Below p x q y u z = omega arith
  round Above On On p x q y u z = omega arith
  round Below Above Above p x q y u z = omega arith
  round Below Above Below p x q y u z = omega arith
  round Below Above On p x q y u z = omega arith
  round Below Below Above p x q y u z = omega arith
  round Below Below Below p x q y u z = omega arith
  round Below Below On p x q y u z = omega arith
  round Below On Above p x q y u z = omega arith
  round Below On Below p x q y u z = omega arith
  round Below On On p x q y u z = omega arith
  round On Above Above p x q y u z = omega arith
  round On Above Below p x q y u z = omega arith
  round On Above On p x q y u z = omega arith
  round On Below Above p x q y u z = omega arith
  round On Below Below p x q y u z = omega arith
  round On Below On p x q y u z = omega arith
  round On On Above p x q y u z = omega arith
  round On On Below p x q y u z = omega arith
  round On On On p x q y u z = omega arith

-- ---- the crossing of a side is the same from both ends, where corners of one number are one

crossing-less : (a b : Corner) → a.vertex < b.vertex → crossing a b ≡ crossing b a
unfolding crossing
crossing-less a b l = rw (le-ltb b.vertex a.vertex (omega arith), lt-ltb a.vertex b.vertex l)

crossing-turn : (a b : Corner) → (a.vertex ≡ b.vertex → a ≡ b) → crossing a b ≡ crossing b a
crossing-turn a b h =
    elim (ℕ_discrete a.vertex b.vertex) [
      | yes e ↦ let q : a ≡ b = h e in cc
      | no n ↦ ⊎_elim (λ l. crossing-less a b (omega arith)) (λ l. sym (crossing-less b a l)) (le-or a.vertex b.vertex)
    ]

-- ---- the sides of n faces from f on

sides : ℕ → ℕ → List ℕ
sides f zero = []
sides f (suc n) = (f * 3) ∷ (f * 3 + 1) ∷ (f * 3 + 2) ∷ sides (f + 1) n

next_1 : (f : ℕ) → next_corner (f * 3) ≡ f * 3 + 1
next_1 f = let e : f * 3 % 3 ≡ 0 = omega arith in rw e

next_2 : (f : ℕ) → next_corner (f * 3 + 1) ≡ f * 3 + 2
next_2 f = let e : (f * 3 + 1) % 3 ≡ 1 = omega arith in rw e (omega arith)

next_3 : (f : ℕ) → next_corner (f * 3 + 2) ≡ f * 3
next_3 f = let e : (f * 3 + 2) % 3 ≡ 2 = omega arith in rw e (omega arith)

-- one face more, at the end
sides_last : (w : ℕ → ℕ) (f n : ℕ) → sum w (sides f (suc n)) ≡ sum w (sides f n) + w ((f + n) * 3) + w ((f + n) * 3 + 1) + w ((f + n) * 3 + 2)
unfolding sum sides
sides_last w f zero = let e : f + 0 ≡ f = omega arith in rw e (omega arith)
sides_last w f (suc n) = let e : f + suc n ≡ f + 1 + n = omega arith in rw e (omega (arith, sides_last w (f + 1) n))

-- the sides between two vertices, counted over faces
sides_count : (is : List ℕ) (a b n : ℕ) → sides_between is a b (n * 3) ≡ sum (λ k. is_pair eqb a b (get_or is k 0) (get_or is (next_corner k) 0)) (sides 0 n)
unfolding sum sides sides_between runs is_pair
sides_count is a b zero = refl
sides_count is a b (suc n) =
    let w : ℕ → ℕ = λ k. is_pair eqb a b (get_or is k 0) (get_or is (next_corner k) 0) in
    let e : suc n * 3 ≡ suc (suc (suc (n * 3))) = omega arith in
    let e0 : (0 + n) * 3 ≡ n * 3 = omega arith in
    let e1 : (0 + n) * 3 + 1 ≡ suc (n * 3) = omega arith in
    let e2 : (0 + n) * 3 + 2 ≡ suc (suc (n * 3)) = omega arith in
    ap (sides_between is a b) e ∙ omega (arith, sides_count is a b n, sides_last w 0 n, ap w e0, ap w e1, ap w e2)

-- ---- the ends of all segments weigh what all sides do, but for an even number

-- a face that gives no segment adds none
added-face : {A : Type 0} (g : A → A → ℕ) (l : List A) (rest : List (List A)) → sum (over_pairs g) (cond (eqb (length l) 0) rest (l ∷ rest)) ≡ over_pairs g l + sum (over_pairs g) rest
unfolding sum over_pairs
added-face g [] rest = omega arith
added-face g (x ∷ l) rest = rw (eqb-suc-zero (length l))

module _ (vs : List Float) (is : List ℕ) (p : Plane) (tolerance : Float) (same : Vector → Vector → Bool) (v : Vector) where
  -- the corner at vertex i
  abbrev corner : ℕ → Corner
  corner i = corner_by p tolerance i (point_at vs i)

  -- 1 for a place that is v
  abbrev hit : Vector → ℕ
  hit x = one (same v (unsigned_point x))

  -- the side between vertices i and j
  edge : ℕ → ℕ → ℕ
  edge i j = weight (corner i).side (corner j).side (hit (corner i).at) (hit (corner j).at) (hit (crossing (corner i) (corner j)))

  edge_turn : (i j : ℕ) → edge i j ≡ edge j i
  unfolding edge
  edge_turn i j =
      ap (λ (x : Vector). weight (corner i).side (corner j).side (hit (corner i).at) (hit (corner j).at) (hit x)) (crossing-turn (corner i) (corner j) (λ e. ap corner e))
      ∙ weight_turn (corner i).side (corner j).side (hit (corner i).at) (hit (corner j).at) (hit (crossing (corner j) (corner i)))

  -- and side k of the list of indices
  along : ℕ → ℕ
  along k = edge (get_or is k 0) (get_or is (next_corner k) 0)

  -- the segment of face f, and those of the n faces from f on
  one-face : (f : ℕ) → over_pairs (λ x y. one (same v x) + one (same v y)) (segment_of (corner_of p tolerance vs is) f) % 2 ≡ (along (f * 3) + along (f * 3 + 1) + along (f * 3 + 2)) % 2
  unfolding segment_of along edge
  one-face f =
      let a = corner (get_or is (f * 3) 0) in
      let b = corner (get_or is (f * 3 + 1) 0) in
      let c = corner (get_or is (f * 3 + 2) 0) in
      rw (by_sides a b c, next_1 f, next_2 f, next_3 f) (round (λ x. one (same v x)) a.side b.side c.side a.at (crossing a b) b.at (crossing b c) c.at (crossing c a))

  faces_even : (f n : ℕ) → degree same v (segments_from (corner_of p tolerance vs is) f n) % 2 ≡ sum along (sides f n) % 2
  unfolding degree segments_from sides sum
  faces_even f zero = refl
  faces_even f (suc n) =
      omega (arith, one-face f, faces_even (f + 1) n, added-face (λ x y. one (same v x) + one (same v y)) (segment_of (corner_of p tolerance vs is) f) (segments_from (corner_of p tolerance vs is) (f + 1) n))

pub even_ends : (vs : List Float) (is : List ℕ) → ClosedMesh is → EvenEnds vs is
unfolding segments_of along
even_ends vs is M p tolerance same v =
    let n = length is / 3 in
    let long : n * 3 ≡ length is = omega (arith, M.whole) in
    let counts : (a b : ℕ) → sum (λ k. is_pair eqb a b (get_or is k 0) (get_or is (next_corner k) 0)) (sides 0 n) % 2 ≡ 0 = λ a b. omega (arith, M.even a b, ap (sides_between is a b) long, sides_count is a b n) in
    faces_even vs is p tolerance same v 0 n
    ∙ pairs_even eqb numbers (λ k. get_or is k 0) (λ k. get_or is (next_corner k) 0) (sides 0 n) counts (edge vs is p tolerance same v) (edge_turn vs is p tolerance same v)

-- by demand 3 no stroke is open then
pub all_closed : (vs : List Float) (is : List ℕ) → ClosedMesh is → (p : Plane) (tolerance : Float) (d : Vector) (same : Vector → Vector → Bool) → Law same
    → open_count same (splice d same (segments_of vs is p tolerance)) ≡ 0
all_closed vs is M p tolerance d same law = (demand3 d same law (segments_of vs is p tolerance)).closed (even_ends vs is M p tolerance same)
