-- What every weld leaves: as many indices as corners, each that of a vertex, and coordinates that are the corners' own.
use Rattle.path.specs.Strokes.{point_at}
use mathlib.Core.Path.{◌≡◌, refl, sym, ap, ◌∙◌}
use mathlib.Core.Bool.{Bool, true, ◌&&◌}
use mathlib.Core.List.{List, [], ◌∷◌, ◌++◌}
use Prim.Native.Nat.{ℕ, zero, suc, ◌+◌, ◌*◌, ◌/◌, ◌≤◌, ◌<◌}
use native.Mathlib.Omega.{arith}
use lib.ListN.{length, get_or, length-append}
use lib.Dec.{ltb}
use lib.Ieee.{Float, nan}
use borrow.Author.Tests.{lt-ltb, ltb-true}
use Rattle.vector.specs.declared.Vector.{Vector}
use Rattle.path.specs.Tests.{most_coordinate, within_of, all_within, coordinate_good, coordinates_good}
use Rattle.path.proofs.Tests.{both}
use Rattle.mesh.proofs.Gathers.{length-gathered}
use Rattle.mesh.specs.Meshes.{gathered, all_below}
use Rattle.std.specs.Prelude.{Option, Some, None}
use Rattle.mesh_weld.specs.Weld.{find, Merged, join_as, join, weld_to, weld_of}
use Rattle.mesh_weld.proofs.Finds.{find-below}

-- ---- the counts, after n corners
pub record Counts (w : Merged) (n : ℕ) : Type 0 where
  pub wide : length w.vertices ≡ w.count * 3
  pub long : length w.indices ≡ n
  pub few : w.count ≤ n
  pub low : all_below w.count w.indices ≡ true

below_last : (k : ℕ) (is : List ℕ) (i : ℕ) → all_below k is ≡ true → i < k → all_below k (is ++ i ∷ []) ≡ true
unfolding all_below
below_last k [] i h l = rw (lt-ltb i k l)
below_last k (j ∷ is) i h l = let b = both (ltb j k) (all_below k is) h in rw b.0 (below_last k is i b.1 l)

below_more : (k : ℕ) (is : List ℕ) → all_below k is ≡ true → all_below (k + 1) is ≡ true
unfolding all_below
below_more k [] h = refl
below_more k (j ∷ is) h =
    let b = both (ltb j k) (all_below k is) h in
    rw (lt-ltb j (k + 1) (omega (arith, ltb-true j k b.0))) (below_more k is b.1)

counts_join : (w : Merged) (n : ℕ) (p : Vector) (f : Option ℕ) → Counts w n → ((i : ℕ) → f ≡ Some i → i < w.count) → Counts (join_as w p f) (suc n)
unfolding join_as
counts_join w n p (Some i) c h =
    record {
      wide = c.wide;
      long = omega (arith, length-append w.indices (i ∷ []), c.long);
      few = omega (arith, c.few);
      low = below_last w.count w.indices i c.low (h i refl);
    }
counts_join w n p None c h =
    record {
      wide = omega (arith, length-append w.vertices (p.x ∷ p.y ∷ p.z ∷ []), c.wide);
      long = omega (arith, length-append w.indices (w.count ∷ []), c.long);
      few = omega (arith, c.few);
      low = below_last (w.count + 1) w.indices w.count (below_more w.count w.indices c.low) (omega arith);
    }

pub counts : (cs : List Float) (n : ℕ) → Counts (weld_to cs n) n
unfolding weld_to join all_below
counts cs zero = record { wide = refl; long = refl; few = omega arith; low = refl }
counts cs (suc n) =
    let w = weld_to cs n in
    counts_join w n (point_at cs n) (find w.vertices w.count (point_at cs n)) (counts cs n) (find-below w.vertices w.count (point_at cs n))

pub welded-counts : (cs : List Float) → Counts (weld_of cs) (length cs / 3)
unfolding weld_of
welded-counts cs = counts cs (length cs / 3)

pub corners_length : (cs : List Float) → length (gathered (weld_of cs).vertices (weld_of cs).indices) ≡ length cs / 3 * 3
corners_length cs = length-gathered (weld_of cs).vertices (weld_of cs).indices ∙ ap (λ (n : ℕ). n * 3) (welded-counts cs).long

-- ---- what holds of every coordinate of the corners
unfoldable pub all_of : (Float → Bool) → List Float → Bool
all_of P [] = true
all_of P (x ∷ xs) = P x && all_of P xs

-- coordinates within a bound, for one
pub all_within_lem : (most : Float) (xs : List Float) → all_within most xs ≡ all_of (within_of most) xs
unfolding all_of
all_within_lem most [] = refl
all_within_lem most (x ∷ xs) = ap (λ (b : Bool). within_of most x && b) (all_within_lem most xs)

pub all_good : (xs : List Float) → coordinates_good xs ≡ all_of coordinate_good xs
unfolding coordinates_good
all_good xs = all_within_lem most_coordinate xs

module _ (P : Float → Bool) where
  pub all_at : (xs : List Float) (k : ℕ) → all_of P xs ≡ true → k < length xs → P (get_or xs k nan) ≡ true
  unfolding all_of
  all_at [] k h l = absurd (omega arith)
  all_at (x ∷ xs) zero h l = (both (P x) (all_of P xs) h).0
  all_at (x ∷ xs) (suc k) h l = all_at xs k (both (P x) (all_of P xs) h).1 (omega arith)

  all_append : (xs ys : List Float) → all_of P xs ≡ true → all_of P ys ≡ true → all_of P (xs ++ ys) ≡ true
  unfolding all_of
  all_append [] ys g h = h
  all_append (x ∷ xs) ys g h = let b = both (P x) (all_of P xs) g in rw b.0 (all_append xs ys b.1 h)

  abbrev Has : Vector → Type 0
  Has v = (P v.x ≡ true) × (P v.y ≡ true) × (P v.z ≡ true)

  pub point_has : (xs : List Float) (i : ℕ) → all_of P xs ≡ true → i * 3 + 2 < length xs → Has (point_at xs i)
  unfolding point_at
  point_has xs i h l = (all_at xs (i * 3) h (omega arith), all_at xs (i * 3 + 1) h (omega arith), all_at xs (i * 3 + 2) h l)

  has_join : (w : Merged) (p : Vector) (f : Option ℕ) → all_of P w.vertices ≡ true → Has p → all_of P (join_as w p f).vertices ≡ true
  unfolding join_as all_of
  has_join w p (Some i) h g = h
  has_join w p None h g = all_append w.vertices (p.x ∷ p.y ∷ p.z ∷ []) h (rw (g.0, g.1, g.2))

  pub has_to : (cs : List Float) (n : ℕ) → all_of P cs ≡ true → n * 3 ≤ length cs → all_of P (weld_to cs n).vertices ≡ true
  unfolding weld_to join all_of
  has_to cs zero h l = refl
  has_to cs (suc n) h l =
      let w = weld_to cs n in
      has_join w (point_at cs n) (find w.vertices w.count (point_at cs n)) (has_to cs n h (omega arith)) (point_has cs n h (omega arith))

  gathered-have : (vs : List Float) (k : ℕ) (is : List ℕ) → length vs ≡ k * 3 → all_of P vs ≡ true → all_below k is ≡ true → all_of P (gathered vs is) ≡ true
  unfolding gathered all_below all_of
  gathered-have vs k [] e h l = refl
  gathered-have vs k (i ∷ is) e h l =
      let b = both (ltb i k) (all_below k is) l in
      let g = point_has vs i h (omega (arith, ltb-true i k b.0)) in
      rw (g.0, g.1, g.2) (gathered-have vs k is e h b.1)

  -- it holds of every coordinate of the vertices, and of the corners that the indices name
  pub vertices_have : (cs : List Float) → all_of P cs ≡ true → all_of P (weld_of cs).vertices ≡ true
  unfolding weld_of
  vertices_have cs h = has_to cs (length cs / 3) h (omega arith)

  pub corners_have : (cs : List Float) → all_of P cs ≡ true → all_of P (gathered (weld_of cs).vertices (weld_of cs).indices) ≡ true
  corners_have cs h =
      let c = welded-counts cs in
      gathered-have (weld_of cs).vertices (weld_of cs).count (weld_of cs).indices c.wide (vertices_have cs h) c.low

-- so within the limit, where the corners are
module _ (cs : List Float) (h : coordinates_good cs ≡ true) where
  pub vertices_good : coordinates_good (weld_of cs).vertices ≡ true
  vertices_good = all_good (weld_of cs).vertices ∙ vertices_have coordinate_good cs (sym (all_good cs) ∙ h)

  pub corners_good : coordinates_good (gathered (weld_of cs).vertices (weld_of cs).indices) ≡ true
  corners_good = all_good (gathered (weld_of cs).vertices (weld_of cs).indices) ∙ corners_have coordinate_good cs (sym (all_good cs) ∙ h)
