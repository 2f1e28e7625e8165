-- Laws of the notes on a stroke: what they say after one more, and after the notes on both parts.
use mathlib.Core.Path.{◌≡◌, refl, ap}
use mathlib.Core.Bool.{Bool, true, false}
use mathlib.Core.List.{List, [], ◌∷◌, ◌++◌, map, append-nil, append_assoc}
use Prim.Native.Nat.{ℕ, zero, suc, ◌+◌, ◌-◌, ◌≤◌, ◌<◌}
use native.Mathlib.Omega.{arith}
use native.Mathlib.Numerals.{add-one}
use native.Mathlib.Nat.{add-zero}
use lib.ListN.{length, get_or, set, take, drop, length-take, drop_of_length-le}
use lib.Seq.{drop-cons, get_or-take}
use lib.Ieee.{Float}
use Rattle.std.specs.Prelude.{Option, Some, None}
use Rattle.vector.specs.declared.Vector.{Vector}
use Rattle.path_simplify.specs.Simplify.{farthest, splits_at, Thin, nothing, first, parts, thin}
use Rattle.path_simplify.specs.InnerSquares.{split_of}
use Rattle.path_simplify.specs.declared.notes.Notes.{Notes}
use Rattle.refusal.specs.Limits.{most_to_simplify}
use Rattle.path_simplify.specs.InnerNotes.{thin_at, plus}
use Rattle.path.specs.InnerPushes.{put_point, put_points}
use Rattle.path.specs.Courses.{course, advanced}
use Rattle.path_simplify.proofs.Thins.{thin-split, thin-first, first-measured, parts-measured}

-- ---- one note more

map_more : (at : ℕ → Vector) (r : List ℕ) (n i : ℕ) → n < length r → map at (take (suc n) (set r n i)) ≡ map at (take n r) ++ (at i ∷ [])
map_more at [] n i h = absurd (omega arith)
map_more at (x ∷ r) zero i h = refl
map_more at (x ∷ r) (suc n) i h = ap (λ (l : List Vector). at x ∷ l) (map_more at r n i (omega arith))

module _ (at : ℕ → Vector) where
  pub cleared-thin : (k : Notes) → k.distances ≡ 0 → k.count ≡ 0 → thin_at at k ≡ nothing
  unfolding thin_at
  cleared-thin k d n = rw (d, n)

  pub measured-thin : (k k' : Notes) (d : ℕ) → (k'.distances ≡ k.distances + d) × (k'.count ≡ k.count) × (k'.places ≡ k.places)
      → thin_at at k' ≡ plus (thin_at at k) (record { points = []; measured = d })
  unfolding thin_at plus
  measured-thin k k' d e = rw (e.0, e.1, e.2, append-nil (map at (take k.count k.places)))

  pub noted-thin : (k k' : Notes) (i : ℕ) → k.count < most_to_simplify
      → (k'.distances ≡ k.distances) × (k'.count ≡ k.count + 1) × (k'.places ≡ set k.places k.count i)
      → thin_at at k' ≡ plus (thin_at at k) (record { points = at i ∷ []; measured = 0 })
  unfolding thin_at plus
  noted-thin k k' i h e = rw (e.0, e.1, e.2, add-one, map_more at k.places k.count i (omega (arith, k.long)), add-zero k.distances)

  -- the distances noted
  pub plus-measured : (k k' : Notes) (w : Thin) → thin_at at k' ≡ plus (thin_at at k) w → k'.distances ≡ k.distances + w.measured
  unfolding thin_at plus
  plus-measured k k' w e = ap (λ (x : Thin). x.measured) e

-- ---- where it is split, and where not

module _ (t : Float) (at : ℕ → Vector) (lo hi : ℕ) (m : Option ℕ) (h : lo < hi) (e : m ≡ split_of (farthest at lo hi) lo t) where
  pub whole : m ≡ None → thin (hi - lo) t at lo hi ≡ first at lo hi
  unfolding split_of
  whole n = go (splits_at (farthest at lo hi) lo t) refl
    where
      go : (x : Bool) → splits_at (farthest at lo hi) lo t ≡ x → thin (hi - lo) t at lo hi ≡ first at lo hi
      go true a = let c : m ≡ Some (farthest at lo hi).at = rw a at e in let z : ◌≡◌ {A = ℕ} 0 1 = cc in absurd (omega arith)
      go false a = thin-first t at lo hi h (farthest at lo hi) refl a

  pub split : (k : ℕ) → m ≡ Some k → (lo < k) × (k < hi) × (thin (hi - lo) t at lo hi ≡ parts (hi - (lo + 1)) (thin (k - lo) t at lo k) (thin (hi - k) t at k hi))
  unfolding split_of
  split k n = go (splits_at (farthest at lo hi) lo t) refl
    where
      go : (x : Bool) → splits_at (farthest at lo hi) lo t ≡ x
          → (lo < k) × (k < hi) × (thin (hi - lo) t at lo hi ≡ parts (hi - (lo + 1)) (thin (k - lo) t at lo k) (thin (hi - k) t at k hi))
      go true a =
          let c : m ≡ Some (farthest at lo hi).at = rw a at e in
          let d : k ≡ (farthest at lo hi).at = cc in
          let l = thin-split t at lo hi h (farthest at lo hi) refl a in
          rw d (l.0, l.1, l.2)
      go false a = let c : m ≡ None = rw a at e in let z : ◌≡◌ {A = ℕ} 0 1 = cc in absurd (omega arith)

  -- all but the ends are measured
  pub look_least : hi - lo - 1 ≤ (thin (hi - lo) t at lo hi).measured
  look_least = go m refl
    where
      go : (x : Option ℕ) → m ≡ x → hi - lo - 1 ≤ (thin (hi - lo) t at lo hi).measured
      go None n = omega (arith, first-measured at lo hi _ (whole n))
      go (Some k) n = omega (arith, parts-measured _ _ _ _ (split k n).2)

-- ---- the notes on one point, and on both parts

-- measured, then one place noted
pub first-noted : (at : ℕ → Vector) (lo hi : ℕ) (a b c w : Thin) → w ≡ first at lo hi → b ≡ plus a (record { points = []; measured = hi - lo - 1 }) → c ≡ plus b (record { points = at lo ∷ []; measured = 0 }) → c ≡ plus a w
unfolding first plus
first-noted at lo hi a b c w f g k =
    let e : hi - lo - 1 ≡ hi - (lo + 1) = omega arith in
    rw (k, g, f, e, append-nil a.points, add-zero (a.measured + (hi - (lo + 1))))

-- measured, then the left part, then the right
pub parts-noted : (lo hi : ℕ) (a b c d l r w : Thin) → w ≡ parts (hi - (lo + 1)) l r → b ≡ plus a (record { points = []; measured = hi - lo - 1 }) → c ≡ plus b l → d ≡ plus c r → d ≡ plus a w
unfolding parts plus
parts-noted lo hi a b c d l r w f g k n =
    let e : hi - lo - 1 ≡ hi - (lo + 1) = omega arith in
    rw (n, k, g, f, e, append-nil a.points, append_assoc a.points l.points r.points)
    (ap (λ (x : ℕ). record { points = a.points ++ (l.points ++ r.points); measured = x }) (omega arith))

-- nothing more
pub none-noted : (a w : Thin) → w ≡ nothing → a ≡ plus a w
unfolding plus
none-noted a w e = rw (e, append-nil a.points, add-zero a.measured)

-- ---- writing the points at the places noted

module _ (at : ℕ → Vector) (k : List ℕ) (n i o : ℕ) (b : List Float) where
  pub lay_turn : i < n → n ≤ length k → (c : List Float) (v : Vector) → v ≡ at (get_or k i 0) → c ≡ put_point b (o + i) v
      → put_points c (o + (i + 1)) (map at (drop (i + 1) (take n k))) ≡ put_points b (o + i) (map at (drop i (take n k)))
  unfolding put_points
  lay_turn h l c v e f =
      let j : o + (i + 1) ≡ o + i + 1 = omega arith in
      let long : length (take n k) ≡ n = omega (arith, length-take n k) in
      rw (f, e, j, drop-cons (take n k) i 0 (omega (arith, long)), get_or-take n k i 0 h, add-one i)

  pub lay_end : n ≤ i → put_points b (o + i) (map at (drop i (take n k))) ≡ b
  unfolding put_points
  lay_end h = let l : length (take n k) ≤ i = omega (arith, length-take n k) in rw (drop_of_length-le (take n k) l)

module _ (at : ℕ → Vector) (k : Notes) (w : Thin) (e : thin_at at k ≡ w) where
  pub laid-ink : k.count ≡ length w.points → (b c : List Float) (o : ℕ) → c ≡ put_points b o (thin_at at k).points → course c (o + k.count) ≡ advanced put_points (course b o) w.points
  unfolding advanced
  laid-ink n b c o f = rw (f, e, n)

  pub laid-measured : k.distances ≡ w.measured
  unfolding thin_at
  laid-measured = ap (λ (x : Thin). x.measured) e
