-- The loops over coordinates and corners: what the test of one tells of all.
use mathlib.Core.Path.{◌≡◌, refl, sym, ap, ◌∙◌}
use mathlib.Core.Bool.{Bool, true, false, not, ◌&&◌, true≢false}
use mathlib.Core.List.{List, [], ◌∷◌}
use Prim.Native.Nat.{ℕ, zero, suc, ◌+◌, ◌*◌, ◌/◌, ◌≤◌, ◌<◌}
use native.Mathlib.Numerals.{add-one}
use native.Mathlib.Omega.{arith}
use lib.ListN.{length, get_or, drop, drop_of_length-le}
use lib.Seq.{drop-cons}
use lib.Dec.{ltb}
use lib.Ieee.{Float, nan, inf, fin, lt, eq, le, is_nan}
use borrow.Author.Tests.{ltb-true}
use Rattle.vector.specs.declared.Vector.{Vector}
use Rattle.vector.specs.Abs.{abs_of}
use Rattle.single.specs.Singles.{is_single}
use Rattle.path.specs.Strokes.{point_at}
use Rattle.path.specs.Tests.{most_coordinate, within_of, all_within, coordinate_good, coordinates_good}
use Rattle.path.proofs.Tests.{both}
use Rattle.mesh.specs.Meshes.{corner_at, gathered, all_below}
use Rattle.mesh.proofs.Tests.{index_below}
use Rattle.stl.specs.Files.{all_single}

-- a coordinate within its bound is no NaN
pub number_within : (x : Float) → coordinate_good x ≡ true → is_nan x ≡ false
unfolding abs_of lt eq le is_nan
number_within nan h = absurd (true≢false (sym h))
number_within (inf s) h = refl
number_within (fin s m e) h = refl

and_true : (b : Bool) → (b && true) ≡ b
and_true true = refl
and_true false = refl

number_there : (vs : List Float) (k : ℕ) → all_within most_coordinate vs ≡ true → k < length vs → is_nan (get_or vs k nan) ≡ false
number_there [] k h l = absurd (omega arith)
number_there (x ∷ xs) zero h l = number_within x (both (within_of most_coordinate x) (all_within most_coordinate xs) h).0
number_there (x ∷ xs) (suc k) h l = number_there xs k (both (within_of most_coordinate x) (all_within most_coordinate xs) h).1 (omega arith)

-- the coordinates from the i-th on: the i-th, then those after it; b is what the test of it says
module _ (vs : List Float) (i : ℕ) (good : coordinates_good vs ≡ true) (h : i < length vs) (b : Bool) (t : b ≡ is_single (get_or vs i nan)) where
  number_turn : all_single (drop i vs) ≡ (b && all_single (drop (i + 1) vs))
  unfolding coordinates_good all_single
  number_turn = rw (drop-cons vs i nan h, add-one, number_there vs i good h, t) (ap (λ (x : Bool). x && all_single (drop (suc i) vs)) (and_true (is_single (get_or vs i nan))))

  pub number_wide : b ≡ false → false ≡ all_single (drop i vs)
  number_wide z = sym (number_turn ∙ ap (λ (x : Bool). x && all_single (drop (i + 1) vs)) z)

  pub number_held : b ≡ true → all_single (drop (i + 1) vs) ≡ all_single (drop i vs)
  number_held z = sym (number_turn ∙ ap (λ (x : Bool). x && all_single (drop (i + 1) vs)) z)

pub number_end : (vs : List Float) (i : ℕ) → length vs ≤ i → all_single (drop i vs) ≡ true
unfolding all_single
number_end vs i h = rw (drop_of_length-le vs h)

-- three coordinates, none of them NaN, before others
three-more : (a b c r : Bool) → ((a && true) && ((b && true) && ((c && true) && r))) ≡ (((a && b) && c) && r)
three-more true true true r = refl
three-more true true false r = refl
three-more true false c r = refl
three-more false b c r = refl

held_more : (v : Vector) (cs : List Float) → is_nan v.x ≡ false → is_nan v.y ≡ false → is_nan v.z ≡ false
    → all_single (v.x ∷ v.y ∷ v.z ∷ cs) ≡ ((is_single v.x && is_single v.y && is_single v.z) && all_single cs)
unfolding all_single
held_more v cs a b c = rw (a, b, c) (three-more (is_single v.x) (is_single v.y) (is_single v.z) (all_single cs))

-- the corners from the k-th on: the k-th, v, then those after it; b is what the test of it says
module _ (vs : List Float) (is : List ℕ) (k : ℕ) (good : coordinates_good vs ≡ true) (below : all_below (length vs / 3) is ≡ true) (h : k < length is)
    (v : Vector) (b : Bool) (e : v ≡ corner_at vs is k) (t : b ≡ (is_single v.x && is_single v.y && is_single v.z)) where
  corner_turn : all_single (gathered vs (drop k is)) ≡ (b && all_single (gathered vs (drop (k + 1) is)))
  unfolding gathered coordinates_good point_at
  corner_turn =
      let i = get_or is k 0 in
      let l = index_below (length vs / 3) is k below h in
      let s : suc k ≡ k + 1 = omega arith in
      let rest = gathered vs (drop (k + 1) is) in
      ap (λ (js : List ℕ). all_single (gathered vs js)) (drop-cons is k 0 h ∙ ap (λ (n : ℕ). i ∷ drop n is) s)
      ∙ held_more (point_at vs i) rest (number_there vs (i * 3) good (omega arith)) (number_there vs (i * 3 + 1) good (omega arith)) (number_there vs (i * 3 + 2) good (omega arith))
      ∙ ap (λ (w : Vector). (is_single w.x && is_single w.y && is_single w.z) && all_single rest) (sym e) ∙ ap (λ (x : Bool). x && all_single rest) (sym t)

  pub corner_wide : b ≡ false → false ≡ all_single (gathered vs (drop k is))
  corner_wide z = sym (corner_turn ∙ ap (λ (x : Bool). x && all_single (gathered vs (drop (k + 1) is))) z)

  pub corner_held : b ≡ true → all_single (gathered vs (drop (k + 1) is)) ≡ all_single (gathered vs (drop k is))
  corner_held z = sym (corner_turn ∙ ap (λ (x : Bool). x && all_single (gathered vs (drop (k + 1) is))) z)

pub corner_end : (vs : List Float) (is : List ℕ) (k : ℕ) → length is ≤ k → all_single (gathered vs (drop k is)) ≡ true
unfolding gathered all_single
corner_end vs is k h = rw (drop_of_length-le is h)

-- where all coordinates are exactly f32, those of every corner are
held_at : (vs : List Float) (k : ℕ) → all_single vs ≡ true → k < length vs → (is_single (get_or vs k nan) && not (is_nan (get_or vs k nan))) ≡ true
unfolding all_single
held_at [] k h l = absurd (omega arith)
held_at (x ∷ xs) zero h l = (both (is_single x && not (is_nan x)) (all_single xs) h).0
held_at (x ∷ xs) (suc k) h l = held_at xs k (both (is_single x && not (is_nan x)) (all_single xs) h).1 (omega arith)

pub all_held : (vs : List Float) (is : List ℕ) → all_single vs ≡ true → all_below (length vs / 3) is ≡ true → all_single (gathered vs is) ≡ true
unfolding gathered all_single all_below point_at
all_held vs [] h below = refl
all_held vs (i ∷ is) h below =
    let t = both (ltb i (length vs / 3)) (all_below (length vs / 3) is) below in
    let l = ltb-true i (length vs / 3) t.0 in
    rw (held_at vs (i * 3) h (omega arith), held_at vs (i * 3 + 1) h (omega arith), held_at vs (i * 3 + 2) h (omega arith)) (all_held vs is h t.1)
