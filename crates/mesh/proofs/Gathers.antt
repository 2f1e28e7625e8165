-- The coordinates of the corners that indices name, three each: how many, and those of a face.
use mathlib.Core.Path.{◌≡◌, refl, ap, ◌∙◌}
use mathlib.Core.List.{List, [], ◌∷◌}
use Prim.Native.Nat.{ℕ, zero, suc, ◌+◌, ◌*◌, ◌<◌}
use native.Mathlib.Omega.{arith}
use lib.ListN.{length, get_or, take, drop}
use lib.Seq.{drop-cons, drop-nil}
use lib.Ieee.{Float}
use Rattle.path.specs.Laid.{flat}
use Rattle.mesh.specs.Meshes.{corner_at, gathered}

pub length-gathered : (vs : List Float) (is : List ℕ) → length (gathered vs is) ≡ length is * 3
unfolding gathered
length-gathered vs [] = refl
length-gathered vs (i ∷ is) = let e = length-gathered vs is in omega arith

pub drop-gathered : (vs : List Float) (k : ℕ) (is : List ℕ) → drop (3 * k) (gathered vs is) ≡ gathered vs (drop k is)
unfolding gathered
drop-gathered vs zero is = refl
drop-gathered vs (suc k) [] = drop-nil (3 * suc k)
drop-gathered vs (suc k) (i ∷ is) = let e : 3 * suc k ≡ suc (suc (suc (3 * k))) = omega arith in rw e (drop-gathered vs k is)

-- three indices that are there
three-on : (is : List ℕ) (k : ℕ) → k + 2 < length is → drop k is ≡ get_or is k 0 ∷ get_or is (k + 1) 0 ∷ get_or is (k + 2) 0 ∷ drop (suc (k + 2)) is
three-on is k h =
    let a : suc k ≡ k + 1 = omega arith in
    let b : suc (k + 1) ≡ k + 2 = omega arith in
    drop-cons is k 0 (omega arith) ∙ ap (λ (n : ℕ). get_or is k 0 ∷ drop n is) a
    ∙ ap (λ (l : List ℕ). get_or is k 0 ∷ l) (drop-cons is (k + 1) 0 (omega arith) ∙ ap (λ (n : ℕ). get_or is (k + 1) 0 ∷ drop n is) b)
    ∙ ap (λ (l : List ℕ). get_or is k 0 ∷ get_or is (k + 1) 0 ∷ l) (drop-cons is (k + 2) 0 h)

-- nine of them are those of a face
pub face-gathered : (vs : List Float) (is : List ℕ) (f : ℕ) → f * 3 + 2 < length is
    → take 9 (drop (9 * f) (gathered vs is)) ≡ flat (corner_at vs is (f * 3) ∷ corner_at vs is (f * 3 + 1) ∷ corner_at vs is (f * 3 + 2) ∷ [])
unfolding gathered flat
face-gathered vs is f h =
    let e : 9 * f ≡ 3 * (f * 3) = omega arith in
    ap (λ (n : ℕ). take 9 (drop n (gathered vs is))) e ∙ ap (take 9) (drop-gathered vs (f * 3) is ∙ ap (gathered vs) (three-on is (f * 3) h))
