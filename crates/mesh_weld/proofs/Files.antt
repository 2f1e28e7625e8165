-- What reading tests and welds, by the coordinates of the file.
use Rattle.std.specs.Prelude.{Ok}
use mathlib.Core.Path.{◌≡◌, refl, ap, ◌∙◌}
use mathlib.Core.Bool.{Bool, true, false, ◌&&◌}
use mathlib.Core.List.{List}
use Prim.Native.Nat.{ℕ, suc, ◌+◌, ◌*◌, ◌-◌, ◌/◌, ◌%◌, ◌≤◌, ◌<◌}
use native.Mathlib.Omega.{arith}
use lib.ListN.{length}
use lib.Dec.{leb}
use Rattle.refusal.specs.Limits.{most_faces}
use Rattle.refusal.specs.declared.Refusal.TheVariants.{Count, Number}
use Rattle.refusal.specs.Refusals.{unless}
use Rattle.path.specs.Strokes.{gather}
use Rattle.path.specs.Tests.{most_coordinate, within_of, all_within, coordinates_good}
use Rattle.path.proofs.Tests.{passed}
use Rattle.stl.specs.Files.{face_numbers, faces_in, is_stl, coordinate_in, corner_good, coordinates_in}
use Rattle.stl.proofs.Corners.{length-coordinates}
use Rattle.mesh_weld.specs.Call.{lent_verdict, verdict_of}
use Rattle.mesh_weld.specs.Read.{read_verdict}

-- ---- the test of the corners

-- those from corner i on, of n
abbrev pub good_from : List ℕ → ℕ → ℕ → Bool
good_from bs i n = all_within most_coordinate (gather (coordinate_in bs) (i * 3) ((n - i) * 3))

three : (a b c r : Bool) → a && (b && (c && r)) ≡ (a && b && c) && r
three true true c r = refl
three true false c r = refl
three false b c r = refl

pub good_turn : (bs : List ℕ) (i n : ℕ) → i < n → good_from bs i n ≡ corner_good bs i && good_from bs (i + 1) n
unfolding gather corner_good
good_turn bs i n h =
    let e : (n - i) * 3 ≡ suc (suc (suc ((n - (i + 1)) * 3))) = omega arith in
    let two : i * 3 + 1 + 1 ≡ i * 3 + 2 = omega arith in
    let next : i * 3 + 1 + 1 + 1 ≡ (i + 1) * 3 = omega arith in
    ap (λ (k : ℕ). all_within most_coordinate (gather (coordinate_in bs) (i * 3) k)) e
    ∙ ap (λ (k : ℕ). within_of most_coordinate (coordinate_in bs (i * 3)) && (within_of most_coordinate (coordinate_in bs (i * 3 + 1)) && (within_of most_coordinate (coordinate_in bs k) && all_within most_coordinate (gather (coordinate_in bs) (i * 3 + 1 + 1 + 1) ((n - (i + 1)) * 3))))) two
    ∙ ap (λ (k : ℕ). within_of most_coordinate (coordinate_in bs (i * 3)) && (within_of most_coordinate (coordinate_in bs (i * 3 + 1)) && (within_of most_coordinate (coordinate_in bs (i * 3 + 2)) && all_within most_coordinate (gather (coordinate_in bs) k ((n - (i + 1)) * 3))))) next
    ∙ three (within_of most_coordinate (coordinate_in bs (i * 3))) (within_of most_coordinate (coordinate_in bs (i * 3 + 1))) (within_of most_coordinate (coordinate_in bs (i * 3 + 2))) (good_from bs (i + 1) n)

pub good-end : (bs : List ℕ) (i n : ℕ) → n ≤ i → good_from bs i n ≡ true
unfolding gather
good-end bs i n h = let e : (n - i) * 3 ≡ 0 = omega arith in ap (λ (k : ℕ). all_within most_coordinate (gather (coordinate_in bs) (i * 3) k)) e

pub good-all : (bs : List ℕ) (n : ℕ) → n ≡ 3 * faces_in bs → good_from bs 0 n ≡ coordinates_good (coordinates_in bs)
unfolding coordinates_good coordinates_in
good-all bs n h = let e : (n - 0) * 3 ≡ face_numbers * faces_in bs = omega arith in ap (λ (k : ℕ). all_within most_coordinate (gather (coordinate_in bs) 0 k)) e

-- ---- the verdict, by the count of faces

pub verdict_by_faces : (bs : List ℕ) (words room numbers : ℕ) → verdict_of (coordinates_in bs) words room numbers
    ≡ unless (leb (faces_in bs) most_faces) Count
    (unless (coordinates_good (coordinates_in bs)) Number
    (lent_verdict (faces_in bs) words room numbers))
unfolding verdict_of unless
verdict_by_faces bs words room numbers =
    let l = length-coordinates bs in
    let r : length (coordinates_in bs) % 9 ≡ 0 = omega (arith, l) in
    let q : length (coordinates_in bs) / 9 ≡ faces_in bs = omega (arith, l) in
    rw (r, q)

-- by a count that was read
pub read_by : (bs : List ℕ) (words room numbers f : ℕ) → f ≡ faces_in bs → is_stl bs ≡ true → read_verdict bs words room numbers
    ≡ unless (leb f most_faces) Count
    (unless (coordinates_good (coordinates_in bs)) Number
    (lent_verdict f words room numbers))
unfolding read_verdict unless
read_by bs words room numbers f e z = rw (z, e) (verdict_by_faces bs words room numbers)

-- ---- what an accepted reading has been tested for

pub read_fitting : (bs : List ℕ) (words room numbers : ℕ) → read_verdict bs words room numbers ≡ (Ok tt) → verdict_of (coordinates_in bs) words room numbers ≡ (Ok tt)
unfolding read_verdict
read_fitting bs words room numbers h = (passed _ _ _ h).1
