-- Corner by corner through the coordinates of a file.
use mathlib.Core.Path.{◌≡◌, ap, ◌∙◌}
use mathlib.Core.List.{List}
use Prim.Native.Nat.{ℕ, ◌+◌, ◌*◌, ◌/◌, ◌%◌, ◌<◌}
use native.Mathlib.Omega.{arith}
use lib.ListN.{length, get_or}
use lib.Ieee.{Float, nan}
use Rattle.vector.specs.declared.Vector.{Vector}
use Rattle.path.specs.Strokes.{point_at}
use Rattle.path.proofs.Gathers.{length-gather, gather-at}
use Rattle.stl.specs.Files.{faces_from, face_bytes, point_bytes, face_numbers, place_of, faces_in, coordinate_in, corner_in, coordinates_in}

pub length-coordinates : (bs : List ℕ) → length (coordinates_in bs) ≡ face_numbers * faces_in bs
unfolding coordinates_in
length-coordinates bs = length-gather (coordinate_in bs) 0 (face_numbers * faces_in bs)

coordinate_at : (bs : List ℕ) (k : ℕ) → k < face_numbers * faces_in bs → coordinate_in bs k ≡ get_or (coordinates_in bs) k nan
unfolding coordinates_in
coordinate_at bs k h =
    let e : k ≡ 0 + k = omega arith in
    ap (coordinate_in bs) e ∙ gather-at (coordinate_in bs) 0 (face_numbers * faces_in bs) k nan h

pub same_point_lem : {x y z a b c : Float} → x ≡ a → y ≡ b → z ≡ c → ◌≡◌ {A = Vector} (record { x = x; y = y; z = z }) (record { x = a; y = b; z = c })
same_point_lem p q r = λ i. record { x = p i; y = q i; z = r i }

nine : (n q r : ℕ) → n ≡ 9 * q + r → r < 9 → (n / 9 ≡ q) × (n % 9 ≡ r)
nine n q r e h = (omega arith, omega arith)

-- where coordinate j of corner i stands
pub place : (i j : ℕ) → j < 3 → faces_from + face_bytes * (i / 3) + point_bytes + point_bytes * (i % 3) + 4 * j ≡ place_of (i * 3 + j)
place i j h =
    let d = nine (i * 3 + j) (i / 3) (3 * (i % 3) + j) (omega arith) (omega arith) in
    let e = d.0 in
    let f = d.1 in
    omega (arith, e, f)

-- the corner that is read is the point that its coordinates are
pub corner_point : (bs : List ℕ) (i : ℕ) → i < 3 * faces_in bs → corner_in bs i ≡ point_at (coordinates_in bs) i
unfolding point_at
corner_point bs i h = same_point_lem (coordinate_at bs (i * 3) (omega arith)) (coordinate_at bs (i * 3 + 1) (omega arith)) (coordinate_at bs (i * 3 + 2) (omega arith))
