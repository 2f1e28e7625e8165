-- How points and how numbers lie in a lent list.
use mathlib.Core.Path.{◌≡◌, refl, ◌∙◌}
use mathlib.Core.List.{List, [], ◌∷◌, ◌++◌}
use Prim.Native.Nat.{ℕ, suc, ◌+◌, ◌*◌, ◌≤◌}
use native.Mathlib.Omega.{arith}
use native.Mathlib.Nat.{add-zero}
use lib.ListN.{length, get_or, set, get_or-eq_default}
use lib.Seq.{sets, set_out}
use lib.Ieee.{Float, nan}
use Rattle.vector.specs.declared.Vector.{Vector}
use Rattle.path.specs.Strokes.{point_at}
use Rattle.path.specs.Laid.{flat}
use Rattle.path.specs.InnerPushes.{put_point, put_points}
use Rattle.path.specs.Courses.{course, advanced}
use Rattle.path.proofs.Pushes.{Lays, over-sets}

-- past the end there is nothing to read, and nothing is stored
pub point_at-out : (ps : List Float) (i : ℕ) → length ps ≤ i → point_at ps i ≡ record { x = nan; y = nan; z = nan }
unfolding point_at
point_at-out ps i h =
    let x : get_or ps (i * 3) nan ≡ nan = get_or-eq_default ps nan (omega arith) in
    let y : get_or ps (i * 3 + 1) nan ≡ nan = get_or-eq_default ps nan (omega arith) in
    let z : get_or ps (i * 3 + 2) nan ≡ nan = get_or-eq_default ps nan (omega arith) in
    rw (x, y, z)

pub put_point-out : (l : List Float) (i : ℕ) (v : Vector) → length l ≤ i → put_point l i v ≡ l
unfolding put_point
put_point-out l i v h = rw (set_out l (i * 3) v.x (omega arith), set_out l (i * 3 + 1) v.y (omega arith), set_out l (i * 3 + 2) v.z (omega arith))

put-append : (l : List Float) (i : ℕ) (a b : List Vector) → put_points (put_points l i a) (i + length a) b ≡ put_points l i (a ++ b)
unfolding put_points
put-append l i [] b = rw add-zero
put-append l i (v ∷ vs) b = let e : i + suc (length vs) ≡ i + 1 + length vs = omega arith in rw e (put-append (put_point l i v) (i + 1) vs b)

-- points put one after the other are their numbers stored one after the other
put-sets : (l : List Float) (i : ℕ) (vs : List Vector) → put_points l i vs ≡ sets l (i * 3) (flat vs)
unfolding put_points put_point flat
put-sets l i [] = refl
put-sets l i (v ∷ vs) =
    let a : i * 3 + 1 ≡ suc (i * 3) = omega arith in
    let b : i * 3 + 2 ≡ suc (suc (i * 3)) = omega arith in
    let d : (i + 1) * 3 ≡ suc (suc (suc (i * 3))) = omega arith in
    rw (a, b) (rw (d, a, b) at (put-sets (put_point l i v) (i + 1) vs))

length-flat : (vs : List Vector) → length (flat vs) ≡ length vs * 3
unfolding flat
length-flat [] = refl
length-flat (v ∷ vs) = let e = length-flat vs in omega arith

pub points_lie : Lays put_points flat 3
unfolding put_points
points_lie = record { none = λ l i. refl; more = put-append; fore = λ l new h. put-sets l 0 new ∙ over-sets l (flat new) (omega (arith, length-flat new)) }

sets-append : {A : Type 0} (l : List A) (i : ℕ) (a b : List A) → sets (sets l i a) (i + length a) b ≡ sets l i (a ++ b)
sets-append l i [] b = rw add-zero
sets-append l i (x ∷ xs) b = let e : i + suc (length xs) ≡ suc i + length xs = omega arith in rw e (sets-append (set l i x) (suc i) xs b)

-- numbers lie as they are
pub numbers-lie : Lays (sets {A = ℕ}) (λ ns. ns) 1
numbers-lie = record { none = λ l i. refl; more = sets-append; fore = λ l new h. over-sets l new (omega arith) }

-- one point more, written before the others
pub ink_more : (b : List Float) (i : ℕ) (v : Vector) (vs : List Vector) → advanced put_points (course (put_point b i v) (i + 1)) vs ≡ advanced put_points (course b i) (v ∷ vs)
unfolding advanced put_points
ink_more b i v vs = let e : i + suc (length vs) ≡ i + 1 + length vs = omega arith in rw e
