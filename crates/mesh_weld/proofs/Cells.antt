-- Cells as numbers that are counted up.
use mathlib.Core.Path.{subst, ◌≡◌, refl, sym, ap, ◌∙◌}
use mathlib.Core.Bool.{Bool, true, false, cond}
use Prim.Native.Nat.{ℕ, zero, suc, ◌+◌, ◌-◌, ◌*◌, ◌/◌, ◌^◌, ◌≤◌, ◌<◌}
use native.Mathlib.Omega.{arith}
use native.Mathlib.Nat.{div-lt_iff_lt-mul, le_of_lt, mul-lt-mul_of_pos_right}
use lib.Dec.{ltb, eqb}
use lib.IntN.{ℤ, pos, negsuc, neg_ℤ, nat_abs, suc_ℤ, pred_ℤ, ◌+ℤ◌}
use lib.Ieee.{Float, nan, inf, fin, up, down, binary64, div}
use lib.Ieee.Fits.{down_pos}
use mir.Syntax.{w64}
use mir.Val.{SFits, to_z, of_z}
use mir.ValLaws.{to_z-of_z}
use borrow.Author.Tests.{le-ltb, eq-eqb, ne_eqb, eqb-true, eqb-false, ltb-true}
use Rattle.vector.specs.declared.Vector.{Vector}
use mathlib.Core.List.{[], ◌∷◌}
use lib.ListN.{get_or}
use Rattle.refusal.specs.Said.{Said, accepted, refused}
use Rattle.refusal.specs.declared.Refusal.TheVariants.{Number}
use Rattle.vector.specs.Floor.{floor_of, whole_below}
use Rattle.mesh_weld.specs.Weld.{cell, same, side}
use Rattle.mesh_weld.specs.declared.Cube.{Cube}
use Rattle.mesh_weld.specs.InnerTable.{count, key, cube_of, Counted}

pub plus : (z : ℤ) → nat_abs z ≤ 2 ^ 53 → z +ℤ pos (2 ^ 54) ≡ pos (count z)
unfolding count
plus (pos n) h = ap pos (omega arith)
plus (negsuc n) h =
    let l : ltb (2 ^ 54) (suc n) ≡ false = le-ltb (2 ^ 54) (suc n) (omega arith) in
    rw l (ap pos (omega arith))

pub count-pos : (z : ℤ) → nat_abs z ≤ 2 ^ 53 → 0 < count z
unfolding count
count-pos (pos n) h = omega arith
count-pos (negsuc n) h = omega arith

pub count-lt : (z : ℤ) → nat_abs z ≤ 2 ^ 53 → count z < 2 ^ 55
unfolding count
count-lt (pos n) h = omega arith
count-lt (negsuc n) h = omega arith

pub plus-fits : (z : ℤ) → nat_abs z ≤ 2 ^ 53 → SFits w64 (z +ℤ pos (2 ^ 54))
plus-fits z h = rw (plus z h) (record { sfits = omega (arith, count-lt z h) })

-- a floor is at most 2 ^ 53
neg_abs : (q : ℕ) → nat_abs (neg_ℤ (pos q)) ≡ q
neg_abs zero = refl
neg_abs (suc q) = refl

below-le : (s : Bool) (a d : ℕ) → 0 < d → a < 2 ^ 53 * d → nat_abs (whole_below s a d) ≤ 2 ^ 53
below-le false a d dp h = le_of_lt ((div-lt_iff_lt-mul dp).1 h)
below-le true a d dp h =
    let k : (a + (d - 1)) / d < 2 ^ 53 + 1 = (div-lt_iff_lt-mul dp).1 (omega arith) in
    rw neg_abs (omega arith)

-- the whole number of a floor, 0 where it is refused
abbrev pub whole : Said ℤ → ℤ
whole r = get_or r.values 0 (pos 0)

pub whole_le : (x : Float) → nat_abs (whole (floor_of x)) ≤ 2 ^ 53
unfolding floor_of
whole_le nan = omega arith
whole_le (inf s) = omega arith
whole_le (fin s m e) = go (ltb (m * up e) (2 ^ 53 * down e)) refl
  where
    go : (t : Bool) → ltb (m * up e) (2 ^ 53 * down e) ≡ t → nat_abs (whole (cond t (accepted (whole_below s (m * up e) (down e) ∷ [])) (refused Number))) ≤ 2 ^ 53
    go true t = below-le s (m * up e) (down e) (down_pos e) (ltb-true _ _ t)
    go false t = omega arith

pub cell-le : (x : Float) → nat_abs (cell x) ≤ 2 ^ 53
unfolding cell
cell-le x = whole_le (div binary64 x side)

-- the next cell, and the one before
pub count-suc : (z : ℤ) → nat_abs z ≤ 2 ^ 53 → count (suc_ℤ z) ≡ count z + 1
unfolding count
count-suc (pos n) h = omega arith
count-suc (negsuc zero) h = refl
count-suc (negsuc (suc n)) h = omega arith

pub count-pred : (z : ℤ) → nat_abs z ≤ 2 ^ 53 → count (pred_ℤ z) ≡ count z - 1
unfolding count
count-pred (pos zero) h = refl
count-pred (pos (suc n)) h = omega arith
count-pred (negsuc n) h = omega arith

abs_suc : (z : ℤ) → nat_abs (suc_ℤ z) ≤ nat_abs z + 1
abs_suc (pos n) = omega arith
abs_suc (negsuc zero) = omega arith
abs_suc (negsuc (suc n)) = omega arith

abs_pred : (z : ℤ) → nat_abs (pred_ℤ z) ≤ nat_abs z + 1
abs_pred (pos zero) = omega arith
abs_pred (pos (suc n)) = omega arith
abs_pred (negsuc n) = omega arith

pub same_test : (a b c d : ℕ) → (a ≡ b → c ≡ d) → (c ≡ d → a ≡ b) → eqb a b ≡ eqb c d
same_test a b c d f g = go (eqb a b) refl
  where
    go : (t : Bool) → eqb a b ≡ t → eqb a b ≡ eqb c d
    go true t = rw (t, eq-eqb c d (f (eqb-true a b t)))
    go false t = rw (t, ne_eqb c d (λ e. eqb-false a b t (g e)))

-- cells are the same where their counts are
pub same_count : (a b : ℤ) → nat_abs a ≤ 2 ^ 53 + 1 → nat_abs b ≤ 2 ^ 53 + 1 → same a b ≡ eqb (count a) (count b)
unfolding same count
same_count (pos m) (pos n) h k = same_test m n (2 ^ 54 + m) (2 ^ 54 + n) (λ e. omega arith) (λ e. omega arith)
same_count (pos m) (negsuc n) h k = sym (ne_eqb (2 ^ 54 + m) (2 ^ 54 - 1 - n) (λ e. omega arith))
same_count (negsuc m) (pos n) h k = sym (ne_eqb (2 ^ 54 - 1 - m) (2 ^ 54 + n) (λ e. omega arith))
same_count (negsuc m) (negsuc n) h k = same_test m n (2 ^ 54 - 1 - m) (2 ^ 54 - 1 - n) (λ e. omega arith) (λ e. omega arith)

-- a cell within one of a coordinate's
pub record Within (z : ℤ) (x : Float) : Type 0 where
  pub le : nat_abs z ≤ 2 ^ 53 + 1

pub within-pred : (x : Float) → nat_abs (pred_ℤ (cell x)) ≤ 2 ^ 53 + 1
within-pred x = omega (arith, cell-le x, abs_pred (cell x))

pub within-suc : (x : Float) → nat_abs (suc_ℤ (cell x)) ≤ 2 ^ 53 + 1
within-suc x = omega (arith, cell-le x, abs_suc (cell x))

pub same_key : (x : Float) (b : ℤ) → nat_abs b ≤ 2 ^ 53 + 1 → same (cell x) b ≡ eqb (key x) (count b)
unfolding key
same_key x b k = same_count (cell x) b (omega (arith, cell-le x)) k

pub key-pos : (x : Float) → 0 < key x
unfolding key
key-pos x = count-pos (cell x) (cell-le x)

pub key-lt : (x : Float) → key x < 2 ^ 55
unfolding key
key-lt x = count-lt (cell x) (cell-le x)

-- what the machine reads back
pub read : (z : ℤ) → nat_abs z ≤ 2 ^ 53 → to_z w64 (of_z w64 z) ≡ z
read (pos n) h = to_z-of_z w64 (pos n) (record { sfits = omega arith })
read (negsuc n) h = to_z-of_z w64 (negsuc n) (record { sfits = omega arith })

pub back : (z : ℤ) → nat_abs z ≤ 2 ^ 53 → to_z w64 (of_z w64 (z +ℤ pos (2 ^ 54))) ≡ pos (count z)
back z h = to_z-of_z w64 (z +ℤ pos (2 ^ 54)) (plus-fits z h) ∙ plus z h

-- a bucket
pub bucket_fits : (t m : ℕ) → t < 4294967296 → 0 < m → m < 2 ^ 20 → t * m < 2 ^ 64
bucket_fits t m h p l = let k : t * m < 4294967296 * m = mul-lt-mul_of_pos_right h p in omega arith

pub bucket_lt : (t m : ℕ) → t < 4294967296 → 0 < m → t * m / 4294967296 < m
bucket_lt t m h p = let k : t * m < 4294967296 * m = mul-lt-mul_of_pos_right h p in
    let z : 0 < 4294967296 = omega arith in
    let l : t * m < m * 4294967296 = omega arith in
    (div-lt_iff_lt-mul z).1 l

-- the cell that a floor's answer tells
pub cell-told : (x : Float) (r : Said ℤ) → r ≡ floor_of (div binary64 x side) → whole r ≡ cell x
unfolding cell
cell-told x r e = ap whole e

pub cube-counted : (p : Vector) → Counted (cube_of p)
unfolding cube_of
cube-counted p = record { x_low = key-pos p.x; x_high = key-lt p.x; y_low = key-pos p.y; y_high = key-lt p.y; z_low = key-pos p.z; z_high = key-lt p.z }

pub counted-at : (p : Vector) {c : Cube} → c ≡ cube_of p → Counted c
counted-at p e = subst Counted (sym e) (cube-counted p)
