-- Equal coordinates lie in one cell, -0 and 0 too.
use mathlib.Core.Path.{◌≡◌, refl, sym, ap, ◌∙◌}
use mathlib.Core.Bool.{Bool, true, false, ◌&&◌, ◌||◌, beq, true≢false}
use Prim.Native.Nat.{ℕ, zero, suc, ◌+◌, ◌-◌, ◌*◌, ◌^◌, ◌<◌}
use native.Mathlib.Omega.{arith}
use native.Mathlib.Nat.{mul_comm, mul-mul-mul_comm, mul-pos}
use lib.Dec.{eqb}
use lib.IntN.{ℤ, pos, negsuc}
use lib.Ieee.{Float, nan, inf, fin, binary64, up, down, unlike, span, climb, size, odd, units, round, div, eq, of_fields, of_bits}
use lib.Ieee.Fits.{down_pos}
use lib.Ieee.Scale.{round_same}
use borrow.Author.Tests.{eqb-true, le-leb}
use Rattle.vector.specs.declared.Vector.{Vector}
use Rattle.vector.specs.Vectors.{equal_of}
use Rattle.vector.specs.Floor.{floor_of}
use Rattle.mesh_weld.specs.declared.Cube.{Cube}
use Rattle.mesh_weld.specs.Weld.{cell, side}
use Rattle.mesh_weld.specs.InnerTable.{count, key, cube_of, place_of, rank_of}
use Rattle.mesh_weld.proofs.Cells.{whole}

-- the cell of a finite coordinate
pub side-is : side ≡ fin false 4722366482869645 (negsuc 71)
unfolding of_bits of_fields odd
side-is = refl

cell-is : (s : Bool) (m : ℕ) (e : ℤ) → cell (fin s m e) ≡ whole (floor_of (round binary64 (unlike s false) (m * up e * 2 ^ 72) (4722366482869645 * 1 * down e)))
unfolding cell div
cell-is s m e = rw side-is

share_pos : (e : ℤ) → 0 < 4722366482869645 * 1 * down e
share_pos e = mul-pos (omega arith) (down_pos e)

cross : (u w p q r k : ℕ) → u * q ≡ w * p → u * r * (k * q) ≡ w * r * (k * p)
cross u w p q r k h =
    ap (λ (z : ℕ). u * r * z) (mul_comm k q) ∙ mul-mul-mul_comm u r q k ∙ ap (λ (z : ℕ). z * (r * k)) h ∙ mul-mul-mul_comm w p r k
    ∙ ap (λ (z : ℕ). w * r * z) (mul_comm p k)

-- a zero of either sign is in cell 0
zero_round : (s : Bool) → whole (floor_of (round binary64 (unlike s false) 0 1)) ≡ pos 0
unfolding floor_of round size span climb units odd
zero_round true = refl
zero_round false = refl

zero_cell : (s : Bool) (m : ℕ) (e : ℤ) → m * up e ≡ 0 → cell (fin s m e) ≡ pos 0
zero_cell s m e h =
    cell-is s m e
    ∙ ap (λ (x : Float). whole (floor_of x)) (round_same binary64 (unlike s false) (m * up e * 2 ^ 72) (4722366482869645 * 1 * down e) 0 1 (share_pos e) (omega arith) (omega (arith, ap (λ (z : ℕ). z * 2 ^ 72) h)))
    ∙ zero_round s

zero_of : (u q : ℕ) → 0 < q → u * q ≡ 0 → u ≡ 0
zero_of zero q l h = refl
zero_of (suc u) q l h = let z : 0 < suc u * q = mul-pos (omega arith) l in absurd (omega arith)

both : (a b : Bool) → a && b ≡ true → (a ≡ true) × (b ≡ true)
both true b h = (refl, h)
both false b h = (h, absurd (true≢false (sym h)))

module _ (m : ℕ) (e : ℤ) (n : ℕ) (d : ℤ) (h : m * up e * down d ≡ n * up d * down e) where
  by_sign : (s : Bool) → cell (fin s m e) ≡ cell (fin s n d)
  by_sign s =
      cell-is s m e
      ∙ ap (λ (x : Float). whole (floor_of x))
      (round_same binary64 (unlike s false) (m * up e * 2 ^ 72) (4722366482869645 * 1 * down e) (n * up d * 2 ^ 72) (4722366482869645 * 1 * down d) (share_pos e) (share_pos d)
      (cross (m * up e) (n * up d) (down e) (down d) (2 ^ 72) (4722366482869645 * 1) h))
      ∙ sym (cell-is s n d)

  by_zero : (s t : Bool) → m * up e * down d ≡ 0 → cell (fin s m e) ≡ cell (fin t n d)
  by_zero s t z =
      zero_cell s m e (zero_of (m * up e) (down d) (down_pos d) z) ∙ sym (zero_cell t n d (zero_of (n * up d) (down e) (down_pos e) (sym h ∙ z)))

  by_level : (s t : Bool) → (beq s t || eqb (m * up e * down d) 0) ≡ true → cell (fin s m e) ≡ cell (fin t n d)
  by_level true true o = by_sign true
  by_level false false o = by_sign false
  by_level true false o = by_zero true false (eqb-true _ 0 o)
  by_level false true o = by_zero false true (eqb-true _ 0 o)

same-inf : (s t : Bool) → beq s t ≡ true → cell (inf s) ≡ cell (inf t)
same-inf true true h = refl
same-inf false false h = refl
same-inf true false h = absurd (true≢false (sym h))
same-inf false true h = absurd (true≢false (sym h))

pub same-cell : (x y : Float) → eq x y ≡ true → cell x ≡ cell y
unfolding eq
same-cell nan y h = absurd (true≢false (sym h))
same-cell (inf s) nan h = absurd (true≢false (sym h))
same-cell (inf s) (inf t) h = same-inf s t h
same-cell (inf s) (fin t n d) h = absurd (true≢false (sym h))
same-cell (fin s m e) nan h = absurd (true≢false (sym h))
same-cell (fin s m e) (inf t) h = absurd (true≢false (sym h))
same-cell (fin s m e) (fin t n d) h =
    let b = both (eqb (m * up e * down d) (n * up d * down e)) (beq s t || eqb (m * up e * down d) 0) h in
    by_level m e n d (eqb-true _ _ b.0) s t b.1

-- so the place of an equal vertex's cell among the 27 is the middle one
midst : (w x : ℕ) → w ≡ x → place_of w x ≡ 1
unfolding place_of
midst w x e =
    let one : w + 1 - x ≡ 1 = omega arith in
    rw (le-leb x (w + 1) (omega arith), le-leb w (x + 1) (omega arith), one)

module _ (p : Vector) (c : Cube) (v : Vector) (e : c ≡ cube_of p) (h : equal_of p v ≡ true) where
  pub rank_of_equal : rank_of c v ≡ 13
  unfolding equal_of rank_of cube_of key
  rank_of_equal =
      let a = both (eq p.x v.x) (eq p.y v.y && eq p.z v.z) h in
      let b = both (eq p.y v.y) (eq p.z v.z) a.1 in
      let x : key v.x ≡ c.x = sym (ap (λ (q : Cube). q.x) e ∙ ap count (same-cell p.x v.x a.0)) in
      let y : key v.y ≡ c.y = sym (ap (λ (q : Cube). q.y) e ∙ ap count (same-cell p.y v.y b.0)) in
      let z : key v.z ≡ c.z = sym (ap (λ (q : Cube). q.z) e ∙ ap count (same-cell p.z v.z b.1)) in
      rw (midst (key v.x) c.x x, midst (key v.y) c.y y, midst (key v.z) c.z z)
