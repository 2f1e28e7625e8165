-- No coordinate of a segment's points is -0: a number that compares equal to 0 becomes 0.
use mathlib.Core.Path.{◌≡◌}
use mathlib.Core.Bool.{Bool, true, false, cond}
use mathlib.Core.List.{List, [], ◌∷◌, map}
use Prim.Native.Nat.{zero, suc}
use native.Mathlib.Nat.{zero-mul, zero-lt-suc}
use lib.Dec.{T, lt→ltb}
use lib.IntN.{ℤ}
use lib.Ieee.{Float, nan, inf, fin, up, down, of_bits, eq}
use Rattle.refusal.specs.Each.{Each}
use Rattle.vector.specs.declared.Vector.{Vector}
use Rattle.vector.specs.Lengths.{zero64}
use Rattle.mesh_contour_rule.specs.declared.Corner.{Corner}
use Rattle.mesh_contour_rule.specs.Contour.{gives_by, met, unsigned, unsigned_point, segment_by}
use Rattle.mesh_contour_rule.specs.Numbers.{no_minus_zero, Coordinates}

pub zero_found : (s : Bool) (e : ℤ) → eq (fin s zero e) zero64 ≡ true
unfolding of_bits eq
zero_found true e = rw (zero-mul (up e), zero-mul (down e))
zero_found false e = rw (zero-mul (up e), zero-mul (down e))

unsigned-zero : (x : Float) → T (no_minus_zero (unsigned x))
unfolding of_bits
unsigned-zero nan = unfold eq in tt
unsigned-zero (inf s) = unfold eq in tt
unsigned-zero (fin false m e) = go (eq (fin false m e) zero64)
  where
    go : (b : Bool) → T (no_minus_zero (cond b zero64 (fin false m e)))
    go true = unfold of_bits in tt
    go false = tt
unsigned-zero (fin true zero e) = rw (zero_found true e) tt
unsigned-zero (fin true (suc m) e) = go (eq (fin true (suc m) e) zero64)
  where
    go : (b : Bool) → T (no_minus_zero (cond b zero64 (fin true (suc m) e)))
    go true = unfold of_bits in tt
    go false = lt→ltb 0 (suc m) (zero-lt-suc m)

-- what the points of `met` have once -0 is made 0, those of a segment have
pub where_given : (P : Vector → Type 0) (a b c : Corner) → Each P (map unsigned_point (met a b c)) → Each P (segment_by a b c)
unfolding segment_by
where_given P a b c h = go (gives_by a.side b.side c.side)
  where
    go : (g : Bool) → Each P (cond g (map unsigned_point (met a b c)) [])
    go true = h
    go false = tt

pub no_minus_zeros : (a b c : Corner) → Each (Coordinates no_minus_zero) (segment_by a b c)
no_minus_zeros a b c = where_given (Coordinates no_minus_zero) a b c (all (met a b c))
  where
    all : (l : List Vector) → Each (Coordinates no_minus_zero) (map unsigned_point l)
    all [] = tt
    all (v ∷ l) = ((unsigned-zero v.x, unsigned-zero v.y, unsigned-zero v.z), all l)
