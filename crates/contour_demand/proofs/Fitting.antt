-- The points of the segments of a mesh of f64 are f64: they are its vertices or sums, with 0 in place of -0.
use mathlib.Core.Bool.{Bool, true, false, cond}
use mathlib.Core.List.{List, [], ◌∷◌, ◌++◌, map}
use Prim.Native.Nat.{ℕ, ◌+◌, ◌*◌, ◌/◌}
use lib.ListN.{length, get_or}
use lib.Dec.{T, eqb, ltb}
use lib.Ieee.{Float, nan, binary64, fits, eq}
use lib.Ieee.Bits.{of_bits-fits}
use lib.Ieee.Fits.{nan-fits, cond-fits, add-fits}
use Rattle.refusal.specs.Each.{Each}
use Rattle.vector.specs.declared.Vector.{Vector}
use Rattle.vector.specs.Lengths.{zero64}
use Rattle.path.specs.Strokes.{point_at}
use Rattle.mesh_section.specs.declared.Plane.{Plane}
use Rattle.mesh_contour_rule.specs.declared.Corner.{Corner}
use Rattle.mesh_contour_rule.specs.Contour.{corner_of, on, parts, cross_from, crossing, at_corner, on_side, met, unsigned, unsigned_point, segment_by, segment_of, segments_of}
use Rattle.mesh_contour_rule.specs.Numbers.{Coordinates}
use Rattle.mesh_contour_rule.proofs.Zeros.{where_given}
use Rattle.mesh_contour_rule.proofs.Plains.{each-segment}
use Rattle.contour_demand.specs.Points.{Doubles}
use Rattle.contour_demand.proofs.Kept.{each_at, each_append}

abbrev Fits : Vector → Type 0
Fits = Coordinates (fits binary64)

cross_fits : (a b : Corner) → Fits (crossing a b)
unfolding crossing cross_from
cross_fits a b = go (ltb b.vertex a.vertex)
  where
    go : (c : Bool) → Fits (cond c (cross_from b a) (cross_from a b))
    go true = (add-fits binary64 _ _, add-fits binary64 _ _, add-fits binary64 _ _)
    go false = (add-fits binary64 _ _, add-fits binary64 _ _, add-fits binary64 _ _)

one-or_none : (c : Bool) (v : Vector) → Fits v → Each Fits (cond c (v ∷ []) [])
one-or_none true v h = (h, tt)
one-or_none false v h = tt

at-fits : (a : Corner) → Fits a.at → Each Fits (at_corner a)
unfolding at_corner
at-fits a h = one-or_none (eqb (on a.side) 1) a.at h

side-fits : (a b : Corner) → Each Fits (on_side a b)
unfolding on_side
side-fits a b = one-or_none (parts a.side b.side) (crossing a b) (cross_fits a b)

met-fits : (a b c : Corner) → Fits a.at → Fits b.at → Fits c.at → Each Fits (met a b c)
unfolding met
met-fits a b c f g h =
    let more = each_append Fits in
    let l = at_corner a ++ on_side a b in
    let m = l ++ at_corner b in
    let n = m ++ on_side b c in
    more (n ++ at_corner c) (on_side c a) (more n (at_corner c) (more m (on_side b c) (more l (at_corner b) (more (at_corner a) (on_side a b) (at-fits a f) (side-fits a b)) (at-fits b g)) (side-fits b c)) (at-fits c h)) (side-fits c a)

-- with 0 in place of -0
unsigned-fits : (x : Float) → T (fits binary64 x) → T (fits binary64 (unsigned x))
unsigned-fits x h = cond-fits binary64 (eq x zero64) zero64 x (of_bits-fits binary64 0) h

all_unsigned : (l : List Vector) → Each Fits l → Each Fits (map unsigned_point l)
all_unsigned [] h = tt
all_unsigned (v ∷ l) h = ((unsigned-fits v.x h.0.0, unsigned-fits v.y h.0.1, unsigned-fits v.z h.0.2), all_unsigned l h.1)

point_fits : (vs : List Float) → Doubles vs → (i : ℕ) → Fits (point_at vs i)
unfolding point_at
point_fits vs h i = let at = each_at (λ x. T (fits binary64 x)) nan (nan-fits binary64) vs h in (at (i * 3), at (i * 3 + 1), at (i * 3 + 2))

segment-fits : (a b c : Corner) → Fits a.at → Fits b.at → Fits c.at → Each Fits (segment_by a b c)
segment-fits a b c f g h = where_given Fits a b c (all_unsigned (met a b c) (met-fits a b c f g h))

pub segments_fit : (vs : List Float) (is : List ℕ) (p : Plane) (tolerance : Float) → Doubles vs → Each (Each (Coordinates (fits binary64))) (segments_of vs is p tolerance)
unfolding segments_of segment_of
segments_fit vs is p tolerance h =
    let at = corner_of p tolerance vs is in
    let there : (k : ℕ) → Fits (at k).at = λ k. point_fits vs h (get_or is k 0) in
    each-segment at (Each Fits) 0 (length is / 3) (λ f l. segment-fits (at (f * 3)) (at (f * 3 + 1)) (at (f * 3 + 2)) (there (f * 3)) (there (f * 3 + 1)) (there (f * 3 + 2)))
