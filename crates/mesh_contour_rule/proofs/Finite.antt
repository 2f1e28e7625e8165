-- Where vertices, plane and tolerance are within their ranges, the points of a face's segment are finite.
use mathlib.Core.Path.{◌≡◌, refl, sym, subst}
use mathlib.Core.Bool.{Bool, true, false, cond, not}
use mathlib.Core.List.{List, [], ◌∷◌, ◌++◌, map}
use Prim.Native.Nat.{ℕ, ◌+◌, ◌*◌}
use lib.Dec.{T, eqb, ltb, lit≤}
use lib.Ieee.{Float, binary64, of_bits, round, add, sub, mul, lt, eq}
use lib.Ieee.Fits.{add-fits}
use lib.Ieee.Scale.{finite}
use Rattle.refusal.specs.Each.{Each}
use Rattle.vector.specs.declared.Vector.{Vector}
use Rattle.vector.specs.Lengths.{zero64, one64}
use Rattle.vector.specs.Vectors.{add_of, sub_of, mul_scalar_of}
use Rattle.vector.proofs.Zeros.{Within, within, Kept, add-within, sub_within, mul-within}
use Rattle.path.specs.Tests.{tolerance_good}
use Rattle.path.proofs.Tests.{both}
use Rattle.mesh.specs.Meshes.{vector_good}
use Rattle.mesh.proofs.Limits.{all_within_lem}
use Rattle.mesh_section.specs.declared.Plane.{Plane}
use Rattle.mesh_contour_rule.specs.declared.Side.{Side}
use Rattle.mesh_contour_rule.specs.declared.Corner.{Corner}
use Rattle.mesh_contour_rule.specs.Contour.{height_of, side_of, corner_by, on, parts, cross_from, crossing, at_corner, on_side, met, unsigned, unsigned_point, segment_by}
use Rattle.mesh_contour_rule.specs.Numbers.{Coordinates}
use Rattle.mesh_contour_rule.proofs.Faces.{parted, turned}
use Rattle.mesh_contour_rule.proofs.Zeros.{where_given}
use Rattle.mesh_contour_rule.proofs.Heights.{coordinate, apart, most, limit, apart-kept, All, height_within, Signed, above-sign, below-sign, share}

is_finite : {c : ℕ} {x : Float} → Within c x → T (finite x)
is_finite (within s m e h) = tt

part-kept : Kept (apart * 1)
unfolding round
part-kept = within _ _ _ (lit≤ tt)

sum_kept : Kept (coordinate + apart * 1)
unfolding round
sum_kept = within _ _ _ (lit≤ tt)

crossed : {a b : Vector} {t : Float} → All coordinate a → All coordinate b → Within 1 t → Coordinates finite (add_of a (mul_scalar_of (sub_of b a) t))
crossed a b t = (at a.0 b.0 t, at a.1 b.1 t, at a.2 b.2 t)
  where
    at : {a b t : Float} → Within coordinate a → Within coordinate b → Within 1 t → T (finite (add binary64 a (mul binary64 (sub binary64 b a) t)))
    at a b t = is_finite (add-within sum_kept a (mul-within part-kept (sub_within apart-kept b a) t))

-- a plane and a tolerance within their ranges
pub record InRange (p : Plane) (tolerance : Float) : Type 0 where
  pub point_good : vector_good p.point ≡ true
  pub normal_good : vector_good p.normal ≡ true
  pub tolerance_good : tolerance_good tolerance ≡ true

module _ (p : Plane) (tolerance : Float) (r : InRange p tolerance) where
  abbrev corner : ℕ → Vector → Corner
  corner i v = corner_by p tolerance i v

  abbrev side_at : Vector → Side
  side_at v = side_of tolerance (height_of p v)

  some : T (lt zero64 tolerance)
  unfolding tolerance_good
  some = subst T (sym (both (lt zero64 tolerance) (lt tolerance one64) r.tolerance_good).0) tt

  height : (v : Vector) → vector_good v ≡ true → Within most (height_of p v)
  height v g = height_within p v (all_within_lem limit p.point r.point_good) (all_within_lem limit p.normal r.normal_good) (all_within_lem limit v g)

  -- heights with the plane between them have two signs
  opposite : (u v : Vector) → vector_good u ≡ true → vector_good v ≡ true → parts (side_at u) (side_at v) ≡ true → (s : Bool) × Signed s (height_of p u) × Signed (not s) (height_of p v)
  opposite u v g h e =
      parted (λ s t. side_at u ≡ s → side_at v ≡ t → (s : Bool) × Signed s (height_of p u) × Signed (not s) (height_of p v))
      (λ i j. (false, above-sign tolerance some (height u g) i, below-sign tolerance some (height v h) j))
      (λ i j. (true, below-sign tolerance some (height u g) i, above-sign tolerance some (height v h) j))
      (side_at u) (side_at v) e refl refl

  from : (i j : ℕ) (u v : Vector) → vector_good u ≡ true → vector_good v ≡ true → parts (side_at u) (side_at v) ≡ true → Coordinates finite (cross_from (corner i u) (corner j v))
  unfolding cross_from
  from i j u v g h e =
      let o = opposite u v g h e in
      crossed (all_within_lem limit u g) (all_within_lem limit v h) (share o.0 o.1 o.2 (add-fits binary64 _ _) (height u g) (height v h))

  met-between : (i j : ℕ) (u v : Vector) → vector_good u ≡ true → vector_good v ≡ true → Each (Coordinates finite) (on_side (corner i u) (corner j v))
  unfolding on_side crossing
  met-between i j u v g h = go (parts (side_at u) (side_at v)) (ltb j i) (from i j u v g h) (λ e. from j i v u h g (turned (side_at u) (side_at v) e))
    where
      x : Vector
      x = cross_from (corner i u) (corner j v)

      y : Vector
      y = cross_from (corner j v) (corner i u)

      go : (b l : Bool) → (b ≡ true → Coordinates finite x) → (b ≡ true → Coordinates finite y) → Each (Coordinates finite) (cond b (cond l y x ∷ []) [])
      go true true f g = (g refl, tt)
      go true false f g = (f refl, tt)
      go false l f g = tt

  met_at : (i : ℕ) (u : Vector) → vector_good u ≡ true → Each (Coordinates finite) (at_corner (corner i u))
  unfolding at_corner
  met_at i u g = let w = all_within_lem limit u g in go (eqb (on (side_at u)) 1) (is_finite w.0, is_finite w.1, is_finite w.2)
    where
      go : (b : Bool) → Coordinates finite u → Each (Coordinates finite) (cond b (u ∷ []) [])
      go true h = (h, tt)
      go false h = tt

joined : (l m : List Vector) → Each (Coordinates finite) l → Each (Coordinates finite) m → Each (Coordinates finite) (l ++ m)
joined [] m f g = g
joined (v ∷ l) m f g = (f.0, joined l m f.1 g)

-- the six places of `met` in turn
all_met : (a b c : Corner) → Each (Coordinates finite) (at_corner a) → Each (Coordinates finite) (on_side a b) → Each (Coordinates finite) (at_corner b) → Each (Coordinates finite) (on_side b c) → Each (Coordinates finite) (at_corner c)
    → Each (Coordinates finite) (on_side c a) → Each (Coordinates finite) (met a b c)
unfolding met
all_met a b c p x q y u z =
    let l = at_corner a in
    let m = l ++ on_side a b in
    let n = m ++ at_corner b in
    let o = n ++ on_side b c in
    joined (o ++ at_corner c) (on_side c a) (joined o (at_corner c) (joined n (on_side b c) (joined m (at_corner b) (joined l (on_side a b) p x) q) y) u) z

-- -0 made 0 is finite too
plain : (x : Float) → T (finite x) → T (finite (unsigned x))
plain x h = go (eq x zero64)
  where
    go : (b : Bool) → T (finite (cond b zero64 x))
    go true = unfold of_bits in tt
    go false = h

all_plain : (l : List Vector) → Each (Coordinates finite) l → Each (Coordinates finite) (map unsigned_point l)
all_plain [] f = tt
all_plain (v ∷ l) f = ((plain v.x f.0.0, plain v.y f.0.1, plain v.z f.0.2), all_plain l f.1)

pub finite_points : (p : Plane) (tolerance : Float) → InRange p tolerance → (i j k : ℕ) (u v w : Vector) → vector_good u ≡ true → vector_good v ≡ true → vector_good w ≡ true
    → Each (Coordinates finite) (segment_by (corner_by p tolerance i u) (corner_by p tolerance j v) (corner_by p tolerance k w))
finite_points p tolerance r i j k u v w f g h =
    let a = corner_by p tolerance i u in
    let b = corner_by p tolerance j v in
    let c = corner_by p tolerance k w in
    let at = met_at p tolerance r in
    let between = met-between p tolerance r in
    where_given (Coordinates finite) a b c (all_plain (met a b c) (all_met a b c (at i u f) (between i j u v f g) (at j v g) (between j k v w g h) (at k w h) (between k i w u h f)))
