-- What a face gives, sentence by sentence, by the sides that its corners a, b, c are on.
use Rattle.std.specs.Prelude.{◌≡◌, true, false, ◌&&◌, List, [], ◌∷◌, ◌+◌, eqb}
use Rattle.vector.specs.declared.Vector.{Vector}
use Rattle.mesh_contour_rule.specs.declared.Side.TheVariants.{Above, On}
use Rattle.mesh_contour_rule.specs.declared.Corner.{Corner}
use Rattle.mesh_contour_rule.specs.Contour.{above, on, parts, crossing, unsigned_point, segment_by}

-- a segment between two points, -0 made 0
abbrev pub segment : Vector → Vector → List Vector
segment p q = unsigned_point p ∷ unsigned_point q ∷ []

pub record Faces (a b c : Corner) : Type 0 where
  -- one above, one below, the third on: that corner and the crossing of the other two, in the order met
  pub through_a : a.side ≡ On → parts b.side c.side ≡ true → segment_by a b c ≡ segment a.at (crossing b c)
  pub through_b : b.side ≡ On → parts c.side a.side ≡ true → segment_by a b c ≡ segment b.at (crossing c a)
  pub through_c : c.side ≡ On → parts a.side b.side ≡ true → segment_by a b c ≡ segment (crossing a b) c.at
  -- none on, and split: the crossings of the two sides that are parted
  pub splits_a : parts a.side b.side ≡ true → parts c.side a.side ≡ true → segment_by a b c ≡ segment (crossing a b) (crossing c a)
  pub splits_b : parts a.side b.side ≡ true → parts b.side c.side ≡ true → segment_by a b c ≡ segment (crossing a b) (crossing b c)
  pub splits_c : parts b.side c.side ≡ true → parts c.side a.side ≡ true → segment_by a b c ≡ segment (crossing b c) (crossing c a)
  -- two on, the third above: those two corners
  pub along_ab : a.side ≡ On → b.side ≡ On → c.side ≡ Above → segment_by a b c ≡ segment a.at b.at
  pub along_bc : a.side ≡ Above → b.side ≡ On → c.side ≡ On → segment_by a b c ≡ segment b.at c.at
  pub along_ca : a.side ≡ On → b.side ≡ Above → c.side ≡ On → segment_by a b c ≡ segment a.at c.at
  -- all others, with no side parted and not two on with the third above: nothing
  pub others : parts a.side b.side ≡ false → parts b.side c.side ≡ false → parts c.side a.side ≡ false
      → eqb (above a.side + above b.side + above c.side) 1 && eqb (on a.side + on b.side + on c.side) 2 ≡ false
      → segment_by a b c ≡ []
