-- The points of the strokes that a contour leaves, and when two of them are the same. proofs/Equal and proofs/Plain prove it of every accepted `contour`.
use Rattle.std.specs.Prelude.{◌≡◌, Bool, ◌&&◌, List, ℕ, T, Float}
use Rattle.std.specs.Float.{binary64}
use Rattle.std.specs.Float.Ieee.{fits, eq}
use Rattle.std.specs.Float.Ieee.Scale.{finite}
use Rattle.refusal.specs.Each.{Each}
use Rattle.vector.specs.declared.Vector.{Vector}
use Rattle.vector.specs.Vectors.{equal_of}
use Rattle.path_classes.specs.Classes.{same_number, same_point}
use Rattle.mesh_section.specs.declared.Plane.{Plane}
use Rattle.mesh_contour_rule.specs.Contour.{segments_of}
use Rattle.mesh_contour_rule.specs.Numbers.{no_minus_zero, Coordinates}

-- an f64 that is finite and not -0
abbrev pub plain_number : Float → Bool
plain_number x = fits binary64 x && finite x && no_minus_zero x

-- of such numbers, and of points of them, those are the same that compare equal, all three coordinates of a point
pub record SameEqual : Type 0 where
  pub numbers : (x y : Float) → T (plain_number x) → T (plain_number y) → same_number x y ≡ eq x y
  pub points : (a b : Vector) → Coordinates plain_number a → Coordinates plain_number b → same_point a b ≡ equal_of a b

-- a list of f64
abbrev pub Doubles : List Float → Type 0
Doubles = Each (λ x. T (fits binary64 x))

-- every point of segments or strokes is finite and has no -0
pub record PlainPoints (vs : List Float) (ss : List (List Vector)) : Type 0 where
  pub all_finite : Each (Each (Coordinates finite)) ss
  pub no_minus_zeros : Each (Each (Coordinates no_minus_zero)) ss
  -- so two of them, of a mesh of f64, are the same where all three coordinates are equal
  pub meet : Doubles vs → Each (Each (λ a. Each (Each (λ b. same_point a b ≡ equal_of a b)) ss)) ss

-- the segments of a mesh, and strokes
pub record PlainContour (vs : List Float) (is : List ℕ) (p : Plane) (tolerance : Float) (out : List (List Vector)) : Type 0 where
  pub segments : PlainPoints vs (segments_of vs is p tolerance)
  pub strokes : PlainPoints vs out
