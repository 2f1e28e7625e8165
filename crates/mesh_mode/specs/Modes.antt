-- The modes of a drawing, what each needs, and their numbers.
use Rattle.std.specs.Prelude.{true, false, cond, [], ◌∷◌, ℕ, zero, suc, Float}
use Rattle.std.specs.Float.Ieee.{eq}
use Rattle.refusal.specs.Said.{Said, accepted, refused}
use Rattle.refusal.specs.declared.Refusal.TheVariants.{Number}
use Rattle.mesh_mode.specs.declared.Mode.{Mode}
use Rattle.mesh_mode.specs.declared.Mode.TheVariants.{Triangles, Polygonal, Silhouette}
use Rattle.mesh_mode.specs.declared.Needs.{Needs}

-- what a mode needs of a mesh: normals, so that no face may be flat; the list of flips
abbrev pub needs_of : Mode → Needs
needs_of Triangles = record { normals = false; flips = false }
needs_of Polygonal = record { normals = true; flips = false }
needs_of (Silhouette c) = record { normals = true; flips = true }

-- the number that a mode number stands for: 0, where nobody says a mode, for polygonal, each other for itself
abbrev pub meant : ℕ → ℕ
meant zero = 2
meant (suc n) = suc n

-- 1, 2, 3
abbrev pub mode_by : ℕ → Float → Said Mode
mode_by zero c = refused Number
mode_by (suc zero) c = accepted (Triangles ∷ [])
mode_by (suc (suc zero)) c = accepted (Polygonal ∷ [])
mode_by (suc (suc (suc zero))) c = accepted (Silhouette c ∷ [])
mode_by (suc (suc (suc (suc n)))) c = refused Number

-- a cosine is anything but NaN, which alone is not equal to itself
unfoldable pub mode_of : ℕ → Float → Said Mode
mode_of n c = cond (eq c c) (mode_by (meant n) c) (refused Number)
