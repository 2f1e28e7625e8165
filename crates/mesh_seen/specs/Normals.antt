-- The normal of a face, why a face has none, and what an eye sees of it.
use Rattle.std.specs.Prelude.{Bool, cond, ◌||◌, [], ◌∷◌, ℕ, Float, Result, Ok, Err}
use Rattle.std.specs.Float.Ieee.{eq}
use Rattle.refusal.specs.declared.Refusal.{Refusal}
use Rattle.refusal.specs.declared.Refusal.TheVariants as R
use Rattle.refusal.specs.Refusals.{alike_number, no_length_number}
use Rattle.refusal.specs.Said.{Said, accepted, numbered}
use Rattle.vector.specs.declared.Vector.{Vector}
use Rattle.vector.specs.Vectors.{sub_of, cross_of, div_scalar_of, dot_of, equal_of}
use Rattle.vector.specs.Lengths.{zero64, length_of}
use Rattle.mesh.specs.declared.Triangle.{Triangle}
use Rattle.mesh_seen.specs.declared.Flat.{Flat}
use Rattle.mesh_seen.specs.declared.Flat.TheVariants.{Alike, NoLength}

-- (v2 - v1) cross (v3 - v1)
abbrev pub across_of : Triangle → Vector
across_of t = cross_of (sub_of t.v2 t.v1) (sub_of t.v3 t.v1)

-- a face has no normal where the computed length of that is 0
unfoldable pub flat_of : Triangle → Bool
flat_of t = eq (length_of (across_of t)) zero64

-- two corners whose coordinates compare equal
unfoldable pub alike_of : Triangle → Bool
alike_of t = equal_of t.v1 t.v2 || (equal_of t.v1 t.v3 || equal_of t.v2 t.v3)

-- why a face that has no normal is refused, by its number
unfoldable pub flaw_of : Triangle → ℕ → Refusal
flaw_of t face = cond (alike_of t) (R.Alike face) (R.NoLength face)

-- each coordinate over the length
abbrev pub normalized : Vector → Vector
normalized v = div_scalar_of v (length_of v)

-- normalised twice, as the source's `normal` and its callers do
unfoldable pub normal_of : Triangle → Vector
normal_of t = normalized (normalized (across_of t))

-- the answer of `normal` as the paper reads it: which face it is, its caller knows
abbrev pub normal_said : Result Vector Flat → Said Vector
normal_said (Ok v) = accepted (v ∷ [])
normal_said (Err Alike) = numbered alike_number
normal_said (Err NoLength) = numbered no_length_number

-- first whether the length is 0, then which kind
unfoldable pub normal_found : Triangle → Said Vector
normal_found t = cond (flat_of t) (numbered (cond (alike_of t) alike_number no_length_number)) (accepted (normal_of t ∷ []))

-- its dot with eye minus the face's first corner
unfoldable pub facing_of : Vector → Triangle → Float
facing_of eye t = dot_of (normal_of t) (sub_of eye t.v1)
