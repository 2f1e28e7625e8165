-- The first flat face, and what is kept of each face while a mesh is drawn: four numbers a face, its normal and its dot with the eye.
use Rattle.std.specs.Prelude.{Ok}
use Rattle.std.specs.Prelude.{not, cond, List, ℕ, zero, suc, ◌+◌, ◌*◌, ◌/◌, length, get_or, set, Float}
use Rattle.std.specs.Float.{nan}
use Rattle.refusal.specs.Refusals.{Verdict}
use Rattle.refusal.specs.Refusals.{unless}
use Rattle.vector.specs.declared.Vector.{Vector}
use Rattle.mesh.specs.declared.Triangle.{Triangle}
use Rattle.mesh.specs.Meshes.{face_at, reach_of}
use Rattle.mesh_seen.specs.Normals.{flat_of, flaw_of, normal_of, facing_of}

-- the verdict on face f: it must have a normal
unfoldable pub face_verdict : Triangle → ℕ → Verdict → Verdict
face_verdict t f next = unless (not (flat_of t)) (flaw_of t f) next

-- of the n faces from f on the first that is flat decides, whichever kind it is
unfoldable pub flat_from : (ℕ → Triangle) → ℕ → ℕ → Verdict
flat_from at f zero = (Ok tt)
flat_from at f (suc n) = face_verdict (at f) f (flat_from at (f + 1) n)

-- the verdict on the first n faces, where all their corners are there
unfoldable pub flat_verdict : List Float → List ℕ → ℕ → Verdict
flat_verdict vs is n = cond (reach_of (length vs / 3) is n) (flat_from (face_at vs is) 0 n) (Ok tt)

-- the four numbers of face t stored as those of face f; past the end nothing
unfoldable pub put_seen : Vector → Triangle → List Float → ℕ → List Float
put_seen eye t l f = set (set (set (set l (f * 4) (normal_of t).x) (f * 4 + 1) (normal_of t).y) (f * 4 + 2) (normal_of t).z) (f * 4 + 3) (facing_of eye t)

-- those of the n faces from f on, one after the other
unfoldable pub seen_from : Vector → (ℕ → Triangle) → ℕ → ℕ → List Float → List Float
seen_from eye at f zero l = l
seen_from eye at f (suc n) l = seen_from eye at (f + 1) n (put_seen eye (at f) l f)

-- those of the first n faces, where all their corners are there; otherwise nothing is stored
unfoldable pub seen_all : Vector → List Float → List ℕ → ℕ → List Float → List Float
seen_all eye vs is n l = cond (reach_of (length vs / 3) is n) (seen_from eye (face_at vs is) 0 n l) l

-- the normal and the dot of face f read again
abbrev pub normal_at : List Float → ℕ → Vector
normal_at l f = record { x = get_or l (f * 4) nan; y = get_or l (f * 4 + 1) nan; z = get_or l (f * 4 + 2) nan }

abbrev pub facing_at : List Float → ℕ → Float
facing_at l f = get_or l (f * 4 + 3) nan
