-- Meshes and files, there and back. It is said of what the calls answer and leave; proofs/Theorem proves it of every accepted `write_stl`
-- and of every accepted `read_stl`.
use Rattle.std.specs.Prelude.{◌≡◌, List, [], ◌∷◌, ℕ, ◌*◌, ◌/◌, ◌≤◌, length, replicate, Float}
use Rattle.refusal.specs.Said.{accepted}
use Rattle.path.specs.Laid.{over}
use Rattle.mesh.specs.Meshes.{gathered}
use Rattle.stl.specs.Files.{size_of, stl_of}
use Rattle.stl_write.specs.Call as W
use Rattle.mesh_weld.specs.Call as M
use Rattle.mesh_weld.specs.Read.{read_left}

-- bytes that are read as the weld of these corners, refused where that is, whatever is lent
abbrev pub ReadsAsWeld : List ℕ → List Float → Type 0
ReadsAsWeld bs cs = (s : List ℕ) (us : List Float) (js : List ℕ) → read_left bs s us js ≡ M.weld_left cs s us js

-- a mesh that can be written, wherever its file fits; and its file, read into scratch and room that suffice, is that mesh again, bit for bit
pub record Returns (vs : List Float) (is : List ℕ) : Type 0 where
  pub written : (out : List ℕ) → size_of (length is / 3) ≤ length out → W.write_left vs is out ≡ W.laid (stl_of (gathered vs is)) out
  pub read : (s : List ℕ) (us : List Float) (js : List ℕ) → length is * 4 ≤ length s → length is * 3 ≤ length us → length is ≤ length js
      → read_left (stl_of (gathered vs is)) s us js ≡ M.left (accepted (length vs / 3 ∷ length is ∷ [])) (replicate (length s) 0) (over us vs) (over js is)
