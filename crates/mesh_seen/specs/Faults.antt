-- What the verdict on flat faces promises, said of the faces alone.
use Rattle.std.specs.Prelude.{◌≡◌, Bool, true, false, ◌||◌, ℕ, zero, suc, ◌+◌, ◌<◌}
use Rattle.mesh.specs.declared.Triangle.{Triangle}
use Rattle.mesh_seen.specs.Normals.{flat_of}

-- of n faces this one is flat, and none below it is
pub record FirstFault (at : ℕ → Triangle) (n face : ℕ) : Type 0 where
  pub inside : face < n
  pub flat : flat_of (at face) ≡ true
  pub first : (g : ℕ) → g < face → flat_of (at g) ≡ false

-- whether one of the n faces from f on is flat
unfoldable pub some_flat : (ℕ → Triangle) → ℕ → ℕ → Bool
some_flat at f zero = false
some_flat at f (suc n) = flat_of (at f) || some_flat at (f + 1) n
