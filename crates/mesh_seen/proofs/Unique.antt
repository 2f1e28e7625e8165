-- What the contract of `normal` permits is one answer.
use mathlib.Core.Path.{◌≡◌, refl, ap}
use Prim.Native.Nat.{ℕ}
use native.Mathlib.Omega.{arith}
use Rattle.refusal.specs.Refusals.{alike_number, no_length_number}
use Rattle.refusal.specs.Said.{Said}
use Rattle.refusal.specs.One.{One}
use Rattle.refusal.proofs.Unique.{one-read, same-values}
use Rattle.vector.specs.declared.Vector.{Vector}
use Rattle.mesh.specs.declared.Triangle.{Triangle}
use Rattle.std.specs.Prelude.{Result, Ok, Err}
use Rattle.mesh_seen.specs.declared.Flat.{Flat}
use Rattle.mesh_seen.specs.declared.Flat.TheVariants.{Alike, NoLength}
use Rattle.mesh_seen.specs.Normals.{normal_said, normal_found}

told : (r t : Result Vector Flat) → normal_said r ≡ normal_said t → r ≡ t
told (Ok v) (Ok w) e = let h = same-values e in cc
told (Err Alike) (Err Alike) e = refl
told (Err NoLength) (Err NoLength) e = refl
told (Ok v) (Err Alike) e = let z : ◌≡◌ {A = ℕ} 0 alike_number = ap (λ (s : Said Vector). s.number) e in absurd (omega arith)
told (Ok v) (Err NoLength) e = let z : ◌≡◌ {A = ℕ} 0 no_length_number = ap (λ (s : Said Vector). s.number) e in absurd (omega arith)
told (Err Alike) (Ok w) e = let z : ◌≡◌ {A = ℕ} alike_number 0 = ap (λ (s : Said Vector). s.number) e in absurd (omega arith)
told (Err Alike) (Err NoLength) e = let z : ◌≡◌ {A = ℕ} alike_number no_length_number = ap (λ (s : Said Vector). s.number) e in absurd (omega arith)
told (Err NoLength) (Ok w) e = let z : ◌≡◌ {A = ℕ} no_length_number 0 = ap (λ (s : Said Vector). s.number) e in absurd (omega arith)
told (Err NoLength) (Err Alike) e = let z : ◌≡◌ {A = ℕ} no_length_number alike_number = ap (λ (s : Said Vector). s.number) e in absurd (omega arith)

pub one-normal : (t : Triangle) → One (Result Vector Flat) (λ r. normal_said r ≡ normal_found t)
one-normal t = one-read normal_said told (normal_found t)
