-- Whether a face is flat, by the square of a length; its normal, step by step; and the verdict by what its normal answers.
use Rattle.std.specs.Prelude.{Result, Ok, Err}
use mathlib.Core.Path.{◌≡◌, refl, sym, ap, ◌∙◌}
use mathlib.Core.Bool.{Bool, true, false, not, cond}
use mathlib.Core.List.{[], ◌∷◌}
use Prim.Native.Nat.{ℕ}
use native.Mathlib.Omega.{arith}
use lib.Ieee.{Float, eq}
use Rattle.refusal.specs.declared.Refusal.TheVariants as R
use Rattle.refusal.specs.Refusals.{Verdict}
use Rattle.refusal.specs.Refusals.{alike_number, no_length_number, unless}
use Rattle.refusal.specs.Said.{Said, accepted, numbered}
use Rattle.vector.specs.declared.Vector.{Vector}
use Rattle.vector.specs.Vectors.{div_scalar_of, length_squared_of}
use Rattle.vector.specs.Lengths.{zero64, length_of}
use Rattle.vector.proofs.RootLaws.{length-zero}
use Rattle.mesh.specs.declared.Triangle.{Triangle}
use Rattle.mesh_seen.specs.declared.Flat.{Flat}
use Rattle.mesh_seen.specs.declared.Flat.TheVariants.{Alike, NoLength}
use Rattle.mesh_seen.specs.Normals.{across_of, flat_of, alike_of, flaw_of, normalized, normal_of, normal_said, normal_found}
use Rattle.mesh_seen.specs.Seen.{face_verdict}

-- the length is 0 exactly if its square is
pub flat-square : (t : Triangle) (v : Vector) (s : Float) → v ≡ across_of t → s ≡ length_squared_of v → eq s zero64 ≡ flat_of t
unfolding flat_of
flat-square t v s e f = ap (λ (x : Float). eq x zero64) (f ∙ ap length_squared_of e) ∙ sym (length-zero (across_of t))

-- normalised, and normalised again
pub twice : (t : Triangle) (v : Vector) (l : Float) (u : Vector) (m : Float) (n : Vector) → v ≡ across_of t → l ≡ length_of v → u ≡ div_scalar_of v l → m ≡ length_of u → n ≡ div_scalar_of u m → n ≡ normal_of t
unfolding normal_of
twice t v l u m n ev el eu em en =
    let once : u ≡ normalized (across_of t) = eu ∙ ap (div_scalar_of v) el ∙ ap normalized ev in
    en ∙ ap (div_scalar_of u) em ∙ ap normalized once

-- what each answer of `normal` comes to for face f
abbrev pub verdict_by : Result Vector Flat → ℕ → Verdict
verdict_by (Ok v) f = (Ok tt)
verdict_by (Err Alike) f = Err (R.Alike f)
verdict_by (Err NoLength) f = Err (R.NoLength f)

pub verdict_by_lem : (t : Triangle) (f : ℕ) (n : Result Vector Flat) → normal_said n ≡ normal_found t → verdict_by n f ≡ face_verdict t f (Ok tt)
unfolding normal_found face_verdict flaw_of unless
verdict_by_lem t f n e = go n (flat_of t) (alike_of t) e
  where
    other : {p q : ℕ} (n : Result Vector Flat) (m : Said Vector) → normal_said n ≡ m → (normal_said n).number ≡ p → m.number ≡ q → p ≡ q
    other n m e a b = sym a ∙ ap (λ (s : Said Vector). s.number) e ∙ b

    go : (n : Result Vector Flat) (flat alike : Bool) → normal_said n ≡ cond flat (numbered (cond alike alike_number no_length_number)) (accepted (normal_of t ∷ []))
        → verdict_by n f ≡ unless (not flat) (cond alike (R.Alike f) (R.NoLength f)) (Ok tt)
    go (Ok v) false a e = refl
    go (Err Alike) true true e = refl
    go (Err NoLength) true false e = refl
    go (Ok v) true true e = let z : ◌≡◌ {A = ℕ} 0 alike_number = other (Ok v) _ e refl refl in absurd (omega arith)
    go (Ok v) true false e = let z : ◌≡◌ {A = ℕ} 0 no_length_number = other (Ok v) _ e refl refl in absurd (omega arith)
    go (Err Alike) false a e = let z : ◌≡◌ {A = ℕ} alike_number 0 = other (Err Alike) _ e refl refl in absurd (omega arith)
    go (Err Alike) true false e = let z : ◌≡◌ {A = ℕ} alike_number no_length_number = other (Err Alike) _ e refl refl in absurd (omega arith)
    go (Err NoLength) false a e = let z : ◌≡◌ {A = ℕ} no_length_number 0 = other (Err NoLength) _ e refl refl in absurd (omega arith)
    go (Err NoLength) true true e = let z : ◌≡◌ {A = ℕ} no_length_number alike_number = other (Err NoLength) _ e refl refl in absurd (omega arith)
