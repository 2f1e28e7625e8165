-- The face that the verdict names is flat and of that kind, and none below it is; where it names none, none is flat.
use Rattle.std.specs.Prelude.{Ok, Err}
use mathlib.Core.Path.{◌≡◌, refl, sym, ap, ◌∙◌, subst}
use mathlib.Core.Logic.{⊎_elim}
use mathlib.Core.Bool.{Bool, true, false, not, cond}
use mathlib.Core.List.{[], ◌∷◌}
use Prim.Native.Nat.{ℕ, zero, suc, ◌+◌, ◌<◌, ◌≤◌}
use native.Mathlib.Omega.{arith}
use Rattle.refusal.specs.declared.Refusal.{Refusal}
use Rattle.refusal.specs.declared.Refusal.TheVariants.{Alike, NoLength}
use Rattle.refusal.specs.Refusals.{carried_by, unless}
use Rattle.vector.proofs.Roots.{lt-or_ge}
use Rattle.mesh.specs.declared.Triangle.{Triangle}
use Rattle.mesh_seen.specs.Normals.{flat_of, alike_of, flaw_of}
use Rattle.mesh_seen.specs.Seen.{face_verdict, flat_from}
use Rattle.mesh_seen.specs.Faults.{FirstFault}

-- what is refused for face f carries f
pub carries : (t : Triangle) (f : ℕ) → carried_by (flaw_of t f) ≡ f ∷ []
unfolding flaw_of
carries t f = go (alike_of t)
  where
    go : (alike : Bool) → carried_by (cond alike (Alike f) (NoLength f)) ≡ f ∷ []
    go true = refl
    go false = refl

module _ (at : ℕ → Triangle) where
  -- from face f on, those below it known to have normals
  pub record Fault (f n : ℕ) (r : Refusal) : Type 0 where
    pub face : ℕ
    pub from : f ≤ face
    pub below : face < f + n
    pub flat : flat_of (at face) ≡ true
    pub why : r ≡ flaw_of (at face) face
    pub none : (g : ℕ) → f ≤ g → g < face → flat_of (at g) ≡ false

  fault : (f n : ℕ) (r : Refusal) → flat_from at f n ≡ Err r → Fault f n r
  unfolding flat_from face_verdict unless
  fault f zero r e = let z : ◌≡◌ {A = ℕ} 0 1 = cc in absurd (omega arith)
  fault f (suc n) r e = go (flat_of (at f)) refl (fault (f + 1) n r) e
    where
      go : (b : Bool) → flat_of (at f) ≡ b → (flat_from at (f + 1) n ≡ Err r → Fault (f + 1) n r) → unless (not b) (flaw_of (at f) f) (flat_from at (f + 1) n) ≡ Err r → Fault f (suc n) r
      go true t later e = record { face = f; from = omega arith; below = omega arith; flat = t; why = cc; none = λ g l m. absurd (omega arith) }
      go false t later e =
          let k = later e in
          record {
            face = k.face;
            from = omega arith;
            below = omega arith;
            flat = k.flat;
            why = k.why;
            none = λ g l m.
                ⊎_elim (λ (h : f < g). k.none g (omega arith) m)
                (λ (h : g ≤ f). let i : f ≡ g = omega arith in subst (λ (x : ℕ). flat_of (at x) ≡ false) i t) (lt-or_ge f g);
          }

  -- where all faces are accepted none is flat
  none_from : (f n : ℕ) → flat_from at f n ≡ (Ok tt) → (g : ℕ) → f ≤ g → g < f + n → flat_of (at g) ≡ false
  unfolding flat_from face_verdict unless
  none_from f zero e g l m = absurd (omega arith)
  none_from f (suc n) e g l m = go (flat_of (at f)) refl (none_from (f + 1) n) e
    where
      go : (b : Bool) → flat_of (at f) ≡ b → (flat_from at (f + 1) n ≡ (Ok tt) → (g : ℕ) → f + 1 ≤ g → g < f + 1 + n → flat_of (at g) ≡ false) → unless (not b) (flaw_of (at f) f) (flat_from at (f + 1) n) ≡ (Ok tt) → flat_of (at g) ≡ false
      go true t later e = let z : ◌≡◌ {A = ℕ} 0 1 = cc in absurd (omega arith)
      go false t later e =
          ⊎_elim (λ (h : f < g). later e g (omega arith) (omega arith))
          (λ (h : g ≤ f). let i : f ≡ g = omega arith in subst (λ (x : ℕ). flat_of (at x) ≡ false) i t) (lt-or_ge f g)

  pub none-flat : (n : ℕ) → flat_from at 0 n ≡ (Ok tt) → (g : ℕ) → g < n → flat_of (at g) ≡ false
  none-flat n e g l = none_from 0 n e g (omega arith) (omega arith)

  pub first-fault : (n : ℕ) (r : Refusal) (face : ℕ) → carried_by r ≡ face ∷ [] → flat_from at 0 n ≡ Err r → FirstFault at n face × (r ≡ flaw_of (at face) face)
  first-fault n r face c e =
      let k = fault 0 n r e in
      let a = sym c ∙ ap carried_by k.why ∙ carries (at k.face) k.face in
      let s : k.face ≡ face = cc in
      subst (λ (x : ℕ). FirstFault at n x × (r ≡ flaw_of (at x) x)) s
      (record { inside = omega arith; flat = k.flat; first = λ g l. k.none g (omega arith) l }, k.why)
