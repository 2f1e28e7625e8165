-- The mode that a drawing is asked for, by what its number answered.
use Rattle.std.specs.Prelude.{Result, Ok, Err}
use mathlib.Core.Path.{◌≡◌, refl, sym, ap, ◌∙◌}
use mathlib.Core.Bool.{Bool, true, false, true≢false, ◌&&◌}
use mathlib.Core.List.{List}
use Prim.Native.Nat.{ℕ, ◌/◌}
use lib.ListN.{length, get_or}
use lib.Dec.{eqb}
use lib.Ieee.{Float}
use Rattle.refusal.specs.declared.Refusal.{Refusal}
use Rattle.refusal.specs.declared.Refusal.TheVariants.{Number}
use Rattle.refusal.specs.Refusals.{Verdict}
use Rattle.refusal.specs.Said.{Said, value_said}
use Rattle.refusal.proofs.Unique.{not_zero}
use Rattle.path.specs.Tests.{coordinates_good, tolerance_good}
use Rattle.mesh.specs.Meshes.{face_at, vector_good}
use Rattle.mesh_mode.specs.declared.Mode.{Mode}
use Rattle.mesh_mode.specs.declared.Mode.TheVariants.{Triangles}
use Rattle.mesh_mode.specs.declared.Needs.{Needs}
use Rattle.mesh_mode.specs.Modes.{needs_of, mode_of}
use Rattle.mesh_mode.proofs.Modes.{refused-number}
use Rattle.mesh_seen.specs.Seen.{flat_from}
use Rattle.mesh_draw.specs.declared.Sight.{Sight}
use Rattle.mesh_draw.specs.Call.{names_mode, mode_named, numbers_good, flat_in}
use Rattle.mesh_draw.specs.InnerMode.{with_mode}

module _ (n : ℕ) (c : Float) (r : Result Mode Refusal) (e : value_said r ≡ mode_of n c) where
  pub good-mode : (m : Mode) → r ≡ Ok m → names_mode n c ≡ true
  good-mode m t = ap (λ (s : Said Mode). eqb s.number 0) (sym e ∙ ap value_said t)

  pub bad_mode : (w : Refusal) → r ≡ Err w → names_mode n c ≡ false
  bad_mode w t = ap (λ (s : Said Mode). eqb s.number 0) (sym e ∙ ap value_said t) ∙ not_zero w

  pub mode_known : (m : Mode) → r ≡ Ok m → m ≡ mode_named n c
  mode_known m t = ap (λ (s : Said Mode). get_or s.values 0 Triangles) (ap value_said (sym t) ∙ e)

  -- where none is named, the definition has triangles
  pub mode_unnamed : (w : Refusal) → r ≡ Err w → Triangles ≡ mode_named n c
  mode_unnamed w t = ap (λ (s : Said Mode). get_or s.values 0 Triangles) (ap value_said (sym t) ∙ e)

  -- what is refused is the number
  pub mode_none : (w : Refusal) → r ≡ Err w → w ≡ Number
  mode_none w t = refused-number n c w (ap value_said (sym t) ∙ e)

-- ---- all numbers are good where the mode is, and the others are
without : (a n e t : Bool) → (a && e && t) ≡ false → (a && n && e && t) ≡ false
without true true e t h = h
without true false e t h = refl
without false n e t h = refl

unnamed : (a n e t : Bool) → n ≡ false → (a && n && e && t) ≡ false
unnamed true n e t h = rw h
unnamed false n e t h = refl

together : (a n e t : Bool) → (a && e && t) ≡ true → n ≡ true → (a && n && e && t) ≡ true
together true n e t h k = rw k h
together false n e t h k = absurd (true≢false (sym h))

module _ (vs : List Float) (s : Sight) where
  abbrev others : Bool
  others = coordinates_good vs && vector_good s.eye && tolerance_good s.tolerance

  pub bad-others : others ≡ false → numbers_good vs s ≡ false
  unfolding numbers_good
  bad-others h = without (coordinates_good vs) (names_mode s.number s.cosine) (vector_good s.eye) (tolerance_good s.tolerance) h

  pub bad-named : names_mode s.number s.cosine ≡ false → numbers_good vs s ≡ false
  unfolding numbers_good
  bad-named h = unnamed (coordinates_good vs) (names_mode s.number s.cosine) (vector_good s.eye) (tolerance_good s.tolerance) h

  pub all_good : others ≡ true → names_mode s.number s.cosine ≡ true → numbers_good vs s ≡ true
  unfolding numbers_good
  all_good h k = together (coordinates_good vs) (names_mode s.number s.cosine) (vector_good s.eye) (tolerance_good s.tolerance) h k

-- ---- a verdict with a mode
pub with-err : (v : Verdict) (m : Mode) (r : Refusal) → with_mode v m ≡ Err r → v ≡ Err r
with-err (Ok _) m r e = cc
with-err (Err w) m r e = cc

pub with-ok : (v : Verdict) (m n : Mode) → with_mode v m ≡ Ok n → (v ≡ Ok tt) × (n ≡ m)
with-ok (Ok _) m n e = (refl, cc)
with-ok (Err w) m n e = cc

module _ (mode : Mode) (n : Needs) (e : n ≡ needs_of mode) (vs : List Float) (is : List ℕ) where
  pub flat-needed : n.normals ≡ true → flat_from (face_at vs is) 0 (length is / 3) ≡ flat_in mode vs is
  unfolding flat_in
  flat-needed t = rw (← e, t)

  pub flat-spared : n.normals ≡ false → (Ok tt) ≡ flat_in mode vs is
  unfolding flat_in
  flat-spared t = rw (← e, t)
