-- Of every drawing that is refused for a flat face: the face that is carried is at fault and none below it is, and its kind is told
-- right; no face with two corners alike escapes; and the drawings refused by 7 or 10 are those that 7 refused when it stood for both.
use Rattle.std.specs.Prelude.{Result, Ok, Err}
use mathlib.Core.Path.{◌≡◌, refl, sym, ap, ◌∙◌, subst}
use mathlib.Core.Bool.{Bool, true, false, true≢false, not, cond, ◌&&◌, ◌||◌}
use mathlib.Core.List.{List, [], ◌∷◌}
use Prim.Native.Nat.{ℕ, zero, suc, ◌+◌, ◌/◌, ◌<◌}
use native.Mathlib.Omega.{arith}
use lib.ListN.{length}
use lib.Ieee.{Float}
use Rattle.refusal.specs.declared.Refusal.{Refusal}
use Rattle.refusal.specs.declared.Refusal.TheVariants.{Shape, Count, Vertex, Number, Scratch, Room, Alike, NoLength}
use Rattle.refusal.specs.Refusals.{Verdict}
use Rattle.refusal.specs.Refusals.{number_of, alike_number, carried_by, unless}
use Rattle.refusal.specs.Said.{accepted, refused, verdict_said}
use Rattle.refusal.specs.Outcome.{Outcome, leaves}
use Rattle.refusal.proofs.Outcomes.{was_accepted, was_refused, answers}
use Rattle.path.specs.Tests.{coordinates_good, tolerance_good}
use Rattle.path.specs.declared.Place.{Place}
use Rattle.path.specs.Call.{placed_said}
use Rattle.path.proofs.Tests.{passed, both}
use Rattle.mesh.specs.declared.Triangle.{Triangle}
use Rattle.mesh.specs.Meshes.{face_at, counted_of, all_below, vector_good}
use Rattle.mesh.proofs.Tests.{all_reach}
use Rattle.mesh_mode.specs.Modes.{needs_of}
use Rattle.mesh_seen.specs.Normals.{flat_of, alike_of, flaw_of}
use Rattle.mesh_seen.specs.Seen.{face_verdict, flat_from}
use Rattle.mesh_seen.specs.Faults.{FirstFault, some_flat}
use Rattle.mesh_seen.proofs.Faults.{first-fault, none-flat}
use Rattle.mesh_seen.proofs.Alike.{alike-face}
use Rattle.mesh_strokes.specs.Call.{Lent, laid, scratch_for, room_for}
use Rattle.mesh_draw.specs.declared.Sight.{Sight}
use Rattle.mesh_draw.specs.Call.{names_mode, mode_named, numbers_good, lengths_of, flat_in, work_verdict, verdict_of, draw_left}
use Rattle.mesh_draw.specs.Faults.{folded, tested, number_before, AllApart}

-- ---- the face that is carried

-- a refusal that carries a face is none of those that carry nothing: their tests were passed
through : (b : Bool) (other : Refusal) (v : Verdict) (r : Refusal) (face : ℕ) → carried_by other ≡ [] → carried_by r ≡ face ∷ [] → unless b other v ≡ Err r → (b ≡ true) × (v ≡ Err r)
unfolding unless
through true other v r face n c e = (refl, e)
through false other v r face n c e = let s : other ≡ r = cc in let z : ◌≡◌ {A = ℕ} 0 1 = cc (ap carried_by s) in absurd (omega arith)

-- all tests but that of the faces were passed
pub record Reached (vs : List Float) (is : List ℕ) (s : Sight) (faces : Verdict) : Type 0 where
  pub below : all_below (length vs / 3) is ≡ true
  pub good : numbers_good vs s ≡ true
  pub found : flat_in (mode_named s.number s.cosine) vs is ≡ faces

module _ (vs : List Float) (is flips : List ℕ) (s : Sight) (l l' : Lent) where
  refused-there : (why : Refusal) (face : ℕ) → carried_by why ≡ face ∷ [] → leaves (refused why) l' ≡ draw_left vs is flips s l → Reached vs is s (Err why)
  unfolding draw_left laid verdict_of work_verdict
  refused-there why face c e =
      let t : (b : Bool) (other : Refusal) (v : Verdict) → carried_by other ≡ [] → unless b other v ≡ Err why → (b ≡ true) × (v ≡ Err why) = λ b other v n h. through b other v why face n c h in
      let vertex = t _ Vertex _ refl (t _ Count _ refl (t _ Shape _ refl (was_refused _ _ _ _ why l' e)).1).1 in
      let number = t _ Number _ refl vertex.1 in
      record { below = vertex.0; good = number.0; found = (t _ Room _ refl (t _ Scratch _ refl number.1).1).1 }

  accepted-there : (points starts : ℕ) → leaves (accepted (points ∷ starts ∷ [])) l' ≡ draw_left vs is flips s l → Reached vs is s (Ok tt)
  unfolding draw_left verdict_of work_verdict
  accepted-there points starts e =
      let v = (was_accepted _ _ l' _ (points ∷ starts ∷ []) e).0 in
      let vertex = passed _ _ _ (passed _ _ _ (passed _ _ _ v).1).1 in
      let number = passed _ _ _ vertex.1 in
      record { below = vertex.0; good = number.0; found = (passed _ _ _ (passed _ _ _ number.1).1).1 }

  pub face-named : (why : Refusal) (face : ℕ) → carried_by why ≡ face ∷ [] → leaves (refused why) l' ≡ draw_left vs is flips s l
      → FirstFault (face_at vs is) (length is / 3) face × (why ≡ flaw_of (face_at vs is face) face)
  unfolding flat_in
  face-named why face c e = go (needs_of (mode_named s.number s.cosine)).normals (refused-there why face c e).found
    where
      go : (b : Bool) → cond b (flat_from (face_at vs is) 0 (length is / 3)) (Ok tt) ≡ Err why → FirstFault (face_at vs is) (length is / 3) face × (why ≡ flaw_of (face_at vs is face) face)
      go true h = first-fault (face_at vs is) (length is / 3) why face c h
      go false h = let z : ◌≡◌ {A = ℕ} 0 1 = cc in absurd (omega arith)

  -- ---- two corners alike

  -- what has passed the tests has no normal where two corners are alike
  apart : {faces : Verdict} → Reached vs is s faces → (f : ℕ) → f < length is / 3 → flat_of (face_at vs is f) ≡ false → alike_of (face_at vs is f) ≡ false
  unfolding numbers_good
  apart r f m e = go (alike_of (face_at vs is f)) (alike-face vs is (length is / 3) f (coordinates r.good) (all_reach _ is r.below) m)
    where
      coordinates : numbers_good vs s ≡ true → coordinates_good vs ≡ true
      coordinates h =
          let mode = names_mode s.number s.cosine in
          let eye = vector_good s.eye in
          (both (coordinates_good vs) mode (both (coordinates_good vs && mode) eye (both (coordinates_good vs && mode && eye) (tolerance_good s.tolerance) h).0).0).0

      go : (b : Bool) → (b ≡ true → flat_of (face_at vs is f) ≡ true) → b ≡ false
      go false h = refl
      go true h = absurd (true≢false (sym (h refl) ∙ e))

  -- below the face that is named there is none
  pub none-alike_below : (why : Refusal) (face : ℕ) → carried_by why ≡ face ∷ [] → leaves (refused why) l' ≡ draw_left vs is flips s l → AllApart vs is face
  none-alike_below why face c e f m =
      let k = (face-named why face c e).0 in
      apart (refused-there why face c e) f (omega (arith, k.inside, m)) (k.first f m)

  -- and none where a drawing that needs normals is accepted
  pub none_alike : (points starts : ℕ) → leaves (accepted (points ∷ starts ∷ [])) l' ≡ draw_left vs is flips s l → (needs_of (mode_named s.number s.cosine)).normals ≡ true
      → AllApart vs is (length is / 3)
  unfolding flat_in
  none_alike points starts e need f m =
      let r = accepted-there points starts e in
      let h = subst (λ (b : Bool). cond b (flat_from (face_at vs is) 0 (length is / 3)) (Ok tt) ≡ (Ok tt)) need r.found in
      apart r f m (none-flat (face_at vs is) (length is / 3) h f m)

-- ---- as it was before 10

some : (at : ℕ → Triangle) (f n : ℕ) → folded (verdict_said (flat_from at f n)).number ≡ cond (some_flat at f n) alike_number 0
unfolding flat_from face_verdict flaw_of unless some_flat
some at f zero = refl
some at f (suc n) = go (flat_of (at f)) (alike_of (at f)) (some at (f + 1) n)
  where
    go : (flat alike : Bool) → folded (verdict_said (flat_from at (f + 1) n)).number ≡ cond (some_flat at (f + 1) n) alike_number 0
        → folded (verdict_said (unless (not flat) (cond alike (Alike f) (NoLength f)) (flat_from at (f + 1) n))).number ≡ cond (flat || some_flat at (f + 1) n) alike_number 0
    go true true later = refl
    go true false later = refl
    go false a later = later

step : (b : Bool) (r : Refusal) (v : Verdict) (m : ℕ) → folded (number_of r) ≡ number_of r → folded (verdict_said v).number ≡ m → folded (verdict_said (unless b r v)).number ≡ tested b r m
unfolding unless
step true r v m e h = h
step false r v m e h = e

needed : (b some : Bool) (v : Verdict) → folded (verdict_said v).number ≡ cond some alike_number 0 → folded (verdict_said (cond b v (Ok tt))).number ≡ cond (b && some) alike_number 0
needed true some v h = h
needed false some v h = refl

module _ (vs : List Float) (is flips : List ℕ) (s : Sight) (l l' : Lent) where
  pub as_before : (r : Result Place Refusal) → leaves (placed_said r) l' ≡ draw_left vs is flips s l → folded (placed_said r).number ≡ number_before vs is (length flips) s (lengths_of l)
  unfolding draw_left laid verdict_of work_verdict flat_in number_before
  as_before r e =
      let n = length is / 3 in
      let at = lengths_of l in
      let need = (needs_of (mode_named s.number s.cosine)).normals in
      let flat = flat_from (face_at vs is) 0 n in
      let faces = cond need flat (Ok tt) in
      let room = unless (room_for n at.points at.starts) Room faces in
      let scratch = unless (scratch_for n at.words at.seen) Scratch room in
      let numbers = unless (numbers_good vs s) Number scratch in
      let vertices = unless (all_below (length vs / 3) is) Vertex numbers in
      let counts = unless (counted_of (length vs) (length is)) Count vertices in
      ap (λ (o : Outcome Lent). folded o.answer.number) e ∙ ap folded (answers _ _ _ _)
      ∙ step _ Shape counts _ refl
      (step _ Count vertices _ refl
      (step _ Vertex numbers _ refl
      (step _ Number scratch _ refl
      (step _ Scratch room _ refl
      (step _ Room faces _ refl (needed need (some_flat (face_at vs is) 0 n) flat (some (face_at vs is) 0 n)))))))
