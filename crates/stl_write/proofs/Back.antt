-- What an accepted call leaves: the bytes written are a file, and the coordinates read from it are those of the corners, bit for bit.
use Rattle.std.specs.Prelude.{Ok}
use mathlib.Core.Path.{◌≡◌, sym, ap, ◌∙◌}
use mathlib.Core.Bool.{true}
use mathlib.Core.List.{List, [], ◌∷◌}
use Prim.Native.Nat.{ℕ, ◌/◌, ◌^◌, ◌<◌}
use native.Mathlib.Omega.{arith}
use lib.ListN.{length, get_or, take, drop}
use lib.Seq.{take-append_seam, drop-append_seam}
use lib.Ieee.{Float}
use Rattle.refusal.specs.Said.{accepted, value_said}
use Rattle.refusal.specs.Outcome.{Outcome, leaves}
use Rattle.refusal.proofs.Unique.{same-values}
use Rattle.refusal.proofs.Outcomes.{was_accepted}
use Rattle.path.specs.Laid.{over}
use Rattle.mesh.specs.Meshes.{gathered}
use Rattle.stl.specs.Files.{is_stl, coordinates_in, stl_of}
use Rattle.stl.proofs.Back.{is_stl_lem, coordinates_are}
use Rattle.stl_write.specs.Call.{Lent, lent, left, laid, verdict_of, write_left}
use Rattle.stl_write.proofs.Calls.{Granted, granted, all_gathered}

module _ (vs : List Float) (is out l : List ℕ) (n : ℕ) (h : left (value_said (Ok n)) l ≡ write_left vs is out) where
  abbrev File : List ℕ
  File = stl_of (gathered vs is)

  told : (verdict_of vs is (length out) ≡ (Ok tt)) × (leaves (accepted (n ∷ [])) (lent l) ≡ laid File out)
  unfolding write_left
  told = was_accepted (verdict_of vs is (length out)) (lent out) (lent l) (laid File out) (n ∷ []) h

  tested : Granted vs is (length out)
  tested = granted vs is (length out) told.0

  size : n ≡ length File
  unfolding laid
  size = ap (λ (xs : List ℕ). get_or xs 0 0) (same-values (ap (λ (o : Outcome Lent). o.answer) told.1))

  holds : l ≡ over out File
  unfolding laid
  holds = ap (λ (o : Outcome Lent). o.lent.bytes) told.1

  -- the file stands first, and the rest is as it was
  pub written : take n l ≡ File
  unfolding over
  written = ap (λ (k : ℕ). take k l) size ∙ ap (take (length File)) holds ∙ take-append_seam File (drop (length File) out)

  pub kept : drop n l ≡ drop n out
  unfolding over
  kept =
      ap (λ (k : ℕ). drop k l) size ∙ ap (drop (length File)) holds ∙ drop-append_seam File (drop (length File) out)
      ∙ ap (λ (k : ℕ). drop k out) (sym size)

  few : length is / 3 < 2 ^ 32
  few = omega (arith, tested.few)

  pub written-file : is_stl (take n l) ≡ true
  written-file = ap is_stl written ∙ is_stl_lem (gathered vs is) (length is / 3) (all_gathered vs is (length is / 3) tested.whole) few

  pub read_back : coordinates_in (take n l) ≡ gathered vs is
  read_back = ap coordinates_in written ∙ coordinates_are (gathered vs is) (length is / 3) (all_gathered vs is (length is / 3) tested.whole) few tested.exact
