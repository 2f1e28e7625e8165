-- What was written is read as the weld of the corners that were written; what was read can be written, and read again is the same mesh.
use Rattle.std.specs.Prelude.{Ok}
use mathlib.Core.Path.{◌≡◌, refl, sym, ap, ◌∙◌}
use mathlib.Core.Bool.{Bool, true, not, ◌&&◌}
use mathlib.Core.List.{List, [], ◌∷◌}
use Prim.Native.Nat.{ℕ, zero, suc, ◌+◌, ◌*◌, ◌/◌, ◌%◌, ◌≤◌}
use native.Mathlib.Omega.{arith}
use lib.ListN.{length, get_or, take, drop, replicate}
use lib.Seq.{take-append_seam}
use lib.Ieee.{Float, is_nan}
use borrow.Author.Tests.{leb-true, le-leb, eqb-true, eq-eqb}
use Rattle.refusal.specs.Limits.{most_faces, most_vertices}
use Rattle.refusal.specs.Said.{accepted}
use Rattle.refusal.specs.Refusals.{unless}
use Rattle.refusal.specs.Outcome.{Outcome, leaves}
use Rattle.refusal.proofs.Unique.{same-values}
use Rattle.refusal.proofs.Outcomes.{accept, was_accepted}
use Rattle.single.specs.Singles.{is_single}
use Rattle.single.proofs.Patterns.{value_single}
use Rattle.byte_words.specs.Bytes.{word_from}
use Rattle.path.specs.Strokes.{gather}
use Rattle.path.specs.Laid.{over}
use Rattle.path.specs.Tests.{most_coordinate, all_within, coordinate_good, coordinates_good}
use Rattle.path.proofs.Tests.{passed, both}
use Rattle.mesh.specs.Meshes.{gathered, shaped_of, counted_of, all_below}
use Rattle.stl.specs.Files.{face_numbers, size_of, place_of, is_stl, coordinate_in, coordinates_in, stl_of, all_single}
use Rattle.stl.proofs.Back.{is_stl_lem, coordinates_are}
use Rattle.stl_write.specs.Call as W
use Rattle.refusal.specs.Said.{value_said}
use Rattle.stl_write.proofs.Corners.{number_within}
use Rattle.stl_write.proofs.Back.{written-file, read_back}
use Rattle.mesh_weld.specs.Weld.{Merged, weld_of}
use Rattle.mesh_weld.specs.Call as M
use Rattle.mesh_weld.specs.Read.{read_verdict, read_left}
use Rattle.stl_again.specs.Returns.{ReadsAsWeld, Returns}
use Rattle.stl_again.proofs.Vertices.{Counts, welded-counts, all_of, corners_have, corners_length, vertices_good, corners_good}
use Rattle.stl_again.proofs.Again.{weld_again}

-- bytes that are a file are read as the weld of the corners in them
as_weld : (bs : List ℕ) (cs : List Float) → is_stl bs ≡ true → coordinates_in bs ≡ cs → ReadsAsWeld bs cs
unfolding read_left read_verdict M.weld_left unless
as_weld bs cs h e = λ s us js. rw (h, e)

-- what an accepted `write_stl` wrote
pub written_read : (vs : List Float) (is out l : List ℕ) (n : ℕ) → W.left (value_said (Ok n)) l ≡ W.write_left vs is out → ReadsAsWeld (take n l) (gathered vs is)
written_read vs is out l n h = as_weld (take n l) (gathered vs is) (written-file vs is out l n h) (read_back vs is out l n h)

-- ---- what is read is exactly f32
abbrev held : Float → Bool
held c = is_single c && not (is_nan c)

all_held : (cs : List Float) → all_single cs ≡ all_of held cs
unfolding all_single all_of
all_held [] = refl
all_held (c ∷ cs) = ap (λ (b : Bool). is_single c && not (is_nan c) && b) (all_held cs)

corners_single : (cs : List Float) → all_single cs ≡ true → all_single (gathered (weld_of cs).vertices (weld_of cs).indices) ≡ true
corners_single cs h = all_held _ ∙ corners_have held cs (sym (all_held cs) ∙ h)

single_from : (bs : List ℕ) (k n : ℕ) → all_within most_coordinate (gather (coordinate_in bs) k n) ≡ true → all_single (gather (coordinate_in bs) k n) ≡ true
unfolding gather all_single
single_from bs k zero h = refl
single_from bs k (suc n) h =
    let b = both (coordinate_good (coordinate_in bs k)) (all_within most_coordinate (gather (coordinate_in bs) (k + 1) n)) h in
    rw (value_single (word_from bs (place_of k)), number_within (coordinate_in bs k) b.0) (single_from bs (k + 1) n b.1)

all_single_lem : (bs : List ℕ) → coordinates_good (coordinates_in bs) ≡ true → all_single (coordinates_in bs) ≡ true
unfolding coordinates_in coordinates_good
all_single_lem bs h = single_from bs 0 _ h

-- ---- the mesh of nine coordinates a face, within the limits and exactly f32
module _ (cs : List Float) (n : ℕ) (whole : length cs ≡ face_numbers * n) (few : n ≤ most_faces) (good : coordinates_good cs ≡ true) (single : all_single cs ≡ true) where
  abbrev mesh : Merged
  mesh = weld_of cs

  abbrev corners : List Float
  corners = gathered mesh.vertices mesh.indices

  counts : Counts mesh (length cs / 3)
  counts = welded-counts cs

  long : length corners ≡ face_numbers * n
  long = omega (arith, corners_length cs, whole)

  shaped : shaped_of (length mesh.vertices) (length mesh.indices) ≡ true
  unfolding shaped_of
  shaped = rw (eq-eqb (length mesh.vertices % 3) 0 (omega (arith, counts.wide)), eq-eqb (length mesh.indices % 3) 0 (omega (arith, counts.long, whole)))

  counted : counted_of (length mesh.vertices) (length mesh.indices) ≡ true
  unfolding counted_of
  counted =
      rw (
        le-leb (length mesh.vertices / 3) most_vertices (omega (arith, counts.wide, counts.few, whole, few)),
        le-leb (length mesh.indices / 3) most_faces (omega (arith, counts.long, whole, few)),
      )

  below : all_below (length mesh.vertices / 3) mesh.indices ≡ true
  below = let e : length mesh.vertices / 3 ≡ mesh.count = omega (arith, counts.wide) in ap (λ (k : ℕ). all_below k mesh.indices) e ∙ counts.low

  numbers : W.numbers_good mesh.vertices mesh.indices ≡ true
  unfolding W.numbers_good
  numbers = rw (vertices_good cs good) (corners_single cs single)

  tested : (room : ℕ) → size_of (length mesh.indices / 3) ≤ room → W.verdict_of mesh.vertices mesh.indices room ≡ (Ok tt)
  unfolding W.verdict_of unless
  tested room h = rw (shaped, counted, below, numbers, le-leb (size_of (length mesh.indices / 3)) room h)

  can_write : (out : List ℕ) → size_of (length mesh.indices / 3) ≤ length out → W.write_left mesh.vertices mesh.indices out ≡ W.laid (stl_of corners) out
  unfolding W.write_left
  can_write out h = sym (accept (W.verdict_of mesh.vertices mesh.indices (length out)) (W.lent out) (W.laid (stl_of corners) out) (tested (length out) h) refl)

  -- the file of these corners, and its weld
  is_file : ReadsAsWeld (stl_of corners) corners
  is_file = as_weld (stl_of corners) corners (is_stl_lem corners n long (omega (arith, few))) (coordinates_are corners n long (omega (arith, few)) (corners_single cs single))

  granted : (words room numbers : ℕ) → length mesh.indices * 4 ≤ words → length mesh.indices * 3 ≤ room → length mesh.indices ≤ numbers
      → M.verdict_of corners words room numbers ≡ (Ok tt)
  unfolding M.verdict_of M.lent_verdict unless
  granted words room numbers h j k =
      rw (
        eq-eqb (length corners % 9) 0 (omega (arith, long)),
        le-leb (length corners / 9) most_faces (omega (arith, long, few)),
        corners_good cs good,
        le-leb (length corners / 9 * 12) words (omega (arith, long, counts.long, whole, h)),
        le-leb (length corners / 9 * 9) room (omega (arith, long, counts.long, whole, j)),
        le-leb (length corners / 9 * 3) numbers (omega (arith, long, counts.long, whole, k)),
      )

  again : (s : List ℕ) (us : List Float) (js : List ℕ)
      → M.welded corners s us js ≡ M.left (accepted (length mesh.vertices / 3 ∷ length mesh.indices ∷ [])) (replicate (length s) 0) (over us mesh.vertices) (over js mesh.indices)
  unfolding M.welded
  again s us js = let e : mesh.count ≡ length mesh.vertices / 3 = omega (arith, counts.wide) in rw (weld_again cs good, e)

  can_read : (s : List ℕ) (us : List Float) (js : List ℕ) → length mesh.indices * 4 ≤ length s → length mesh.indices * 3 ≤ length us → length mesh.indices ≤ length js
      → read_left (stl_of corners) s us js ≡ M.left (accepted (length mesh.vertices / 3 ∷ length mesh.indices ∷ [])) (replicate (length s) 0) (over us mesh.vertices) (over js mesh.indices)
  unfolding M.weld_left
  can_read s us js h j k =
      is_file s us js
      ∙ sym (accept (M.verdict_of corners (length s) (length us) (length js)) (M.lent s us js) (M.welded corners s us js) (granted _ _ _ h j k) refl)
      ∙ again s us js

  returns : Returns mesh.vertices mesh.indices
  returns = record { written = can_write; read = can_read }

-- ---- what an accepted `read_stl` read
module _ (bs s : List ℕ) (vs : List Float) (is : List ℕ) (v n : ℕ) (l : M.Lent) (h : leaves (M.said (Ok (record { vertices = v; indices = n }))) l ≡ read_left bs s vs is) where
  abbrev corners_in : List Float
  corners_in = coordinates_in bs

  told : (read_verdict bs (length s) (length vs) (length is) ≡ (Ok tt)) × (leaves (accepted (v ∷ n ∷ [])) l ≡ M.welded corners_in s vs is)
  unfolding read_left
  told = was_accepted (read_verdict bs (length s) (length vs) (length is)) (M.lent s vs is) l (M.welded corners_in s vs is) (v ∷ n ∷ []) h

  passes : (length corners_in ≡ face_numbers * (length corners_in / 9)) × (length corners_in / 9 ≤ most_faces) × (coordinates_good corners_in ≡ true)
  unfolding read_verdict M.verdict_of
  passes =
      let shape = passed _ _ _ (passed _ _ _ told.0).1 in
      let count = passed _ _ _ shape.1 in
      let e = eqb-true (length corners_in % 9) 0 shape.0 in
      (omega (arith, e), leb-true (length corners_in / 9) most_faces count.0, (passed _ _ _ count.1).0)

  values : ◌≡◌ {A = List ℕ} (v ∷ n ∷ []) ((weld_of corners_in).count ∷ length (weld_of corners_in).indices ∷ [])
  unfolding M.welded
  values = same-values (ap (λ (o : Outcome M.Lent). o.answer) told.1)

  vertices_are : take (v * 3) l.vertices ≡ (weld_of corners_in).vertices
  unfolding M.welded over
  vertices_are =
      let e : v * 3 ≡ length (weld_of corners_in).vertices = omega (arith, ap (λ (xs : List ℕ). get_or xs 0 0) values, (welded-counts corners_in).wide) in
      ap (λ (k : ℕ). take k l.vertices) e ∙ ap (λ (o : Outcome M.Lent). take (length (weld_of corners_in).vertices) o.lent.vertices) told.1
      ∙ take-append_seam (weld_of corners_in).vertices (drop (length (weld_of corners_in).vertices) vs)

  indices_are : take n l.indices ≡ (weld_of corners_in).indices
  unfolding M.welded over
  indices_are =
      let e : n ≡ length (weld_of corners_in).indices = ap (λ (xs : List ℕ). get_or xs 1 0) values in
      ap (λ (k : ℕ). take k l.indices) e ∙ ap (λ (o : Outcome M.Lent). take (length (weld_of corners_in).indices) o.lent.indices) told.1
      ∙ take-append_seam (weld_of corners_in).indices (drop (length (weld_of corners_in).indices) is)

  pub read_returns : Returns (take (v * 3) l.vertices) (take n l.indices)
  read_returns =
      rw (vertices_are, indices_are)
      (returns corners_in (length corners_in / 9) passes.0 passes.1 passes.2 (all_single_lem bs passes.2))
