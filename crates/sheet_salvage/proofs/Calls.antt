-- The call as a whole: what its tests grant, what the parts come to, and what it leaves.
use Rattle.std.specs.Prelude.{Ok}
use mathlib.Core.Path.{◌≡◌, refl, sym, ap, ◌∙◌}
use mathlib.Core.Bool.{true, ◌&&◌, cond}
use mathlib.Core.List.{List, [], ◌∷◌}
use Prim.Native.Nat.{ℕ, ◌+◌, ◌-◌, ◌*◌, ◌≤◌}
use native.Mathlib.Omega.{arith}
use lib.ListN.{length}
use lib.Seq.{sets}
use lib.Dec.{leb, eqb}
use borrow.Author.Tests.{leb-true}
use Rattle.refusal.specs.Limits.{most_strokes, most_points}
use Rattle.refusal.specs.Refusals.{unless}
use Rattle.refusal.specs.Said.{Said, accepted}
use Rattle.byte_words.specs.Bytes.{bytes_all}
use Rattle.path.specs.Strokes.{gather}
use Rattle.path.specs.Laid.{over, joined, starts_from}
use Rattle.path.specs.declared.Place.{Place}
use Rattle.path.proofs.Gathers.{length-gather}
use Rattle.path.proofs.Pushes.{front, length-starts, over-sets}
use Rattle.path.proofs.Tests.{both, passed}
use Rattle.sheet.specs.Sheets.{header_words, numbers_from, word_at, header_of, sheet_of, size_of, mode_in, vertices_in, stroke_count, starts_in, mode_good, counts_good}
use Rattle.sheet.proofs.Sizes.{limits, words_size}
use Rattle.sheet.proofs.Words.{all_put}
use Rattle.sheet_salvage.specs.Salvage.{header_usable, taken_count, behind, point_in, strokes_taken, saved_in, changed, offsets_by, offsets_changed, starts_ignored, wild_of, wild_in, leftovers_in}
use Rattle.sheet_salvage.specs.InnerPieces.{stroked_count, saved_by, ignored_by, after, laid_at}
use Rattle.sheet_salvage.specs.InnerScan.{good_of}
use Rattle.sheet_salvage.specs.Call.{kept_verdict, verdict_of, left, salvaged, reported, laid}
use Rattle.sheet_salvage.proofs.Held.{taken_few}
use Rattle.sheet_salvage.proofs.Starts.{saved_words, saved_some, joined-taken, ignored_all}
use Rattle.sheet_salvage.proofs.Points.{good-wild}
use Rattle.sheet_salvage.proofs.Counts.{taken_count_lem}

-- what a header that can be gone by grants
pub few_strokes : (bs : List ℕ) → header_usable bs ≡ true → stroke_count bs ≤ most_strokes
unfolding header_usable
few_strokes bs h =
    let a = both (mode_good (mode_in bs) && counts_good (vertices_in bs) (stroke_count bs) 0) (leb (4 * numbers_from (stroke_count bs)) (length bs)) h in
    (limits (vertices_in bs) (stroke_count bs) 0 (both (mode_good (mode_in bs)) (counts_good (vertices_in bs) (stroke_count bs) 0) a.0).1).0

-- the points that strokes have, as the code has read them
pub stroked_is : (bs : List ℕ) (s m r : ℕ) → s ≡ stroke_count bs → m ≡ taken_count bs → r ≡ cond (eqb s 0) 0 m → r ≡ stroked_count bs
stroked_is bs s m r es em er = er ∙ rw (es, em)

pub saved_read : (bs : List ℕ) (n s m : ℕ) → n ≡ vertices_in bs → s ≡ stroke_count bs → m ≡ taken_count bs → saved_by n (behind bs (numbers_from s)) m s (word_at bs) 1 0 ≡ saved_in bs
saved_read bs n s m en es em = rw (en, es, em) (saved_words bs)

-- the counts of what is kept
module _ (bs : List ℕ) (kept : Place) (q : kept ≡ after front (saved_in bs)) where
  pub kept-starts : kept.starts ≡ length (saved_in bs)
  kept-starts = let e : kept.starts ≡ 0 + length (saved_in bs) = ap (λ (x : Place). x.starts) q in omega arith

  pub kept-points : kept.points ≡ length (joined (saved_in bs))
  kept-points = let e : kept.points ≡ 0 + length (joined (saved_in bs)) = ap (λ (x : Place). x.points) q in omega arith

  pub few_points : kept.points ≤ most_points
  few_points = let f = taken_few bs in omega (arith, kept-points, taken_count_lem bs)

  -- header, starts and numbers are the sheet
  pub kept_put : (out l₁ l₂ : List ℕ) (m v base : ℕ) → m ≡ mode_in bs → v ≡ vertices_in bs → base ≡ numbers_from kept.starts
      → l₁ ≡ sets out 0 (bytes_all (header_of m v kept.starts kept.points)) → l₂ ≡ laid_at l₁ base front (saved_in bs) → l₂ ≡ sets out 0 (salvaged bs)
  unfolding laid_at salvaged sheet_of
  kept_put out l₁ l₂ m v base em ev eb e₁ e₂ =
      let ks = starts_from 0 (saved_in bs) in
      let ns = joined (saved_in bs) in
      let s : kept.starts ≡ length ks = kept-starts ∙ sym (length-starts 0 (saved_in bs)) in
      let h : l₁ ≡ sets out 0 (bytes_all (header_of (mode_in bs) (vertices_in bs) (length ks) (length ns))) = e₁ ∙ rw (em, ev, s, kept-points) in
      let z : base + 0 ≡ base = omega arith in
      rw (saved_some bs) (all_put out (mode_in bs) (vertices_in bs) ks ns base l₁ (sets l₁ (header_words * 4) (bytes_all ks)) l₂ h refl (eb ∙ ap (λ (x : ℕ). numbers_from x) s) (rw z at e₂))

-- how long the sheet is
pub salvaged-length : (bs : List ℕ) → length (salvaged bs) ≡ size_of (length (saved_in bs)) (length (joined (saved_in bs)))
unfolding salvaged sheet_of
salvaged-length bs = rw (saved_some bs) (words_size (mode_in bs) (vertices_in bs) (starts_from 0 (saved_in bs)) (joined (saved_in bs)) ∙ ap (λ (x : ℕ). size_of x (length (joined (saved_in bs)))) (length-starts 0 (saved_in bs)))

-- the points below the vertex count and those dropped for their number are all that strokes have
pub good-is : (bs : List ℕ) (n s m g : ℕ) → n ≡ vertices_in bs → s ≡ stroke_count bs → m ≡ taken_count bs → g ≡ good_of n (gather (behind bs (numbers_from s)) 0 (cond (eqb s 0) 0 m)) → g + wild_in bs ≡ stroked_count bs
unfolding wild_in
good-is bs n s m g en es em eg =
    let f : g ≡ good_of (vertices_in bs) (gather (point_in bs) 0 (stroked_count bs)) = eg ∙ rw (en, es, em) in
    let w : wild_of (vertices_in bs) (joined (strokes_taken bs)) ≡ wild_of (vertices_in bs) (gather (point_in bs) 0 (stroked_count bs)) = ap (wild_of (vertices_in bs)) (joined-taken bs) in
    omega (arith, f, w, good-wild (vertices_in bs) (gather (point_in bs) 0 (stroked_count bs)), length-gather (point_in bs) 0 (stroked_count bs))

pub ignored_read : (bs : List ℕ) (s m x : ℕ) → s ≡ stroke_count bs → m ≡ taken_count bs → x ≡ ignored_by m s (word_at bs) 1 0 → x ≡ ignored_by (taken_count bs) (stroke_count bs) (word_at bs) 1 0
ignored_read bs s m x es em e = e ∙ rw (es, em)

pub ignored_is : (bs : List ℕ) (m s x r : ℕ) → m ≡ taken_count bs → s ≡ stroke_count bs → x ≡ ignored_by (taken_count bs) (stroke_count bs) (word_at bs) 1 0
    → r ≡ cond (eqb s 0) x (cond (eqb m 0) x (changed (word_at bs header_words) 0 + x)) → r ≡ starts_ignored bs
unfolding starts_ignored starts_in
ignored_is bs m s x r em es ex er = er ∙ rw (em, es) (ignored_all (taken_count bs) (word_at bs) (stroke_count bs) x ex)

pub offsets_are : (bs : List ℕ) (s : ℕ) → s ≡ length (saved_in bs) → offsets_by bs s ≡ offsets_changed bs
unfolding offsets_changed
offsets_are bs s e = rw e

-- what is left of the points taken
pub left_over : (bs : List ℕ) (m p w : ℕ) → m ≡ taken_count bs → p ≡ length (joined (saved_in bs)) → w ≡ wild_in bs → (p ≤ m) × (w ≤ m - p) × (m - p - w ≡ leftovers_in bs)
left_over bs m p w em ep ew = let t = taken_count_lem bs in (omega arith, omega arith, omega arith)

pub all_told : (bs : List ℕ) (a b d e f : ℕ) → a ≡ length (salvaged bs) → b ≡ offsets_changed bs → d ≡ starts_ignored bs → e ≡ wild_in bs → f ≡ leftovers_in bs → accepted (a ∷ b ∷ d ∷ e ∷ f ∷ []) ≡ reported bs
unfolding reported
all_told bs a b d e f ea eb ed ee ef = rw (ea, eb, ed, ee, ef)

-- ---- the verdict

pub granted : (strokes points room : ℕ) → kept_verdict strokes points room ≡ (Ok tt) → (strokes ≤ most_strokes) × (size_of strokes points ≤ room)
unfolding kept_verdict
granted strokes points room h =
    let a = passed _ _ _ h in
    let b = passed _ _ _ a.1 in
    (leb-true strokes most_strokes a.0, leb-true (size_of strokes points) room b.0)

pub verdict_is : (bs : List ℕ) (kept : Place) → kept ≡ after front (saved_in bs) → (room : ℕ) → header_usable bs ≡ true → kept_verdict kept.starts kept.points room ≡ verdict_of bs room
unfolding verdict_of unless
verdict_is bs kept q room h = rw (h, kept-starts bs kept q, kept-points bs kept q)

-- the answer, and the sheet in the bytes lent
pub all_left : (bs out out' : List ℕ) (said : Said ℕ) → said ≡ reported bs → out' ≡ sets out 0 (salvaged bs) → length (salvaged bs) ≤ length out → left said out' ≡ laid bs out
unfolding laid
all_left bs out out' said es eo h = let a : out' ≡ over out (salvaged bs) = eo ∙ over-sets out (salvaged bs) h in rw (es, a)
