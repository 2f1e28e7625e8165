-- The call as a whole: what its tests grant, and what it then leaves.
use Rattle.std.specs.Prelude.{Ok}
use mathlib.Core.Path.{◌≡◌, ◌∙◌}
use mathlib.Core.Bool.{true, ◌&&◌}
use mathlib.Core.List.{List, [], ◌∷◌}
use Prim.Native.Nat.{ℕ, ◌+◌, ◌-◌, ◌≤◌}
use native.Mathlib.Omega.{arith}
use lib.ListN.{length}
use lib.Seq.{sets}
use lib.Dec.{leb}
use borrow.Author.Tests.{leb-true}
use Rattle.refusal.specs.Limits.{most_strokes, most_points}
use Rattle.refusal.specs.Said.{accepted}
use Rattle.path.specs.Strokes.{gather}
use Rattle.path.specs.Laid.{over}
use Rattle.path.proofs.Tests.{passed, both}
use Rattle.path.proofs.Pushes.{over-sets}
use Rattle.path.proofs.Gathers.{length-gather}
use Rattle.mesh.specs.Meshes.{all_below}
use Rattle.sheet.specs.Sheets.{header_words, numbers_from, word_at, mode_in, vertices_in, stroke_count, point_count, starts_in, numbers_in, mode_good, counts_good, places_good, table_good, header_good, is_sheet}
use Rattle.sheet_read.specs.Call.{room_for, verdict_of, left, laid}
use Rattle.sheet.proofs.Sizes.{limits}

pub header_limits : (bs : List ℕ) → header_good bs ≡ true → (stroke_count bs ≤ most_strokes) × (point_count bs ≤ most_points)
unfolding header_good
header_limits bs h =
    let b = both (mode_good (mode_in bs) && counts_good (vertices_in bs) (stroke_count bs) (point_count bs)) (places_good bs (stroke_count bs) (point_count bs)) h in
    let l = limits (vertices_in bs) (stroke_count bs) (point_count bs) (both (mode_good (mode_in bs)) (counts_good (vertices_in bs) (stroke_count bs) (point_count bs)) b.0).1 in
    (l.0, l.1)

-- the tests of starts and numbers, by the words that the code has read
module _ (bs : List ℕ) (s n : ℕ) (es : s ≡ stroke_count bs) (en : n ≡ point_count bs) where
  pub table_is : table_good n (gather (word_at bs) header_words s) ≡ table_good (point_count bs) (starts_in bs)
  unfolding starts_in
  table_is = rw (es, en)

  pub below-is : (k v : ℕ) → k ≡ numbers_from s → v ≡ vertices_in bs → all_below v (gather (word_at bs) k (k + n - k)) ≡ all_below (vertices_in bs) (numbers_in bs)
  unfolding numbers_in
  below-is k v ek ev = let e : k + n - k ≡ n = omega arith in rw e (rw (ek, es, en, ev))

-- what an accepted call has been tested for
pub record Granted (bs : List ℕ) (room start_room : ℕ) : Type 0 where
  pub strokes : stroke_count bs ≤ most_strokes
  pub points : point_count bs ≤ most_points
  pub room_points : point_count bs ≤ room
  pub room_starts : stroke_count bs ≤ start_room

pub granted : (bs : List ℕ) (room start_room : ℕ) → verdict_of bs room start_room ≡ (Ok tt) → Granted bs room start_room
unfolding verdict_of is_sheet room_for
granted bs room start_room h =
    let sheet = passed _ _ _ h in
    let fit = both (leb (point_count bs) room) (leb (stroke_count bs) start_room) (passed _ _ _ sheet.1).0 in
    let b = both (header_good bs && table_good (point_count bs) (starts_in bs)) (all_below (vertices_in bs) (numbers_in bs)) sheet.0 in
    let few = header_limits bs (both (header_good bs) (table_good (point_count bs) (starts_in bs)) b.0).0 in
    record { strokes = few.0; points = few.1; room_points = leb-true _ _ fit.0; room_starts = leb-true _ _ fit.1 }

module _ (bs on os : List ℕ) where
  pub all_read : point_count bs ≤ length on → stroke_count bs ≤ length os → (m n s p k : ℕ) → m ≡ mode_in bs → n ≡ vertices_in bs → s ≡ stroke_count bs → p ≡ point_count bs → k ≡ numbers_from s
      → (on' os' : List ℕ) → on' ≡ sets on 0 (gather (word_at bs) k p) → os' ≡ sets os 0 (gather (word_at bs) header_words s)
      → left (accepted (p ∷ s ∷ m ∷ n ∷ [])) on' os' ≡ laid bs on os
  unfolding laid numbers_in starts_in
  all_read hp hs m n s p k em en es ep ek on' os' e f =
      let a : on' ≡ over on (gather (word_at bs) (numbers_from (stroke_count bs)) (point_count bs)) = rw (ek, es, ep) at e ∙ over-sets on (gather (word_at bs) (numbers_from (stroke_count bs)) (point_count bs)) (omega (arith, length-gather (word_at bs) (numbers_from (stroke_count bs)) (point_count bs))) in
      let b : os' ≡ over os (gather (word_at bs) header_words (stroke_count bs)) = rw es at f ∙ over-sets os (gather (word_at bs) header_words (stroke_count bs)) (omega (arith, length-gather (word_at bs) header_words (stroke_count bs))) in
      same_left em en es ep a b
    where
      same_left : {m m₁ n n₁ s s₁ p p₁ : ℕ} {x x₁ y y₁ : List ℕ} → m ≡ m₁ → n ≡ n₁ → s ≡ s₁ → p ≡ p₁ → x ≡ x₁ → y ≡ y₁ → left (accepted (p ∷ s ∷ m ∷ n ∷ [])) x y ≡ left (accepted (p₁ ∷ s₁ ∷ m₁ ∷ n₁ ∷ [])) x₁ y₁
      same_left a b d e f g = cc
