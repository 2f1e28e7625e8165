-- The words of segments: what is numbered and filled in, threaded, and read out.
use mathlib.Core.Path.{◌≡◌, refl, sym, ap, ◌∙◌}
use mathlib.Core.Bool.{true, false}
use mathlib.Core.Logic.{inl, inr}
use mathlib.Core.List.{List, [], ◌∷◌, ◌++◌, map}
use Prim.Native.Nat.{ℕ, ◌+◌, ◌-◌, ◌*◌, ◌≤◌, ◌<◌}
use native.Mathlib.Omega.{arith}
use lib.ListN.{length, get_or, take, drop, replicate, length-append, length-drop, length-replicate}
use lib.Seq.{take-take, take_at, take_all}
use lib.Dec.{eqb}
use lib.Ieee.{Float}
use borrow.Author.Tests.{le-leb}
use Rattle.refusal.specs.Limits.{most_strokes, most_points}
use Rattle.refusal.specs.Said.{Said, accepted}
use Rattle.vector.specs.declared.Vector.{Vector}
use Rattle.order.specs.Regions.{region, put}
use Rattle.order.proofs.Parts.{length-put, region-put, region-off}
use Rattle.path.specs.Strokes.{gather, point_at}
use Rattle.path.specs.Laid.{over}
use Rattle.path.specs.InnerPushes.{put_points}
use Rattle.path.proofs.Gathers.{length-gather, gather-at}
use Rattle.path.proofs.Points.{points_lie}
use Rattle.path_splice_rule.specs.Splice.{present, value_at}
use Rattle.path_splice_rule.specs.Demand.{Law}
use Rattle.path_splice_links.specs.Walk.{Woven, threaded, thread_in}
use Rattle.path_splice_links.proofs.Threads.{threads_woven}
use Rattle.path_splice.specs.InnerText.{order_text, marks_of, ReadOut}
use Rattle.path_splice.proofs.Answers.{text_most, marks-most, laid_by}
use Rattle.path_classes.specs.Classes.{same_point, class_of, numbered}
use Rattle.path_classes.proofs.Same.{point_eq, point_self}
use Rattle.path_classes.proofs.Classing.{class-agree}
use Rattle.path_splice.specs.InnerPairs.{strokes_fit}
use Rattle.path_segments.specs.Join.{segments_in, origin, join_of, left, laid, join_fits, join_left}
use Rattle.path_segments.specs.InnerJoin.{Drawn}
use Rattle.path_segments.proofs.Segments.{segments-count, segments-there, segments-points, value-is}

-- ---- what is numbered, filled in and threaded

-- the test of points is true exactly of equal ones
pub points_lawful : Law same_point
points_lawful = record { eq = point_eq; self = point_self }

module _ (ps : List Float) (n c : ℕ) (s₀ s1 s2 s3 : List ℕ) (H : 12 * n ≤ length s₀) (few : n ≤ most_strokes) (e1 : s1 ≡ numbered ps (2 * n) s₀) (e2 : s2 ≡ put s1 (6 * n) (replicate n 1))
    (k3 : length s3 ≡ length s2) (e3 : threaded c s3 ≡ thread_in s2 n) (low : c ≤ n) where
  abbrev Given : List (List Vector)
  Given = segments_in ps n

  abbrev classes : List ℕ
  classes = gather (class_of same_point (point_at ps)) 0 (2 * n)

  abbrev front : List ℕ
  front = classes ++ replicate (5 * (2 * n)) 0

  numbered_is : s1 ≡ put s₀ 0 front
  unfolding numbered
  numbered_is = rw (le-leb (2 * n) (2 * most_strokes) (omega arith), le-leb (6 * (2 * n)) (length s₀) (omega arith)) at e1

  long-classes : length classes ≡ 2 * n
  long-classes = length-gather (class_of same_point (point_at ps)) 0 (2 * n)

  long-front : length front ≡ 12 * n
  long-front = omega (arith, length-append classes (replicate (5 * (2 * n)) 0), length-replicate {A = ℕ} (5 * (2 * n)) 0, long-classes)

  long-there : length (replicate {A = ℕ} n 1) ≡ n
  long-there = length-replicate {A = ℕ} n 1

  long-1 : length s1 ≡ length s₀
  long-1 = ap length numbered_is ∙ length-put s₀ 0 front

  long-2 : length s2 ≡ length s₀
  long-2 = ap length e2 ∙ length-put s1 (6 * n) (replicate n 1) ∙ long-1

  woven : Woven s2 s3 n c
  woven = threads_woven s2 s3 n c (omega (arith, long-2)) few low e3

  values_are : region s2 0 (2 * n) ≡ classes
  values_are =
      ap (λ (z : List ℕ). region z 0 (2 * n)) e2 ∙ region-off s1 (6 * n) (replicate n 1) 0 (2 * n) (inr (omega arith)) (omega (arith, long-1))
      ∙ ap (λ (z : List ℕ). region z 0 (2 * n)) numbered_is ∙ sym (take-take (2 * n) (12 * n) (put s₀ 0 front) (omega arith))
      ∙ ap (take (2 * n)) (region-put s₀ 0 (12 * n) front long-front (omega arith)) ∙ take_at classes (replicate (5 * (2 * n)) 0) (2 * n) long-classes

  todo_is : region s2 (6 * n) n ≡ map present Given
  todo_is = ap (λ (z : List ℕ). region z (6 * n) n) e2 ∙ region-put s1 (6 * n) n (replicate n 1) long-there (omega (arith, long-1)) ∙ sym (segments-there ps n)

  class_is : (e : ℕ) → e < 2 * n → get_or (region s2 0 (2 * n)) e 0 ≡ class_of same_point (point_at ps) e
  class_is e h = let z : 0 + e ≡ e = omega arith in ap (λ (l : List ℕ). get_or l e 0) values_are ∙ sym (rw z at (gather-at (class_of same_point (point_at ps)) 0 (2 * n) e 0 h))

  agree : (e f : ℕ) → e < 2 * n → f < 2 * n → eqb (get_or (region s2 0 (2 * n)) e 0) (get_or (region s2 0 (2 * n)) f 0) ≡ same_point (value_at origin Given e) (value_at origin Given f)
  agree e f h k = rw (class_is e h, class_is f k, value-is ps n e h, value-is ps n f k) (class-agree same_point (point_at ps) point_eq point_self e f)

  order_is : region s3 (2 * n) (2 * n + c - 2 * n) ≡ region s3 (2 * n) c
  order_is = let z : 2 * n + c - 2 * n ≡ c = omega arith in ap (region s3 (2 * n)) z

  few_points : length (order_text Given (region s3 (2 * n) c)) ≤ 2 * n
  few_points = omega (arith, text_most origin same_point points_lawful Given s2 s3 n c (segments-count ps n) todo_is agree woven, segments-points ps n)

  -- what is asked of the reading
  pub asks : (length (order_text Given (region s3 (2 * n) (2 * n + c - 2 * n))) ≤ most_points) × (length (marks_of Given 0 (region s3 (2 * n) (2 * n + c - 2 * n))) ≤ most_strokes)
  asks = rw order_is (omega (arith, few_points), omega (arith, marks-most origin same_point points_lawful Given s2 s3 n c (segments-count ps n) todo_is agree woven))

  rest_is : drop (12 * n) s3 ≡ drop (12 * n) s₀
  rest_is =
      let k = length s₀ - 12 * n in
      let w : (t : List ℕ) → length t ≡ length s₀ → region t (12 * n) k ≡ drop (12 * n) t = λ t e. take_all k (drop (12 * n) t) (omega (arith, length-drop (12 * n) t)) in
      sym (w s3 (k3 ∙ long-2)) ∙ woven.rest (12 * n) k (omega arith) (omega (arith, long-2)) ∙ ap (λ (z : List ℕ). region z (12 * n) k) e2
      ∙ region-off s1 (6 * n) (replicate n 1) (12 * n) k (inl (omega (arith, long-there))) (omega (arith, long-1))
      ∙ ap (λ (z : List ℕ). region z (12 * n) k) numbered_is ∙ region-off s₀ 0 front (12 * n) k (inl (omega (arith, long-front))) (omega arith) ∙ w s₀ refl

  pub gives : (op : List Float) (os : List ℕ) (op' : List Float) (os' : List ℕ) (p q : ℕ) → 6 * n ≤ length op → n ≤ length os
      → ReadOut put_points Given (region s3 (2 * n) (2 * n + c - 2 * n)) op os op' os' p q → Drawn ps n s₀ s3 op os op' os' p q
  unfolding join_of
  gives op os op' os' p q a b R =
      record {
        out = laid_by origin same_point points_lawful Given s2 s3 n c (segments-count ps n) todo_is agree woven points_lie op os op' os' p q (omega (arith, few_points)) b (rw order_is at R);
        rest = rest_is;
      }

-- ---- the answer

same_left : {a b : Said ℕ} {s t : List ℕ} {op op' : List Float} {os os' : List ℕ} → a ≡ b → s ≡ t → op ≡ op' → os ≡ os' → left a s op os ≡ left b t op' os'
same_left a b c d = cc

module _ (ps : List Float) (n : ℕ) (s : List ℕ) (op : List Float) (os : List ℕ) where
  pub join-no : strokes_fit 12 6 n (length s) (length op) (length os) ≡ false → left (accepted (0 ∷ 0 ∷ [])) s op os ≡ join_left ps n s op os
  unfolding join_left join_fits strokes_fit
  join-no h = rw h

  pub join-yes : strokes_fit 12 6 n (length s) (length op) (length os) ≡ true → (s' s1 : List ℕ) (op' : List Float) (os' : List ℕ) (p q : ℕ) → s' ≡ over s (replicate (12 * n) 0) → Drawn ps n s s1 op os op' os' p q
      → left (accepted (p ∷ q ∷ [])) s' op' os' ≡ join_left ps n s op os
  unfolding join_left laid join_fits strokes_fit
  join-yes h s' s1 op' os' p q e D = rw h (same_left (rw (D.out.many, D.out.strokes)) e D.out.points D.out.starts)
