-- Laws of the counts before a chop.
use mathlib.Core.Path.{◌≡◌, sym, ap, ◌∙◌}
use mathlib.Core.Logic.{⊎_elim}
use mathlib.Core.List.{List, ◌∷◌}
use Prim.Native.Nat.{ℕ, ◌+◌, ◌-◌, ◌≤◌, ◌<◌}
use native.Mathlib.Omega.{arith}
use native.Mathlib.Nat.{min-eq_left, min-eq_right}
use lib.ListN.{length, length-append}
use lib.Dec.{leb}
use mathlib.Core.Bool.{true, false, true≢false}
use lib.Ieee.{Float}
use borrow.Author.Tests.{le-leb, lt-leb}
use Rattle.refusal.specs.Limits.{most_points}
use Rattle.vector.specs.declared.Vector.{Vector}
use Rattle.vector.specs.Vectors.{sub_of}
use Rattle.vector.specs.Lengths.{length_of}
use Rattle.path.specs.Strokes.{gather}
use Rattle.path.specs.Laid.{joined, non_empty}
use Rattle.path.proofs.Tests.{split}
use Rattle.path.proofs.Pushes.{some_kept, none_kept}
use Rattle.path_chop.specs.Chop.{too_many, steps_of, span, spans, chopped}
use Rattle.path_chop.specs.InnerCounts.{capped}
use Rattle.path_chop.proofs.Chops.{steps_within, span-count, spans-more, stroke_short, stroke_some}

-- ---- a count that is cut off

pub cap_under : (n : ℕ) → n ≤ too_many → capped n ≡ n
unfolding capped
cap_under n h = min-eq_left h

pub cap_over : (n : ℕ) → too_many ≤ n → capped n ≡ too_many
unfolding capped
cap_over n h = min-eq_right h

pub cap_cap : (n m : ℕ) → capped (capped n + m) ≡ capped (n + m)
cap_cap n m =
    ⊎_elim (λ h. ap (λ (k : ℕ). capped (k + m)) (cap_under n h))
    (λ h. cap_over (capped n + m) (omega (arith, cap_over n (omega arith))) ∙ sym (cap_over (n + m) (omega arith))) (split n too_many)

pub cap_small : (n r : ℕ) → r ≡ capped n → r ≤ most_points → r ≡ n
cap_small n r e h = ⊎_elim (λ l. e ∙ cap_under n l) (λ l. absurd (omega (arith, cap_over n (omega arith)))) (split n too_many)

pub cap_most : (n : ℕ) → capped n ≤ too_many
cap_most n = ⊎_elim (λ l. omega (arith, cap_under n l)) (λ l. omega (arith, cap_over n (omega arith))) (split n too_many)

-- a span whose steps are counted only up to the most that may follow
pub count-within : (so_far rest : ℕ) (l step : Float) → so_far ≤ too_many
    → capped (so_far + length (steps_of (too_many - so_far) l step step) + 1 + rest) ≡ capped (so_far + length (steps_of too_many l step step) + 1 + rest)
count-within so_far rest l step h =
    ⊎_elim (λ e. ap (λ (s : List Float). capped (so_far + length s + 1 + rest)) (sym e))
    (λ e. cap_over (so_far + length (steps_of (too_many - so_far) l step step) + 1 + rest) (omega arith) ∙ sym (cap_over (so_far + length (steps_of too_many l step step) + 1 + rest) (omega arith)))
    (steps_within so_far l step h)

-- ---- strokes that are kept

-- what the test says of the stroke
pub kept-no : (n : ℕ) → leb 2 n ≡ false → n < 2
kept-no n e = ⊎_elim (λ h. absurd (true≢false (sym (le-leb 2 n h) ∙ e))) (λ h. h) (split 2 n)

pub kept-yes : (n : ℕ) → leb 2 n ≡ true → 2 ≤ n
kept-yes n e = ⊎_elim (λ h. h) (λ h. absurd (true≢false (sym e ∙ lt-leb 2 n h))) (split 2 n)

-- ---- one span, one stroke more in the count

pub spans-count : (step : Float) (at : ℕ → Vector) (i e : ℕ) (p : Vector) → i < e → (q : Vector) → q ≡ at i → (v : Vector) → v ≡ sub_of q p → (l : Float) → l ≡ length_of v
    → length (spans too_many step p (gather at i (e - i))) ≡ length (steps_of too_many l step step) + 1 + length (spans too_many step q (gather at (i + 1) (e - (i + 1))))
spans-count step at i e p h q f v g l k =
    ap length (spans-more step at i e p h q f) ∙ length-append (span too_many step p q) (spans too_many step q (gather at (i + 1) (e - (i + 1))))
    ∙ ap (λ (n : ℕ). n + length (spans too_many step q (gather at (i + 1) (e - (i + 1))))) (span-count step p q v l g k)

module _ (step : Float) (at : ℕ → Vector) (a e : ℕ) {rest all : List (List Vector)} (f : all ≡ chopped too_many step (gather at a (e - a)) ∷ rest) where
  pub joined-count : length (joined all) ≡ length (chopped too_many step (gather at a (e - a))) + length (joined rest)
  unfolding joined
  joined-count = rw f (length-append (chopped too_many step (gather at a (e - a))) (joined rest))

  pub kept-more : 2 ≤ e - a → length (non_empty all) ≡ 1 + length (non_empty rest)
  kept-more h = rw f (some_kept (chopped too_many step (gather at a (e - a))) rest (stroke_some step at a e (omega arith)))

  pub kept-less : e - a < 2 → length (non_empty all) ≡ length (non_empty rest)
  kept-less h = rw f (none_kept (chopped too_many step (gather at a (e - a))) rest (stroke_short step at a e h))

-- a turn of the loop that counts the strokes, where n points are counted so far
pub capped-turn : (n m s j all : ℕ) → m ≡ capped (n + s) → all ≡ s + j → capped (m + j) ≡ capped (n + all)
capped-turn n m s j all e f = let k : n + s + j ≡ n + all = omega arith in ap (λ (x : ℕ). capped (x + j)) e ∙ cap_cap (n + s) j ∙ ap capped k
