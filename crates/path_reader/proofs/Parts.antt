-- The parts that are handed out are the strokes of the table.
use mathlib.Core.Path.{◌≡◌, refl, sym, ap, ◌∙◌}
use mathlib.Core.Logic.{◌⊎◌, inl, inr}
use mathlib.Core.Bool.{true}
use mathlib.Core.List.{List, [], ◌∷◌}
use Prim.Native.Nat.{ℕ, suc, ◌+◌, ◌-◌, ◌*◌, ◌≤◌, ◌<◌}
use native.Mathlib.Omega.{arith}
use native.Mathlib.Nat.{add-zero}
use lib.ListN.{length, get_or, take, drop, length-drop, drop_of_length-le}
use lib.Seq.{drop-drop, get_or-drop, take_all, take-nil}
use lib.Dec.{eqb}
use borrow.Author.Tests.{eqb-true, lt-ltb, le-ltb}
use Rattle.path.specs.Strokes.{good_from, good_starts, gather, strokes_of, number_at}
use Rattle.path.proofs.Tests.{both, split}
use Rattle.path.proofs.Gathers.{gather-drop}
use Rattle.path.proofs.Starts.{table_next}
use Rattle.path_reader.specs.Reading.{least, stroke_at, left_at, stroke_after, handed}

-- the lesser of two numbers is at most either
pub least-is : (x y : ℕ) → ((least x y ≡ x) × (x ≤ y)) ⊎ ((least x y ≡ y) × (y ≤ x))
least-is x y = go (split y x)
  where
    go : (y ≤ x) ⊎ (x < y) → ((least x y ≡ x) × (x ≤ y)) ⊎ ((least x y ≡ y) × (y ≤ x))
    go (inl h) = inr (rw (le-ltb x y h), h)
    go (inr h) = inl (rw (lt-ltb x y h), omega arith)

-- ends that are brought within the list do not change the part
pub part-is : (ps : List ℕ) (s t e a : ℕ) → e ≡ least t (length ps) → a ≡ least s e → take (e - a) (drop a ps) ≡ take (t - s) (drop s ps)
part-is ps s t e a he ha = ends (least-is t (length ps)) (least-is s e)
  where
    ends : ((least t (length ps) ≡ t) × (t ≤ length ps)) ⊎ ((least t (length ps) ≡ length ps) × (length ps ≤ t))
        → ((least s e ≡ s) × (s ≤ e)) ⊎ ((least s e ≡ e) × (e ≤ s)) → take (e - a) (drop a ps) ≡ take (t - s) (drop s ps)
    ends (inl h) (inl k) =
        let x : e ≡ t = he ∙ h.0 in
        let y : a ≡ s = ha ∙ k.0 in
        rw (x, y)
    ends (inl h) (inr k) =
        let x : e ≡ t = he ∙ h.0 in
        let y : a ≡ e = ha ∙ k.0 in
        let u : e - a ≡ 0 = omega arith in
        let v : t - s ≡ 0 = omega (arith, k.1) in
        rw (u, v)
    ends (inr h) (inl k) =
        let x : e ≡ length ps = he ∙ h.0 in
        let y : a ≡ s = ha ∙ k.0 in
        let l = length-drop s ps in
        rw y (take_all (e - s) (drop s ps) (omega arith) ∙ sym (take_all (t - s) (drop s ps) (omega (arith, h.1))))
    ends (inr h) (inr k) =
        let x : e ≡ length ps = he ∙ h.0 in
        let y : a ≡ e = ha ∙ k.0 in
        let u : e - a ≡ 0 = omega arith in
        rw (u, drop_of_length-le ps {i = s} (omega (arith, k.1)), take-nil {A = ℕ} (t - s))

-- where the part lies
pub part_at : (o s t n e a : ℕ) → e ≡ least t n → a ≡ least s e → a * 4 + o ≡ o + least s (least t n) * 4
part_at o s t n e a he ha =
    let x : a ≡ least s (least t n) = ha ∙ ap (least s) he in
    rw (← x) (omega arith)

-- what stands first in the rest of a list, and what comes after it
module _ (l : List ℕ) (j x : ℕ) (m : List ℕ) (q : drop j l ≡ x ∷ m) where
  within : j < length l
  within = omega (arith, length-drop j l, ap length q)

  at_first : (d : ℕ) → get_or l j d ≡ x
  at_first d = rw add-zero at (sym (get_or-drop j l 0 d)) ∙ ap (λ (y : List ℕ). get_or y 0 d) q

  at_second : (d : ℕ) → get_or l (j + 1) d ≡ get_or m 0 d
  at_second d = sym (get_or-drop j l 1 d) ∙ ap (λ (y : List ℕ). get_or y 1 d) q

  after_first : drop (j + 1) l ≡ m
  after_first = sym (drop-drop 1 j l) ∙ ap (drop 1) q

-- a stroke, and the number of the one after it
module _ (ps ss : List ℕ) (i s : ℕ) (rest : List ℕ) (q : drop i ss ≡ s ∷ rest) where
  stroke_is : s ≤ get_or rest 0 (length ps) → get_or rest 0 (length ps) ≤ length ps → stroke_at ps ss i ≡ gather (number_at ps) s (get_or rest 0 (length ps) - s)
  unfolding stroke_at
  stroke_is h k = rw (at_first ss i s rest q (length ps), at_second ss i s rest q (length ps)) (sym (gather-drop ps s (get_or rest 0 (length ps) - s) (omega arith)))

  after_is : stroke_after ss i ≡ i + 1
  after_is = rw (lt-ltb i (length ss) (within ss i s rest q))

-- what is handed out from the i-th stroke on are the strokes of the table from there on
handed-from : (ps ss : List ℕ) (i s : ℕ) (rest : List ℕ) → drop i ss ≡ s ∷ rest → s ≤ length ps → good_from (length ps) s rest ≡ true
    → handed ps ss i (suc (length rest)) ≡ strokes_of (number_at ps) (length ps) (s ∷ rest)
unfolding handed strokes_of
handed-from ps ss i s [] q h g = rw (stroke_is ps ss i s [] q h (omega arith))
handed-from ps ss i s (t ∷ rest) q h g =
    let k = table_next (length ps) s t rest g in
    rw (stroke_is ps ss i s (t ∷ rest) q k.0 k.1, after_is ps ss i s (t ∷ rest) q)
    (ap (λ (l : List (List ℕ)). gather (number_at ps) s (t - s) ∷ l) (handed-from ps ss (i + 1) t rest (after_first ss i s (t ∷ rest) q) k.1 k.2))

-- a reader hands out the strokes of the table, all of them, in their order
pub handed-all : (ps ss : List ℕ) → good_starts (length ps) ss ≡ true → handed ps ss 0 (left_at ss 0) ≡ strokes_of (number_at ps) (length ps) ss
unfolding good_starts handed strokes_of
handed-all ps [] g = refl
handed-all ps (s ∷ ss) g =
    let b = both (eqb s 0) (good_from (length ps) s ss) g in
    let z = eqb-true s 0 b.0 in
    let e : length (s ∷ ss) - 0 ≡ suc (length ss) = omega arith in
    rw e (handed-from ps (s ∷ ss) 0 s ss refl (omega arith) b.1)

-- each stroke that is handed out is one fewer left, and where none is left the reader stays
pub left_after : (ss : List ℕ) (i : ℕ) → left_at ss (stroke_after ss i) ≡ left_at ss i - 1
left_after ss i = go (split (length ss) i)
  where
    go : (length ss ≤ i) ⊎ (i < length ss) → left_at ss (stroke_after ss i) ≡ left_at ss i - 1
    go (inl h) = rw (le-ltb i (length ss) h) (omega arith)
    go (inr h) = rw (lt-ltb i (length ss) h) (omega arith)
