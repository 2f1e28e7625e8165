-- Laws of start tables, of the strokes that they name, and of copying.
use mathlib.Core.Path.{◌≡◌, refl, sym, ap, ◌∙◌}
use mathlib.Core.Bool.{Bool, true, false, ◌&&◌}
use mathlib.Core.Logic.{◌≢◌}
use mathlib.Core.List.{List, [], ◌∷◌, ◌++◌, reverse, reverse-append}
use Prim.Native.Nat.{ℕ, zero, suc, ◌+◌, ◌-◌, ◌/◌, ◌%◌, ◌≤◌, ◌<◌}
use native.Mathlib.Omega.{arith}
use native.Mathlib.Numerals.{add-one}
use lib.ListN.{length, get_or, drop, set, length-drop, get_or-eq_default}
use lib.Seq.{drop-cons, take-suc, get_or-drop, get_or-set_same, get_or-set_other}
use lib.Dec.{leb, eqb}
use native.Mathlib.Decide.{ℕ_discrete}
use borrow.Author.Tests.{leb-true, eqb-true}
use Rattle.order.specs.Regions.{region, put}
use Rattle.path.specs.Strokes.{good_from, good_starts, strokes_of, gather, number_at, strokes_in}
use Rattle.order.proofs.Tests.{neqb}
use Rattle.path.proofs.Starts.{get_d_any}
use Rattle.path.proofs.Tests.{both}
use Rattle.path.proofs.Gathers.{gather-drop}
use Rattle.path.proofs.Again.{strokes_count}
use Rattle.path_splice.specs.InnerText.{Spans}
use Rattle.path_splice_rule.specs.Splice.{first_of, last_of, end_of, value_at, present}
use Rattle.order.proofs.Parts.{length-region, get_region}

-- of a good table: each start is at most the next, or the point count, and that is at most the point count
good-from_at : (np prev : ℕ) (ss : List ℕ) (i : ℕ) → prev ≤ np → good_from np prev ss ≡ true
    → (get_or (prev ∷ ss) i np ≤ get_or ss i np) × (get_or ss i np ≤ np)
unfolding good_from
good-from_at np prev [] zero h g = (h, omega arith)
good-from_at np prev [] (suc i) h g = (omega arith, omega arith)
good-from_at np prev (s ∷ ss) zero h g =
    let b = both (leb prev s && leb s np) (good_from np s ss) g in
    let d = both (leb prev s) (leb s np) b.0 in
    (leb-true prev s d.0, leb-true s np d.1)
good-from_at np prev (s ∷ ss) (suc i) h g =
    let b = both (leb prev s && leb s np) (good_from np s ss) g in
    let d = both (leb prev s) (leb s np) b.0 in
    good-from_at np s ss i (leb-true s np d.1) b.1

pub good-at : (np : ℕ) (ss : List ℕ) (i : ℕ) → good_starts np ss ≡ true → i < length ss
    → (get_or ss i 0 ≤ get_or ss (i + 1) np) × (get_or ss (i + 1) np ≤ np) × (get_or ss i np ≡ get_or ss i 0)
unfolding good_starts
good-at np [] i g h = absurd (omega arith)
good-at np (s ∷ ss) i g h =
    let b = both (eqb s 0) (good_from np s ss) g in
    let z = eqb-true s 0 b.0 in
    let r = good-from_at np s ss i (omega arith) b.1 in
    let e = get_d_any (s ∷ ss) i 0 np h in
    rw (e, add-one) (r.0, r.1, refl)

-- a stroke of a table
module _ {A : Type 0} (at : ℕ → A) (n : ℕ) where
  stroke_at_lem : (ss : List ℕ) (i : ℕ) → i < length ss → get_or (strokes_of at n ss) i [] ≡ gather at (get_or ss i 0) (get_or ss (i + 1) n - get_or ss i 0)
  unfolding strokes_of
  stroke_at_lem [] i h = absurd (omega arith)
  stroke_at_lem (s ∷ ss) zero h = refl
  stroke_at_lem (s ∷ ss) (suc i) h = let e : suc i + 1 ≡ suc (i + 1) = omega arith in rw e (stroke_at_lem ss i (omega arith))

first-is : (l : List ℕ) → first_of 0 l ≡ get_or l 0 0
unfolding first_of
first-is [] = refl
first-is (x ∷ l) = refl

last_is : (d : ℕ) (l : List ℕ) (k : ℕ) → length l ≡ suc k → last_of d l ≡ get_or l k 0
unfolding last_of
last_is d [] k h = absurd (omega arith)
last_is d (x ∷ []) zero h = refl
last_is d (x ∷ []) (suc k) h = absurd (omega arith)
last_is d (x ∷ y ∷ l) zero h = absurd (omega arith)
last_is d (x ∷ y ∷ l) (suc k) h = last_is x (y ∷ l) k (omega arith)

present-is : (l : List ℕ) → length l ≢ 0 → present l ≡ 1
unfolding present
present-is [] h = absurd (h refl)
present-is (x ∷ l) h = refl

none_of : (l : List ℕ) → length l ≡ 0 → l ≡ []
none_of [] h = refl
none_of (x ∷ l) h = absurd (omega arith)

side : (k : ℕ) (l : List ℕ) → length l ≡ 0 → end_of 0 k l ≡ 0
unfolding end_of first_of last_of
side zero [] h = refl
side (suc k) [] h = refl
side k (x ∷ l) h = absurd (omega arith)

pub spans : (ps ss : List ℕ) (i : ℕ) → good_starts (length ps) ss ≡ true → i < length ss → (b : ℕ) → b ≡ get_or ss (i + 1) (length ps) → Spans ps ss i (get_or ss i 0) b
spans ps ss i g h b e =
    let a = get_or ss i 0 in
    let q = good-at (length ps) ss i g h in
    record {
      low = omega (arith, q.0);
      high = omega (arith, q.1);
      is = stroke_at_lem (number_at ps) (length ps) ss i h ∙ ap (λ (k : ℕ). gather (number_at ps) a (k - a)) (sym e) ∙ gather-drop ps a (b - a) (omega (arith, q.0, q.1));
    }

pub spans-none : (ps ss : List ℕ) (i : ℕ) → length ss ≤ i → Spans ps ss i 0 0
spans-none ps ss i h = record { low = omega arith; high = omega arith; is = get_or-eq_default (strokes_in ps ss) [] (omega (arith, strokes_count (number_at ps) (length ps) ss)) }

module _ (ps ss : List ℕ) (i a b : ℕ) (S : Spans ps ss i a b) where
  abbrev All : List (List ℕ)
  All = strokes_in ps ss

  stroke_length : length (get_or All i []) ≡ b - a
  stroke_length = ap length S.is ∙ length-region ps a (b - a) (omega (arith, S.low, S.high))

  pub there_none : a ≡ b → 0 ≡ present (get_or All i [])
  unfolding present
  there_none q = sym (ap present (none_of (get_or All i []) (omega (arith, stroke_length))))

  pub there_some : a ≢ b → 1 ≡ present (get_or All i [])
  there_some q = sym (present-is (get_or All i []) (λ z. q (omega (arith, stroke_length, S.low))))

  module _ (w : ℕ) (o : w / 2 ≡ i) where
    value-is : value_at 0 All w ≡ end_of 0 (w % 2) (get_or All i [])
    unfolding value_at
    value-is = rw o

    pub value_none : a ≡ b → 0 ≡ value_at 0 All w
    value_none q = sym (value-is ∙ side (w % 2) (get_or All i []) (omega (arith, stroke_length)))

    pub value-first : a ≢ b → w % 2 ≡ 0 → get_or ps a 0 ≡ value_at 0 All w
    unfolding end_of
    value-first q z =
        let p : a + 0 ≡ a = omega arith in
        sym (value-is ∙ ap (λ (k : ℕ). end_of 0 k (get_or All i [])) z ∙ first-is (get_or All i []) ∙ ap (λ (l : List ℕ). get_or l 0 0) S.is ∙ get_region ps a (b - a) 0 (omega (arith, S.low)) ∙ ap (λ (k : ℕ). get_or ps k 0) p)

    pub value-last : a ≢ b → w % 2 ≢ 0 → get_or ps (b - 1) 0 ≡ value_at 0 All w
    unfolding end_of
    value-last q z =
        let u : w % 2 ≡ 1 = omega arith in
        let t = S.low in
        let m = stroke_length in
        let p : a + (b - a - 1) ≡ b - 1 = omega arith in
        sym (value-is ∙ ap (λ (k : ℕ). end_of 0 k (get_or All i [])) u ∙ last_is 0 (get_or All i []) (b - a - 1) (omega arith) ∙ ap (λ (l : List ℕ). get_or l (b - a - 1) 0) S.is ∙ get_region ps a (b - a) (b - a - 1) (omega arith) ∙ ap (λ (k : ℕ). get_or ps k 0) p)

-- the side of an end, as its test says
pub last_side : (w : ℕ) (r : Bool) → r ≡ eqb (w % 2) 1 → r ≡ true → w % 2 ≢ 0
last_side w r e t q = let u : w % 2 ≡ 1 = eqb-true (w % 2) 1 (sym e ∙ t) in omega arith

pub first-side : (w : ℕ) (r : Bool) → r ≡ eqb (w % 2) 1 → r ≡ false → w % 2 ≡ 0
first-side w r e t = let u : w % 2 ≢ 1 = neqb (w % 2) 1 (sym e ∙ t) in omega arith

-- a word more of a list that a loop fills
pub fill_turn : (f : ℕ → ℕ) (s : List ℕ) (i x : ℕ) → i < length s → x ≡ f i → ((j : ℕ) → j < i → get_or s j 0 ≡ f j) → (j : ℕ) → j < i + 1 → get_or (set s i x) j 0 ≡ f j
fill_turn f s i x h e p j k = elim (ℕ_discrete j i) [ yes o ↦ rw o (get_or-set_same s i x 0 h ∙ e) | no o ↦ get_or-set_other s i j x 0 o ∙ p j (omega arith) ]

-- copying
pub region-first : (ps : List ℕ) (i e : ℕ) → i < e → e ≤ length ps → region ps i (e - i) ≡ get_or ps i 0 ∷ region ps (i + 1) (e - (i + 1))
region-first ps i e h k =
    let q : e - i ≡ suc (e - (i + 1)) = omega arith in
    rw (q, drop-cons ps i 0 (omega arith), add-one)

pub region-last : (ps : List ℕ) (a i : ℕ) → a < i → i ≤ length ps → region ps a (i - a) ≡ region ps a (i - 1 - a) ++ (get_or ps (i - 1) 0 ∷ [])
region-last ps a i h k =
    let q : i - a ≡ suc (i - 1 - a) = omega arith in
    let p : a + (i - 1 - a) ≡ i - 1 = omega arith in
    ap (λ (z : ℕ). region ps a z) q ∙ take-suc (drop a ps) (i - 1 - a) 0 (rw length-drop (omega arith)) ∙ ap (λ (z : ℕ). region ps a (i - 1 - a) ++ (z ∷ [])) (get_or-drop a ps (i - 1 - a) 0 ∙ ap (λ (z : ℕ). get_or ps z 0) p)

pub forward_turn : (ps : List ℕ) (i e : ℕ) (out : List ℕ) (k : ℕ) → i < e → e ≤ length ps → put (set out k (get_or ps i 0)) (k + 1) (region ps (i + 1) (e - (i + 1))) ≡ put out k (region ps i (e - i))
unfolding put
forward_turn ps i e out k h l = rw (region-first ps i e h l, add-one)

pub forward_end : (ps : List ℕ) (i e : ℕ) (out : List ℕ) (k : ℕ) → e ≤ i → put out k (region ps i (e - i)) ≡ out
unfolding put
forward_end ps i e out k h = let z : e - i ≡ 0 = omega arith in rw z

pub backward_turn : (ps : List ℕ) (a i : ℕ) (out : List ℕ) (k : ℕ) → a < i → i ≤ length ps → put (set out k (get_or ps (i - 1) 0)) (k + 1) (reverse (region ps a (i - 1 - a))) ≡ put out k (reverse (region ps a (i - a)))
unfolding put
backward_turn ps a i out k h l =
    let e : reverse (region ps a (i - a)) ≡ get_or ps (i - 1) 0 ∷ reverse (region ps a (i - 1 - a)) = ap reverse (region-last ps a i h l) ∙ reverse-append (region ps a (i - 1 - a)) (get_or ps (i - 1) 0 ∷ []) in
    rw (e, add-one)

pub backward_end : (ps : List ℕ) (a i : ℕ) (out : List ℕ) (k : ℕ) → i ≤ a → put out k (reverse (region ps a (i - a))) ≡ out
unfolding put
backward_end ps a i out k h = let z : i - a ≡ 0 = omega arith in rw z
