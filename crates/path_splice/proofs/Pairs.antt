-- Strokes of two points each: their table, the values of their ends, and what is left of scratch.
use mathlib.Core.Path.{◌≡◌, refl, sym, ap, ◌∙◌}
use mathlib.Core.Bool.{true, false, ◌&&◌}
use mathlib.Core.Logic.{inl, inr}
use mathlib.Core.List.{List, [], ◌∷◌, ◌++◌, map}
use Prim.Native.Nat.{ℕ, zero, suc, ◌+◌, ◌-◌, ◌*◌, ◌/◌, ◌%◌, ◌≤◌, ◌<◌}
use native.Mathlib.Omega.{arith}
use native.Mathlib.Numerals.{add-one}
use lib.ListN.{length, get_or, set, take, drop, replicate, length-replicate, length-drop, length-map, get_or-map}
use lib.Seq.{drop-cons, ext_get_or, length-take-le, take_all}
use lib.Dec.{leb, eqb}
use borrow.Author.Tests.{le-leb, leb-true, eq-eqb}
use Rattle.order.specs.Regions.{region, put, Off, Into2}
use Rattle.order.proofs.Parts.{into2_none, into2-set, into2-size, into2-region, into2-first, into2-second}
use Rattle.path.specs.Strokes.{good_from, good_starts, gather, strokes_of, number_at, strokes_in}
use Rattle.path_splice_rule.specs.Splice.{first_of, last_of, end_of, value_at, present}
use Rattle.path_splice.proofs.Tables.{fill_turn}
use Rattle.refusal.specs.Said.{accepted}
use Rattle.path.specs.Laid.{over}
use Rattle.path.proofs.Tests.{both}
use Rattle.path_splice_rule.specs.Splice.{splice}
use Rattle.path_splice_links.specs.Walk.{Woven}
use Rattle.path_splice.proofs.Answers.{out-points, out-starts, laid_out, wrote}
use Rattle.path_splice.specs.Call.{left}
use Rattle.path_splice.specs.InnerText.{order_text, marks_of, ReadOut, Filled}
use Rattle.path_splice.specs.InnerPairs.{pairs_of, Paired, PairsDrawn, pairs_fit, strokes_fit, pairs_left}
use Rattle.refusal.specs.Limits.{most_strokes, most_points}

-- a, a + 2, .. (n of them)
abbrev evens : ℕ → ℕ → List ℕ
evens a zero = []
evens a (suc n) = a ∷ evens (a + 2) n

evens_length : (a n : ℕ) → length (evens a n) ≡ n
evens_length a zero = refl
evens_length a (suc n) = ap suc (evens_length (a + 2) n)

evens_at : (a n i : ℕ) → i < n → get_or (evens a n) i 0 ≡ a + 2 * i
evens_at a zero i h = absurd (omega arith)
evens_at a (suc n) zero h = omega arith
evens_at a (suc n) (suc i) h = evens_at (a + 2) n i (omega arith) ∙ omega arith

evens_first : (a n np : ℕ) → np ≡ a + 2 * n → get_or (evens a n) 0 np ≡ a
evens_first a zero np h = omega arith
evens_first a (suc n) np h = refl

evens_good : (np prev a n : ℕ) → prev ≤ a → a + 2 * n ≤ np → good_from np prev (evens a n) ≡ true
unfolding good_from
evens_good np prev a zero h k = refl
evens_good np prev a (suc n) h k = rw (le-leb prev a h, le-leb a np (omega arith)) (evens_good np a (a + 2) n (omega arith) (omega arith))

good-pairs : (n : ℕ) → good_starts (2 * n) (evens 0 n) ≡ true
unfolding good_starts
good-pairs zero = eq-eqb (2 * 0) 0 (omega arith)
good-pairs (suc n) = evens_good (2 * suc n) 0 2 n (omega arith) (omega arith)

pair_first : (ps : List ℕ) (a : ℕ) → a + 2 ≤ length ps → pairs_of (drop a ps) ≡ (get_or ps a 0 ∷ get_or ps (a + 1) 0 ∷ []) ∷ pairs_of (drop (a + 2) ps)
unfolding pairs_of
pair_first ps a h =
    let e : suc (a + 1) ≡ a + 2 = omega arith in
    rw (drop-cons ps a 0 (omega arith), ← add-one a, drop-cons ps (a + 1) 0 (omega arith), e)

no_pairs : (ps : List ℕ) → length ps ≡ 0 → pairs_of ps ≡ []
unfolding pairs_of
no_pairs [] h = refl
no_pairs (x ∷ ps) h = absurd (omega arith)

table_pairs : (ps : List ℕ) (a n : ℕ) → length ps ≡ a + 2 * n → strokes_of (number_at ps) (length ps) (evens a n) ≡ pairs_of (drop a ps)
unfolding strokes_of gather
table_pairs ps a zero h = sym (no_pairs (drop a ps) (omega (arith, length-drop a ps)))
table_pairs ps a (suc n) h =
    let e : get_or (evens (a + 2) n) 0 (length ps) - a ≡ 2 = omega (arith, evens_first (a + 2) n (length ps) (omega arith)) in
    rw (e, pair_first ps a (omega arith)) (ap (λ (l : List (List ℕ)). (get_or ps a 0 ∷ get_or ps (a + 1) 0 ∷ []) ∷ l) (table_pairs ps (a + 2) n (omega arith)))

pair_at : (ps : List ℕ) (a n i : ℕ) → length ps ≡ a + 2 * n → i < n → get_or (pairs_of (drop a ps)) i [] ≡ get_or ps (a + 2 * i) 0 ∷ get_or ps (a + 2 * i + 1) 0 ∷ []
pair_at ps a zero i l h = absurd (omega arith)
pair_at ps a (suc n) zero l h =
    let e : a + 2 * 0 ≡ a = omega arith in
    rw (e, pair_first ps a (omega arith))
pair_at ps a (suc n) (suc i) l h =
    let e : a + 2 * suc i ≡ a + 2 + 2 * i = omega arith in
    rw (e, pair_first ps a (omega arith)) (pair_at ps (a + 2) n i (omega arith) (omega arith))

pairs_length : (ps : List ℕ) (a n : ℕ) → length ps ≡ a + 2 * n → length (pairs_of (drop a ps)) ≡ n
pairs_length ps a zero h = ap length (no_pairs (drop a ps) (omega (arith, length-drop a ps)))
pairs_length ps a (suc n) h = ap length (pair_first ps a (omega arith)) ∙ ap suc (pairs_length ps (a + 2) n (omega arith))

-- a pair is there, and its ends are its points
pair_present : (x y : ℕ) → present (x ∷ y ∷ []) ≡ 1
unfolding present
pair_present x y = refl

pair_end : (k x y : ℕ) → k < 2 → end_of 0 k (x ∷ y ∷ []) ≡ get_or (x ∷ y ∷ []) k 0
unfolding end_of first_of last_of
pair_end zero x y h = refl
pair_end (suc zero) x y h = refl
pair_end (suc (suc k)) x y h = absurd (omega arith)

side-at : (ps : List ℕ) (b k : ℕ) → k < 2 → get_or (get_or ps b 0 ∷ get_or ps (b + 1) 0 ∷ []) k 0 ≡ get_or ps (b + k) 0
side-at ps b zero h = let e : b + 0 ≡ b = omega arith in rw e
side-at ps b (suc zero) h = refl
side-at ps b (suc (suc k)) h = absurd (omega arith)

module _ (ps : List ℕ) (n : ℕ) (l : length ps ≡ 2 * n) where
  pub pair_value : (e : ℕ) → e < 2 * n → get_or ps e 0 ≡ value_at 0 (pairs_of ps) e
  unfolding value_at
  pair_value e h =
      let p = pair_at ps 0 n (e / 2) (omega arith) (omega arith) in
      let z : 0 + 2 * (e / 2) ≡ 2 * (e / 2) = omega arith in
      let q : 2 * (e / 2) + e % 2 ≡ e = omega arith in
      sym (ap (end_of 0 (e % 2)) p ∙ pair_end (e % 2) _ _ (omega arith) ∙ ap (λ (b : ℕ). get_or (get_or ps b 0 ∷ get_or ps (b + 1) 0 ∷ []) (e % 2) 0) z ∙ side-at ps (2 * (e / 2)) (e % 2) (omega arith) ∙ ap (λ (j : ℕ). get_or ps j 0) q)

  pub pair_there : (i : ℕ) → i < n → present (get_or (pairs_of ps) i []) ≡ 1
  pair_there i h = ap present (pair_at ps 0 n i (omega arith) h) ∙ pair_present _ _

  pub pair_count : length (pairs_of ps) ≡ n
  pair_count = pairs_length ps 0 n (omega arith)

  module _ (u : List ℕ) (m : length u ≡ n) (f : (i : ℕ) → i < n → get_or u i 0 ≡ 2 * i) where
    starts-are : u ≡ evens 0 n
    starts-are = ext_get_or 0 u (evens 0 n) (m ∙ sym (evens_length 0 n)) (λ i h. f i (omega arith) ∙ sym (evens_at 0 n i (omega arith) ∙ omega arith))

    pub pairs-good : good_starts (length ps) u ≡ true
    pairs-good = rw (starts-are, l) (good-pairs n)

    pub pairs-are : strokes_in ps u ≡ pairs_of ps
    pairs-are = ap (strokes_of (number_at ps) (length ps)) starts-are ∙ table_pairs ps 0 n (omega arith)

-- the words of n strokes filled in, one stroke after the other
off_words : (n : ℕ) → Off (6 * n) n (7 * n) n
off_words n = inl (omega arith)

module _ (s₀ : List ℕ) (n : ℕ) (H : 8 * n ≤ length s₀) where
  abbrev pub Pairing : List ℕ → ℕ → Type 0
  Pairing s i = Into2 s₀ s (6 * n) n (7 * n) n (Paired i)

  pub pairing : Pairing s₀ 0
  pairing =
      into2_none (6 * n) n (7 * n) n (off_words n) s₀ (Paired 0) (omega arith) (omega arith)
      (record { there = λ i h. absurd (omega arith); begins = λ i h. absurd (omega arith) })

  pub pairing_more : (s : List ℕ) (i : ℕ) → i < n → Pairing s i → Pairing (set (set s (6 * n + i) 1) (7 * n + i) (2 * i)) (i + 1)
  pairing_more s i h I =
      into2-set (6 * n) n (7 * n) n (off_words n) s₀ s (Paired i) I i 1 i (2 * i) h h (Paired (i + 1))
      (record {
        there = fill_turn (λ (j : ℕ). 1) I.l i 1 (omega (arith, I.size)) refl I.ok.there;
        begins = fill_turn (λ (j : ℕ). 2 * j) I.k i (2 * i) (omega (arith, I.size2)) refl I.ok.begins;
      })

present-at : (ss : List (List ℕ)) (i : ℕ) → get_or (map present ss) i 0 ≡ present (get_or ss i [])
unfolding present
present-at ss i = get_or-map present ss i []

-- what is asked of the reading
pub record Asks (op os ps ss order : List ℕ) : Type 0 where
  pub good : good_starts (length ps) ss ≡ true
  pub points : length (order_text (strokes_in ps ss) order) ≤ length op
  pub few : length (order_text (strokes_in ps ss) order) ≤ most_points
  pub starts : length (marks_of (strokes_in ps ss) 0 order) ≤ length os

-- the words filled in, and threaded
module _ (s₀ : List ℕ) (n c : ℕ) (H : 8 * n ≤ length s₀) (low : n ≤ most_strokes) (s1 : List ℕ) (I : Into2 s₀ s1 (6 * n) n (7 * n) n (Paired n)) (s2 : List ℕ) (z2 : length s2 ≡ length s1) (W : Woven s1 s2 n c) where
  abbrev P : List ℕ
  P = take (2 * n) s₀

  abbrev U : List ℕ
  U = I.k

  long-1 : length s1 ≡ length s₀
  long-1 = into2-size (6 * n) n (7 * n) n (off_words n) s₀ s1 (Paired n) I

  long-p : length P ≡ 2 * n
  long-p = length-take-le (2 * n) s₀ (omega arith)

  long-2 : length s2 ≡ length s₀
  long-2 = z2 ∙ long-1

  v_is : region s1 0 (2 * n) ≡ P
  v_is = into2-region (6 * n) n (7 * n) n (off_words n) s₀ s1 (Paired n) I 0 (2 * n) (inr (omega arith)) (inr (omega arith)) (omega arith)

  p_is : take (2 * n) s2 ≡ P
  p_is = W.values ∙ v_is

  s_is : region s2 (7 * n) (8 * n - 7 * n) ≡ U
  s_is =
      let a : 8 * n - 7 * n ≡ n = omega arith in
      ap (region s2 (7 * n)) a ∙ W.rest (7 * n) n (omega arith) (omega (arith, long-1)) ∙ into2-second (6 * n) n (7 * n) n (off_words n) s₀ s1 (Paired n) I (omega arith)

  o_is : region s2 (2 * n) (2 * n + c - 2 * n) ≡ region s2 (2 * length U) c
  o_is =
      let a : 2 * n + c - 2 * n ≡ c = omega arith in
      ap (region s2 (2 * n)) a ∙ ap (λ (j : ℕ). region s2 (2 * j) c) (sym I.size2)

  good : good_starts (length P) U ≡ true
  good = pairs-good P n long-p U I.size2 I.ok.begins

  strokes : strokes_in P U ≡ pairs_of P
  strokes = pairs-are P n long-p U I.size2 I.ok.begins

  todo_is : region s1 (6 * n) n ≡ map present (pairs_of P)
  todo_is =
      let m : length (map present (pairs_of P)) ≡ n = length-map (pairs_of P) present ∙ pair_count P n long-p in
      into2-first (6 * n) n (7 * n) n (off_words n) s₀ s1 (Paired n) I (omega arith)
      ∙ ext_get_or 0 I.l (map present (pairs_of P)) (I.size ∙ sym m) (λ i h. I.ok.there i (omega (arith, I.size)) ∙ sym (present-at (pairs_of P) i ∙ pair_there P n long-p i (omega (arith, I.size))))

  full : Filled (strokes_in P U) s1 (length U)
  full =
      let f : Filled (pairs_of P) s1 n = record { values = λ e h. ap (λ (l : List ℕ). get_or l e 0) v_is ∙ pair_value P n long-p e h; todo = todo_is } in
      rw (strokes, I.size2) f

  woven : Woven s1 s2 (length U) c
  woven = rw I.size2 W

  pub asks : (op os : List ℕ) → 2 * n ≤ length op → n ≤ length os → Asks op os (take (2 * n) s2) (region s2 (7 * n) (8 * n - 7 * n)) (region s2 (2 * n) (2 * n + c - 2 * n))
  asks op os a b =
      let u = out-points P U good s1 s2 c full woven c refl in
      let v = out-starts P U good s1 s2 c full woven c refl in
      let r : Asks op os P U (region s2 (2 * length U) c) = record { good = good; points = omega (arith, long-p); few = omega (arith, long-p); starts = omega (arith, I.size2) } in
      rw (p_is, s_is, o_is) r

  rest_is : drop (8 * n) s2 ≡ drop (8 * n) s₀
  rest_is =
      let k = length s₀ - 8 * n in
      let w : (t : List ℕ) → length t ≡ length s₀ → region t (8 * n) k ≡ drop (8 * n) t = λ t e. take_all k (drop (8 * n) t) (omega (arith, length-drop (8 * n) t)) in
      sym (w s2 long-2) ∙ W.rest (8 * n) k (omega arith) (omega (arith, long-1))
      ∙ into2-region (6 * n) n (7 * n) n (off_words n) s₀ s1 (Paired n) I (8 * n) k (inl (omega arith)) (inl (omega arith)) (omega arith) ∙ w s₀ refl

  pub gives : (op os op' os' : List ℕ) (p q : ℕ) → 2 * n ≤ length op → n ≤ length os
      → ReadOut put (strokes_in (take (2 * n) s2) (region s2 (7 * n) (8 * n - 7 * n))) (region s2 (2 * n) (2 * n + c - 2 * n)) op os op' os' p q → PairsDrawn s₀ s2 n op os op' os' p q
  gives op os op' os' p q a b Q =
      let Q1 : ReadOut put (strokes_in P U) (region s2 (2 * length U) c) op os op' os' p q = rw (p_is, s_is, o_is) at Q in
      let L = laid_out P U good s1 s2 c full woven c refl op os op' os' p q (omega (arith, long-p)) (omega (arith, I.size2)) Q1 in
      record { out = rw strokes at L; rest = rest_is }

-- the first words lent and cleared
module _ (s₀ s1 : List ℕ) (m : ℕ) (H : m ≤ length s₀) (z : length s1 ≡ length s₀) (e : drop m s1 ≡ drop m s₀) where
  pub zeroed : (l : List ℕ) → l ≡ replicate (length (take m s1)) 0 → l ++ drop m s1 ≡ over s₀ (replicate m 0)
  unfolding over
  zeroed l f =
      let k : length (take m s1) ≡ m = length-take-le m s1 (omega arith) in
      rw (f, k, length-replicate {A = ℕ} m 0, e)

-- what room there is
pub fit_all : (w p n words room starts : ℕ) → strokes_fit w p n words room starts ≡ true → (w * n ≤ words) × (n ≤ most_strokes) × (p * n ≤ room) × (n ≤ starts)
unfolding strokes_fit
fit_all w p n words room starts h =
    let a = both (leb n most_strokes && leb (w * n) words && leb (p * n) room) (leb n starts) h in
    let b = both (leb n most_strokes && leb (w * n) words) (leb (p * n) room) a.0 in
    let d = both (leb n most_strokes) (leb (w * n) words) b.0 in
    (leb-true _ _ d.1, leb-true _ _ d.0, leb-true _ _ b.1, leb-true _ _ a.1)

module _ (s op os : List ℕ) (n : ℕ) where
  pub pairs_no : strokes_fit 8 2 n (length s) (length op) (length os) ≡ false → left (accepted (0 ∷ 0 ∷ [])) s op os ≡ pairs_left s n op os
  unfolding pairs_left pairs_fit strokes_fit
  pairs_no h = rw h

  pub pairs_yes : strokes_fit 8 2 n (length s) (length op) (length os) ≡ true → (s' s1 op' os' : List ℕ) (p q : ℕ) → s' ≡ over s (replicate (8 * n) 0) → PairsDrawn s s1 n op os op' os' p q
      → left (accepted (p ∷ q ∷ [])) s' op' os' ≡ pairs_left s n op os
  unfolding pairs_left pairs_fit strokes_fit
  pairs_yes h s' s1 op' os' p q e D = rw h (wrote (splice 0 eqb (pairs_of (take (2 * n) s))) (over s (replicate (8 * n) 0)) s' op os op' os' p q e D.out)
