-- The numbers below m in the order of a key: sorts of scratch by one key after another.
use Rattle.std.proofs.Common.{◌≡◌, ℕ, zero, suc, ◌+◌, ◌-◌, ◌*◌, ◌/◌, ◌%◌, ◌^◌, ◌<◌, ◌≤◌, List, length, replicate, sym, refl, ap, ◌∙◌, subst, inl, inr, arith}
use native.Mathlib.Decide.{ℕ_discrete}
use lib.ListN.{length-replicate}
use lib.Ieee.{Float}
use Rattle.refusal.specs.Limits.{most_strokes}
use Rattle.order.specs.Regions.{region, put}
use Rattle.order.specs.Order.{order, word_key}
use Rattle.order.specs.Sort.{sorted}
use Rattle.order.proofs.Parts.{length-put, length-region, get_region, region-put}
use Rattle.order.proofs.Sorted.{In, Rising, in_order, order-length, order-flat, order-agree}
use Rattle.order.proofs.Radix.{order-order}
use Rattle.order.proofs.Sorting.{sorted-yes, cut-for, inside-for, apart-before}
use Rattle.path.specs.Strokes.{gather}
use Rattle.path_classes.specs.InnerKeys.{up_to, mix_order, Aside, Stored, Ordered, Keys}
use Rattle.path_classes.proofs.Asides.{aside_none, aside_put, aside_wide, aside_then, aside_region, stored_aside, region-is}

-- ---- the numbers from a on

up_bound : (a m y : ℕ) → In y (gather (λ i. i) a m) → (a ≤ y) × (y < a + m)
unfolding gather
up_bound a zero y h = absurd h
up_bound a (suc m) y (inl e) = (omega arith, omega arith)
up_bound a (suc m) y (inr h) = let r = up_bound (a + 1) m y h in (omega arith, omega arith)

up_in : (a m y : ℕ) → a ≤ y → y < a + m → In y (gather (λ i. i) a m)
unfolding gather
up_in a zero y h k = absurd (omega arith)
up_in a (suc m) y h k = elim (ℕ_discrete y a) [ yes i ↦ inl i | no i ↦ inr (up_in (a + 1) m y (omega arith) (omega arith)) ]

rising : (a m : ℕ) → Rising (gather (λ i. i) a m)
unfolding gather
rising a zero = tt
rising a (suc m) = ((λ y h. omega (arith, up_bound (a + 1) m y h)), rising (a + 1) m)

pub up_below : (m y : ℕ) → In y (up_to m) → y < m
up_below m y h = omega (arith, up_bound 0 m y h)

pub up_has : (m y : ℕ) → y < m → In y (up_to m)
up_has m y h = up_in 0 m y (omega arith) (omega arith)

pub up_rising : (m : ℕ) → Rising (up_to m)
up_rising m = rising 0 m

-- ---- one sort, by the m words from k on

-- lex orders by hi, and those of one hi by lo
pub record Lex (hi lo lex : ℕ → ℕ) : Type 0 where
  pub more : (x y : ℕ) → hi x < hi y → lex x < lex y
  pub then : (x y : ℕ) → hi x ≡ hi y → lo x < lo y → lex x < lex y
  pub same : (x y : ℕ) → hi x ≡ hi y → lo x ≡ lo y → lex x ≡ lex y

module _ (t u : List ℕ) (m k e : ℕ) (H : 6 * m ≤ length t) (few : m ≤ 2 * most_strokes) (low : 3 * m ≤ k) (end : e ≡ k + m) (high : e ≤ 6 * m) (S : u ≡ sorted t k e m (2 * m) m) where
  abbrev Z : List ℕ
  Z = replicate m 0

  abbrev L : List ℕ
  L = order (word_key (region t k m)) (region t m m)

  long : length L ≡ m
  long = order-length (word_key (region t k m)) (region t m m) ∙ length-region t m m (omega arith)

  made : u ≡ put (put t (2 * m) Z) m L
  made =
      let q : e - k ≡ m = omega arith in
      S ∙ sym (sorted-yes t k e m (2 * m) m (cut-for (length t) k e m (2 * m) m (inside-for (length t) k e m (2 * m) m (omega arith) (omega arith) (omega arith) (omega arith) (omega arith)) (apart-before m m (2 * m) m (omega arith)) (apart-before m m k (e - k) (omega arith)) (apart-before (2 * m) m k (e - k) (omega arith))))
      ∙ ap (λ (z : ℕ). put (put t (2 * m) Z) m (order (word_key (region t k z)) (region t m m))) q

  pub sort_aside : Aside t u m (3 * m)
  sort_aside =
      let z : length Z ≡ m = length-replicate {A = ℕ} m 0 in
      subst (λ (v : List ℕ). Aside t v m (3 * m)) (sym made) (aside_put (aside_put (aside_none t m (3 * m)) (2 * m) Z (omega arith) (omega arith)) m L (omega arith) (omega (arith, long)))

  pub sort_line : (hi lo lex : ℕ → ℕ) → Lex hi lo lex → region t m m ≡ order lo (up_to m) → Stored hi t k m → region u m m ≡ order lex (up_to m)
  sort_line hi lo lex X q E =
      ap (λ (v : List ℕ). region v m m) made ∙ region-put (put t (2 * m) Z) m m L long (rw length-put (omega arith)) ∙ ap (order (word_key (region t k m))) q
      ∙ order-agree (word_key (region t k m)) hi (order lo (up_to m)) (λ y i. let h = up_below m y (in_order lo (up_to m) y i) in get_region t k m y h ∙ E y h)
      ∙ order-order hi lo lex X.more X.then X.same (up_to m)

-- ---- the numbers below m as they are written

pub counted : (s t : List ℕ) (m : ℕ) → 6 * m ≤ length s → Aside s t m (2 * m) → Stored (λ e. e) t m m → region t m m ≡ order (λ x. 0) (up_to m)
counted s t m H A E = region-is (λ e. e) t m m E (omega (arith, A.size)) ∙ sym (order-flat (λ x. 0) (λ x. refl) (up_to m))

-- ---- three sorts, by the keys of the mixes

module _ (ps : List Float) (s t u v w x : List ℕ) (m : ℕ) (H : 6 * m ≤ length s) (few : m ≤ 2 * most_strokes) (A : Aside s t m (2 * m)) (E : Stored (λ e. e) t m m) (K : Keys ps t u m m)
    (S : v ≡ sorted u (3 * m) (4 * m) m (2 * m) m) (S2 : w ≡ sorted v (4 * m) (5 * m) m (2 * m) m) (S3 : x ≡ sorted w (5 * m) (6 * m) m (2 * m) m) where
  abbrev h : ℕ → ℕ
  h = mix_order ps

  lex_first : Lex (λ e. h e % 2 ^ 18) (λ e. 0) (λ e. h e % 2 ^ 18)
  lex_first = record { more = λ x y p. p; then = λ x y p q. absurd (omega arith); same = λ x y p q. p }

  lex_second : Lex (λ e. h e / 2 ^ 18 % 2 ^ 18) (λ e. h e % 2 ^ 18) (λ e. h e % 2 ^ 36)
  lex_second = record { more = λ x y p. omega arith; then = λ x y p q. omega arith; same = λ x y p q. omega arith }

  lex_third : Lex (λ e. h e / 2 ^ 36) (λ e. h e % 2 ^ 36) h
  lex_third = record { more = λ x y p. omega arith; then = λ x y p q. omega arith; same = λ x y p q. omega arith }

  pub mix_ordered : Ordered s x m (mix_order ps)
  mix_ordered =
      let hu : 6 * m ≤ length u = omega (arith, A.size, K.aside.size) in
      let B = sort_aside u v m (3 * m) (4 * m) hu few (omega arith) (omega arith) (omega arith) S in
      let hv : 6 * m ≤ length v = omega (arith, B.size) in
      let C = sort_aside v w m (4 * m) (5 * m) hv few (omega arith) (omega arith) (omega arith) S2 in
      let hw : 6 * m ≤ length w = omega (arith, C.size) in
      let D = sort_aside w x m (5 * m) (6 * m) hw few (omega arith) (omega arith) (omega arith) S3 in
      let l : region u m m ≡ order (λ z. 0) (up_to m) = aside_region K.aside m m (inl (omega arith)) (omega (arith, A.size)) ∙ counted s t m H A E in
      let k = sort_line u v m (3 * m) (4 * m) hu few (omega arith) (omega arith) (omega arith) S _ _ _ lex_first l K.low in
      let E2 = stored_aside _ u (4 * m) m K.middle v m (3 * m) B (inr (omega arith)) in
      let q = sort_line v w m (4 * m) (5 * m) hv few (omega arith) (omega arith) (omega arith) S2 _ _ _ lex_second k E2 in
      let E3 = stored_aside _ v (5 * m) m (stored_aside _ u (5 * m) m K.high v m (3 * m) B (inr (omega arith))) w m (3 * m) C (inr (omega arith)) in
      record {
        aside = aside_then (aside_then (aside_then (aside_then (aside_wide A m (6 * m) (omega arith) (omega arith)) (aside_wide K.aside m (6 * m) (omega arith) (omega arith))) (aside_wide B m (6 * m) (omega arith) (omega arith))) (aside_wide C m (6 * m) (omega arith) (omega arith))) (aside_wide D m (6 * m) (omega arith) (omega arith));
        line = sort_line w x m (5 * m) (6 * m) hw few (omega arith) (omega arith) (omega arith) S3 _ _ _ lex_third q E3;
      }
