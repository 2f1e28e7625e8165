-- In the order of a key that points which are the same have in common, they stand together if neighbours of one key are the same.
use Rattle.std.proofs.Common.{◌≡◌, ℕ, zero, suc, ◌+◌, ◌-◌, ◌<◌, ◌≤◌, true, List, length, get_or, sym, ap, ◌∙◌, ⊎_elim, arith}
use native.Mathlib.Decide.{ℕ_discrete}
use lib.Ieee.{Float}
use Rattle.order.specs.Regions.{region}
use Rattle.order.specs.Order.{order}
use Rattle.order.proofs.Parts.{get_region}
use Rattle.order.proofs.Sorted.{Before, in_at, at_in, in_order, order-in, order-length, order-sorted, sorted-at}
use Rattle.path.specs.Strokes.{point_at}
use Rattle.path.proofs.Gathers.{length-gather}
use Rattle.path_classes.specs.Classes.{same_point}
use Rattle.path_classes.specs.InnerKeys.{HeldPoint, mix_of, mix_order, word_order, up_to, Together, Ordered, Apart}
use Rattle.path_classes.proofs.Same.{point_eq, same_of_lem}
use Rattle.path_classes.proofs.Orders.{up_below, up_has, up_rising}
use Rattle.path_classes.proofs.Words.{words_agree, words_same}

module _ (m : ℕ) (K : ℕ → ℕ) where
  line-length : length (order K (up_to m)) ≡ m
  line-length = order-length K (up_to m) ∙ length-gather (λ i. i) 0 m

  line-below : (x : ℕ) → x < m → get_or (order K (up_to m)) x 0 < m
  line-below x h = up_below m _ (in_order K (up_to m) _ (in_at (order K (up_to m)) x (omega (arith, line-length))))

module _ (ps : List Float) (m : ℕ) (K : ℕ → ℕ) (agree : (e f : ℕ) → point_at ps e ≡ point_at ps f → K e ≡ K f)
    (near : (x : ℕ) → x + 1 < m → K (get_or (order K (up_to m)) x 0) ≡ K (get_or (order K (up_to m)) (x + 1) 0)
    → same_point (point_at ps (get_or (order K (up_to m)) x 0)) (point_at ps (get_or (order K (up_to m)) (x + 1) 0)) ≡ true) where
  abbrev at : ℕ → ℕ
  at x = get_or (order K (up_to m)) x 0

  before : (x y : ℕ) → x < y → y < m → Before K (at x) (at y)
  before x y h k = sorted-at K (order K (up_to m)) (order-sorted K (up_to m) (up_rising m)) x y h (omega (arith, line-length m K))

  key-le : (x y : ℕ) → x ≤ y → y < m → K (at x) ≤ K (at y)
  key-le x y h k = elim (ℕ_discrete x y) [ yes i ↦ omega (arith, ap (λ (z : ℕ). K (at z)) i) | no i ↦ ⊎_elim (λ p. omega arith) (λ p. omega (arith, p.0)) (before x y (omega arith) k) ]

  -- from x on, as long as the key is the same
  chain : (x d : ℕ) → x + d < m → K (at x) ≡ K (at (x + d)) → point_at ps (at x) ≡ point_at ps (at (x + d))
  chain x zero h q = let z : x + 0 ≡ x = omega arith in rw z
  chain x (suc d) h q =
      let z : x + suc d ≡ x + d + 1 = omega arith in
      let u = key-le x (x + d) (omega arith) (omega arith) in
      let v = key-le (x + d) (x + d + 1) (omega arith) (omega arith) in
      let w = ap (λ (k : ℕ). K (at k)) z in
      chain x d (omega arith) (omega arith) ∙ point_eq _ _ (near (x + d) (omega arith) (omega arith)) ∙ ap (λ (k : ℕ). point_at ps (at k)) (sym z)

  pub together : Together ps m (order K (up_to m))
  together =
      record {
        size = line-length m K;
        each = line-below m K;
        all = λ e h. let r = at_in (order K (up_to m)) e (order-in K (up_to m) e (up_has m e h)) in (r.0, omega (arith, r.1, line-length m K), r.2);
        rise = λ x y h k q. ⊎_elim (λ p. absurd (omega (arith, agree _ _ (point_eq _ _ q)))) (λ p. p.1) (before x y h k);
        between = λ x y z h k l q.
            let e = agree _ _ (point_eq _ _ q) in
            let j : x + (y - x) ≡ y = omega arith in
            let u = key-le x y (omega arith) (omega arith) in
            let v = key-le y z (omega arith) l in
            let w : K (at x) ≡ K (at (x + (y - x))) = rw j (omega arith) in
            same_of_lem _ _ (chain x (y - x) (omega arith) w ∙ ap (λ (i : ℕ). point_at ps (at i)) j);
      }

module _ (ps : List Float) (s t : List ℕ) (m : ℕ) where
  pub mix_together : Ordered s t m (mix_order ps) → Apart ps t m m → Together ps m (region t m m)
  mix_together O A = rw O.line (together ps m (mix_order ps) (λ e f q. ap mix_of q) near)
    where
      is : (x : ℕ) → x < m → get_or t (m + x) 0 ≡ get_or (order (mix_order ps) (up_to m)) x 0
      is x h = sym (get_region t m m x h) ∙ ap (λ (l : List ℕ). get_or l x 0) O.line

      near : (x : ℕ) → x + 1 < m → mix_order ps (get_or (order (mix_order ps) (up_to m)) x 0) ≡ mix_order ps (get_or (order (mix_order ps) (up_to m)) (x + 1) 0)
          → same_point (point_at ps (get_or (order (mix_order ps) (up_to m)) x 0)) (point_at ps (get_or (order (mix_order ps) (up_to m)) (x + 1) 0)) ≡ true
      near x h = rw (← is x (omega arith), ← is (x + 1) h) (A x h)

  pub words_together : Ordered s t m (word_order ps 6) → ((e : ℕ) → e < m → HeldPoint (point_at ps e)) → Together ps m (region t m m)
  words_together O held =
      let below = line-below m (word_order ps 6) in
      rw O.line (together ps m (word_order ps 6) (words_agree ps 6) (λ x h q. words_same ps _ _ (held _ (below x (omega arith))) (held _ (below (x + 1) h)) q))
