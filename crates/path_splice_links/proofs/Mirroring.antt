-- The ends of strokes linked over regions of one list: the order from 2 n, the links from 4 n, what is to do from 6 n.
use mathlib.Core.Path.{◌≡◌, sym, ap, ◌∙◌, subst}
use mathlib.Core.Bool.{true}
use mathlib.Core.Logic.{inl, inr, ◌≢◌}
use mathlib.Core.List.{List}
use Prim.Native.Nat.{ℕ, ◌+◌, ◌-◌, ◌*◌, ◌/◌, ◌<◌, ◌≤◌}
use native.Mathlib.Omega.{arith}
use lib.ListN.{length, get_or, set, take, drop, replicate, length-replicate}
use lib.Seq.{take-take, take_at}
use Rattle.order.specs.Regions.{region, put, Off, Into}
use Rattle.path_splice_links.specs.Layout.{LinksIn}
use Rattle.order.specs.Sort.{regions_apart, sorted}
use Rattle.order.proofs.Sorting.{inside-for, apart-before, apart-after, cut-for, sorted-yes}
use Rattle.order.specs.Order.{order, word_key}
use Rattle.path_splice_links.specs.Ends.{live_from, Lived}
use Rattle.path_splice_links.specs.Runs.{Reach, Pair, Mirrored, Ranked, Linked}
use Rattle.order.proofs.Sorted.{order-length}
use Rattle.path_splice_links.proofs.Running.{mirrored_none, mirrored_more, Edge, linked_none, linked-more, edge_more, apart}
use Rattle.path_splice_links.proofs.Lives.{Living, living, skip, keep, lived, placed, ranked, ends_linked}
use Rattle.order.proofs.Parts.{length-put, length-region, get_region, region-put, region-off, into_none, into_size, into_get, into_region, into_own, into_set, into_then, into_as}
use Rattle.refusal.specs.Limits.{most_strokes}

-- the live ends
module _ (s₀ : List ℕ) (n : ℕ) (H : 7 * n ≤ length s₀) where
  abbrev T : List ℕ
  T = region s₀ (6 * n) n

  abbrev A : List ℕ
  A = region s₀ (2 * n) (2 * n)

  pub long-a : length A ≡ 2 * n
  long-a = length-region s₀ (2 * n) (2 * n) (omega arith)

  abbrev pub Lives : List ℕ → ℕ → ℕ → Type 0
  Lives s e k = Into s₀ s (2 * n) (2 * n) (λ a. Living T A a e k)

  pub lives_none : Lives s₀ 0 0
  lives_none = into_none s₀ (2 * n) (2 * n) (λ a. Living T A a 0 0) (omega arith) (living T A)

  module _ (s : List ℕ) (e k : ℕ) (I : Lives s e k) (h : e < 2 * n) where
    pub lives-room : k < 2 * n
    lives-room = omega (arith, I.ok.low)

    todo-is : get_or s (6 * n + e / 2) 0 ≡ get_or T (e / 2) 0
    todo-is = into_get s₀ s (2 * n) (2 * n) _ I (6 * n + e / 2) (inr (omega arith)) ∙ sym (get_region s₀ (6 * n) n (e / 2) (omega arith))

    pub lives-skip : get_or s (6 * n + e / 2) 0 ≡ 0 → Lives s (e + 1) k
    lives-skip z = into_as s₀ s (2 * n) (2 * n) _ I (λ a. Living T A a (e + 1) k) (skip T A I.l e k I.ok (omega (arith, long-a)) (sym todo-is ∙ z))

    pub lives-keep : get_or s (6 * n + e / 2) 0 ≢ 0 → Lives (set s (2 * n + k) e) (e + 1) (k + 1)
    lives-keep z = into_set s₀ s (2 * n) (2 * n) _ I (λ a. Living T A a (e + 1) (k + 1)) k e lives-room (keep T A I.l e k I.ok (omega (arith, long-a)) (λ q. z (todo-is ∙ q)))

  pub lives_all : (s : List ℕ) (e k : ℕ) → 2 * n ≤ e → Lives s e k → Into s₀ s (2 * n) (2 * n) (λ a. Lived T A a k)
  lives_all s e k h I = into_as s₀ s (2 * n) (2 * n) _ I (λ a. Lived T A a k) (lived T A I.l e k I.ok (omega (arith, long-a)))

-- one run
module _ (s₀ : List ℕ) (n c p q : ℕ) (H : 7 * n ≤ length s₀) (hc : c ≤ 2 * n) (hq : q ≤ c)
    (each : (x : ℕ) → x < c → get_or (region s₀ (2 * n) c) x 0 < 2 * n) (far : (x y : ℕ) → p ≤ x → x < y → y < q → get_or (region s₀ (2 * n) c) x 0 ≢ get_or (region s₀ (2 * n) c) y 0) where
  abbrev O : List ℕ
  O = region s₀ (2 * n) c

  abbrev L : List ℕ
  L = region s₀ (4 * n) (2 * n)

  long-l : length L ≡ 2 * n
  long-l = length-region s₀ (4 * n) (2 * n) (omega arith)

  abbrev pub Mirrors : List ℕ → ℕ → Type 0
  Mirrors s x = Into s₀ s (4 * n) (2 * n) (λ ls. Mirrored O L ls p q x)

  pub mirrors_none : Mirrors s₀ p
  mirrors_none = into_none s₀ (4 * n) (2 * n) (λ ls. Mirrored O L ls p q p) (omega arith) (mirrored_none O L p q)

  module _ (s : List ℕ) (x : ℕ) (I : Mirrors s x) where
    at-is : (y : ℕ) → y < c → get_or s (2 * n + y) 0 ≡ get_or O y 0
    at-is y h = into_get s₀ s (4 * n) (2 * n) _ I (2 * n + y) (inl (omega arith)) ∙ sym (get_region s₀ (2 * n) c y h)

    pub end_lt : (y : ℕ) → y < c → get_or s (2 * n + y) 0 < 2 * n
    end_lt y h = omega (arith, at-is y h, each y h)

    pub mirrors-more : (l : ℕ) → p ≤ x → x < q → Pair (get_or s (2 * n + x) 0) (get_or s (2 * n + (p + q - 1 - x)) 0) l → Mirrors (set s (4 * n + get_or s (2 * n + x) 0) l) (x + 1)
    mirrors-more l a b P =
        let e = at-is x (omega arith) in
        let f = at-is (p + q - 1 - x) (omega arith) in
        let P1 : Pair (get_or O x 0) (get_or s (2 * n + (p + q - 1 - x)) 0) l = subst (λ (z : ℕ). Pair z (get_or s (2 * n + (p + q - 1 - x)) 0) l) e P in
        let P2 : Pair (get_or O x 0) (get_or O (p + q - 1 - x) 0) l = subst (λ (z : ℕ). Pair (get_or O x 0) z l) f P1 in
        let M = mirrored_more O L p q far I.l x l a b (omega (arith, long-l, each x (omega arith))) P2 I.ok in
        into_set s₀ s (4 * n) (2 * n) _ I (λ ls. Mirrored O L ls p q (x + 1)) (get_or s (2 * n + x) 0) l (end_lt x (omega arith)) (subst (λ (z : ℕ). Mirrored O L (set I.l z l) p q (x + 1)) (sym e) M)

  pub mirrors_all : (s : List ℕ) (x : ℕ) → x ≡ q → Mirrors s x → Into s₀ s (4 * n) (2 * n) (λ ls. Mirrored O L ls p q q)
  mirrors_all s x e I = subst (Mirrors s) e I

-- all runs
module _ (s₀ : List ℕ) (n c : ℕ) (H : 7 * n ≤ length s₀) (hc : c ≤ 2 * n) (R : Ranked (region s₀ 0 (2 * n)) (region s₀ (2 * n) c) (2 * n)) where
  abbrev Vs : List ℕ
  Vs = region s₀ 0 (2 * n)

  abbrev O2 : List ℕ
  O2 = region s₀ (2 * n) c

  abbrev L2 : List ℕ
  L2 = region s₀ (4 * n) (2 * n)

  long-o : length O2 ≡ c
  long-o = length-region s₀ (2 * n) c (omega arith)

  abbrev pub Links : List ℕ → ℕ → Type 0
  Links s p = Edge Vs O2 p × Into s₀ s (4 * n) (2 * n) (λ ls. Linked Vs O2 L2 ls p)

  pub links-none : Links s₀ 0
  links-none = ((λ x y h. absurd (omega arith)), into_none s₀ (4 * n) (2 * n) (λ ls. Linked Vs O2 L2 ls 0) (omega arith) (linked_none Vs O2 L2))

  module _ (s : List ℕ) (p : ℕ) (I : Links s p) where
    v-is : region s 0 (2 * n) ≡ Vs
    v-is = into_region s₀ s (4 * n) (2 * n) _ I.1 0 (2 * n) (inr (omega arith)) (omega arith)

    o_is : region s (2 * n) c ≡ O2
    o_is = into_region s₀ s (4 * n) (2 * n) _ I.1 (2 * n) c (inr (omega arith)) (omega arith)

    l-is : region s (4 * n) (2 * n) ≡ I.1.l
    l-is = into_own s₀ s (4 * n) (2 * n) _ I.1 (omega arith)

    module _ (q : ℕ) (Q₀ : Reach (region s 0 (2 * n)) (region s (2 * n) c) p q) where
      Q : Reach Vs O2 p q
      Q = subst (λ (z : List ℕ). Reach z O2 p q) v-is (subst (λ (z : List ℕ). Reach (region s 0 (2 * n)) z p q) o_is Q₀)

      pub reach-lt : p < q
      reach-lt = Q.some

      pub reach-in : q ≤ c
      reach-in = omega (arith, long-o, Q.inside)

      pub ends_low : (x : ℕ) → x < c → get_or (region s (2 * n) c) x 0 < 2 * n
      ends_low x h = rw o_is (R.each x (omega (arith, long-o)))

      pub ends-apart : (x y : ℕ) → p ≤ x → x < y → y < q → get_or (region s (2 * n) c) x 0 ≢ get_or (region s (2 * n) c) y 0
      ends-apart x y a b d = rw o_is (apart Vs O2 (2 * n) R x y b (omega (arith, long-o, reach-in)))

      pub links-more : (s' : List ℕ) → Into s s' (4 * n) (2 * n) (λ ls. Mirrored (region s (2 * n) c) (region s (4 * n) (2 * n)) ls p q q) → Links s' q
      links-more s' J =
          let M1 : Mirrored O2 (region s (4 * n) (2 * n)) J.l p q q = subst (λ (z : List ℕ). Mirrored z (region s (4 * n) (2 * n)) J.l p q q) o_is J.ok in
          let M2 : Mirrored O2 I.1.l J.l p q q = subst (λ (z : List ℕ). Mirrored O2 z J.l p q q) l-is M1 in (
            edge_more Vs O2 (2 * n) R p q Q I.0,
            into_then s₀ s (4 * n) (2 * n) _ I.1 s' (λ ls. Linked Vs O2 L2 ls q) (into_as s s' (4 * n) (2 * n) _ J (λ ls. Linked Vs O2 L2 ls q) (linked-more Vs O2 (2 * n) R p q Q I.0 L2 I.1.l J.l I.1.ok M2)),
          )

  pub links-all : (s : List ℕ) (p : ℕ) → p ≡ c → Links s p → Into s₀ s (4 * n) (2 * n) (λ ls. Linked Vs O2 L2 ls c)
  links-all s p e I = subst (λ (z : ℕ). Into s₀ s (4 * n) (2 * n) (λ ls. Linked Vs O2 L2 ls z)) e I.1

-- from what is to do to the links
module _ (s₀ : List ℕ) (n : ℕ) (H : 7 * n ≤ length s₀) (few : n ≤ most_strokes) (s1 : List ℕ) (c : ℕ)
    (J : Into s₀ s1 (2 * n) (2 * n) (λ a. Lived (region s₀ (6 * n) n) (region s₀ (2 * n) (2 * n)) a c)) where
  abbrev T3 : List ℕ
  T3 = region s₀ (6 * n) n

  abbrev V3 : List ℕ
  V3 = region s₀ 0 (2 * n)

  two : 2 * n ≡ 2 * length T3
  two = omega (arith, length-region s₀ (6 * n) n (omega arith))

  pub count-le : c ≤ 2 * n
  count-le = omega (arith, J.ok.room, long-a s₀ n H)

  z1 : length s1 ≡ length s₀
  z1 = into_size s₀ s1 (2 * n) (2 * n) _ J

  cut-is : regions_apart (length s1) 0 (2 * n) (2 * n) (4 * n) c ≡ true
  cut-is =
      let d = count-le in
      let e : 2 * n - 0 ≡ 2 * n = omega arith in
      cut-for (length s1) 0 (2 * n) (2 * n) (4 * n) c
      (inside-for (length s1) 0 (2 * n) (2 * n) (4 * n) c (omega arith) (omega (arith, z1)) (omega (arith, z1)) (omega (arith, z1)) (omega arith))
      (apart-before (2 * n) c (4 * n) c (omega arith)) (rw e (apart-after (2 * n) c 0 (2 * n) (omega arith) d)) (rw e (apart-after (4 * n) c 0 (2 * n) (omega arith) d))

  t1 : region s1 (6 * n) n ≡ T3
  t1 = into_region s₀ s1 (2 * n) (2 * n) _ J (6 * n) n (inl (omega arith)) (omega arith)

  v1 : region s1 0 (2 * n) ≡ V3
  v1 = into_region s₀ s1 (2 * n) (2 * n) _ J 0 (2 * n) (inr (omega arith)) (omega arith)

  a1 : region s1 (2 * n) c ≡ live_from T3 0 (2 * n)
  a1 =
      let own = into_own s₀ s1 (2 * n) (2 * n) _ J (omega arith) in
      sym (take-take c (2 * n) (drop (2 * n) s1) count-le) ∙ ap (take c) own ∙ ap (take c) J.ok.first ∙ take_at (live_from T3 0 (length (region s₀ (2 * n) (2 * n)))) (drop c (region s₀ (2 * n) (2 * n))) c (sym J.ok.count)
      ∙ ap (live_from T3 0) (long-a s₀ n H)

  module _ (s2 : List ℕ) (S : s2 ≡ sorted s1 0 (2 * n) (2 * n) (4 * n) c) where
    abbrev Z : List ℕ
    Z = replicate c 0

    z-size : length Z ≡ c
    z-size = length-replicate c 0

    abbrev M1 : List ℕ
    M1 = order (word_key (region s1 0 (2 * n))) (region s1 (2 * n) c)

    n1 : length M1 ≡ c
    n1 = order-length (word_key (region s1 0 (2 * n))) (region s1 (2 * n) c) ∙ length-region s1 (2 * n) c (omega (arith, z1, count-le))

    -- the keys begin at 0
    sorted-is : s2 ≡ put (put s1 (4 * n) Z) (2 * n) M1
    sorted-is =
        let e : 2 * n - 0 ≡ 2 * n = omega arith in
        S ∙ sym (sorted-yes s1 0 (2 * n) (2 * n) (4 * n) c cut-is) ∙ ap (λ (k : ℕ). put (put s1 (4 * n) Z) (2 * n) (order (word_key (region s1 0 k)) (region s1 (2 * n) c))) e

    z2 : length s2 ≡ length s₀
    z2 = ap length sorted-is ∙ length-put (put s1 (4 * n) Z) (2 * n) M1 ∙ length-put s1 (4 * n) Z ∙ z1

    under : (b m : ℕ) → Off (2 * n) c b m → Off (4 * n) c b m → b + m ≤ length s₀ → region s2 b m ≡ region s1 b m
    under b m o u h =
        ap (λ (z : List ℕ). region z b m) sorted-is
        ∙ region-off (put s1 (4 * n) Z) (2 * n) M1 b m (subst (λ (z : ℕ). Off (2 * n) z b m) (sym n1) o) (rw length-put (omega (arith, z1)))
        ∙ region-off s1 (4 * n) Z b m (subst (λ (z : ℕ). Off (4 * n) z b m) (sym z-size) u) (omega (arith, z1))

    t2 : region s2 (6 * n) n ≡ T3
    t2 = under (6 * n) n (inl (omega (arith, count-le))) (inl (omega (arith, count-le))) (omega arith) ∙ t1

    v2 : region s2 0 (2 * n) ≡ V3
    v2 = under 0 (2 * n) (inr (omega arith)) (inr (omega arith)) (omega arith) ∙ v1

    a2 : region s2 (2 * n) c ≡ placed T3 V3 (2 * n) two
    a2 =
        ap (λ (z : List ℕ). region z (2 * n) c) sorted-is ∙ region-put (put s1 (4 * n) Z) (2 * n) c M1 n1 (rw length-put (omega (arith, z1, count-le)))
        ∙ ap (λ (z : List ℕ). order (word_key z) (region s1 (2 * n) c)) v1 ∙ ap (order (word_key V3)) a1

    module _ (s3 : List ℕ) (W : s3 ≡ put s2 (4 * n) (replicate (2 * n) 0)) where
      r3 : length {A = ℕ} (replicate (2 * n) 0) ≡ 2 * n
      r3 = length-replicate {A = ℕ} (2 * n) 0

      z3 : length s3 ≡ length s₀
      z3 = ap length W ∙ length-put s2 (4 * n) (replicate (2 * n) 0) ∙ z2

      over : (b m : ℕ) → Off (4 * n) (2 * n) b m → b + m ≤ length s₀ → region s3 b m ≡ region s2 b m
      over b m o h = ap (λ (z : List ℕ). region z b m) W ∙ region-off s2 (4 * n) (replicate (2 * n) 0) b m (subst (λ (z : ℕ). Off (4 * n) z b m) (sym r3) o) (omega (arith, z2))

      v3 : region s3 0 (2 * n) ≡ V3
      v3 = over 0 (2 * n) (inr (omega arith)) (omega arith) ∙ v2

      a3 : region s3 (2 * n) c ≡ placed T3 V3 (2 * n) two
      a3 = over (2 * n) c (inr (omega (arith, count-le))) (omega (arith, count-le)) ∙ a2

      l3 : region s3 (4 * n) (2 * n) ≡ replicate (2 * n) 0
      l3 = ap (λ (z : List ℕ). region z (4 * n) (2 * n)) W ∙ region-put s2 (4 * n) (2 * n) (replicate (2 * n) 0) r3 (omega (arith, z2))

      pub size-3 : 7 * n ≤ length s3
      size-3 = omega (arith, z3)

      pub ranked-3 : Ranked (region s3 0 (2 * n)) (region s3 (2 * n) c) (2 * n)
      ranked-3 = rw (v3, a3) (ranked T3 V3 (2 * n) two)

      pub linked-4 : (s4 : List ℕ) → Into s3 s4 (4 * n) (2 * n) (λ ls. Linked (region s3 0 (2 * n)) (region s3 (2 * n) c) (region s3 (4 * n) (2 * n)) ls c) → LinksIn s₀ s4 n
      linked-4 s4 K =
          let P = placed T3 V3 (2 * n) two in
          let e : c ≡ length P = sym (length-region s3 (2 * n) c (omega (arith, z3, count-le))) ∙ ap length a3 in
          let Q1 : Linked V3 (region s3 (2 * n) c) (region s3 (4 * n) (2 * n)) K.l c = subst (λ (z : List ℕ). Linked z (region s3 (2 * n) c) (region s3 (4 * n) (2 * n)) K.l c) v3 K.ok in
          let Q2 : Linked V3 P (region s3 (4 * n) (2 * n)) K.l c = subst (λ (z : List ℕ). Linked V3 z (region s3 (4 * n) (2 * n)) K.l c) a3 Q1 in
          let Q3 : Linked V3 P (replicate (2 * n) 0) K.l c = subst (λ (z : List ℕ). Linked V3 P z K.l c) l3 Q2 in
          let Q4 : Linked V3 P (replicate (2 * n) 0) K.l (length P) = subst (λ (z : ℕ). Linked V3 P (replicate (2 * n) 0) K.l z) e Q3 in
          record {
            links = into_own s3 s4 (4 * n) (2 * n) _ K (omega (arith, z3)) ∙ ends_linked T3 V3 (2 * n) two K.l Q4;
            todo = into_region s3 s4 (4 * n) (2 * n) _ K (6 * n) n (inl (omega arith)) (omega (arith, z3)) ∙ over (6 * n) n (inl (omega arith)) (omega arith) ∙ t2;
            values = into_region s3 s4 (4 * n) (2 * n) _ K 0 (2 * n) (inr (omega arith)) (omega (arith, z3)) ∙ v3;
            rest = λ b m h g.
                into_region s3 s4 (4 * n) (2 * n) _ K b m (inl (omega arith)) (omega (arith, z3)) ∙ over b m (inl (omega arith)) g ∙ under b m (inl (omega (arith, count-le))) (inl (omega (arith, count-le))) g
                ∙ into_region s₀ s1 (2 * n) (2 * n) _ J b m (inl (omega arith)) g;
          }
