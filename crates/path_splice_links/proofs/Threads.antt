-- The walk over regions of one list: the order from 2 n, the links from 4 n, what is to do from 6 n.
use mathlib.Core.Path.{◌≡◌, refl, sym, ap, ◌∙◌, subst}
use mathlib.Core.Bool.{Bool, true, false, ◌&&◌, not, cond}
use mathlib.Core.Logic.{◌⊎◌, inl, inr, ◌≢◌, ⊎_elim}
use mathlib.Core.List.{List, [], ◌∷◌, ◌++◌, append_assoc, append-nil}
use Prim.Native.Nat.{ℕ, zero, suc, ◌+◌, ◌-◌, ◌*◌, ◌/◌, ◌<◌, ◌≤◌}
use native.Mathlib.Omega.{arith}
use lib.ListN.{length, get_or, set, take, drop, replicate, length-replicate, length-append, get_or-eq_default}
use lib.Seq.{take-take, take_at}
use Rattle.order.specs.Regions.{region, put, Off, Into2}
use Rattle.path_splice_links.specs.Layout.{LinksIn}
use Rattle.path_splice_rule.specs.Splice.{is_zero, opposite, onward, run, from, pass, at_free, at_last, chains_of, links, Walked, Chained}
use Rattle.path_splice_links.specs.Ends.{fit, fit_live}
use Rattle.path_splice_rule.specs.Totals.{total}
use Rattle.path_splice_links.specs.Walk.{link_in, Within, doubled_ends, all_doubled, RunIs, Drew, entry, begun_at, Walkable, order_in, Woven, Threaded, threaded, thread_in}
use lib.Dec.{eqb}
use borrow.Author.Tests.{le-leb, lt-leb}
use Rattle.path_splice_rule.proofs.Ends.{is_zero_lem, not_zero}
use Rattle.order.proofs.Tests.{both, both_left, both_right, eqb-true, neqb, not_true, le-or}
use Rattle.path_splice_links.proofs.Picking.{fits, unfit_stroke}
use Rattle.path_splice_rule.proofs.Totals.{total-length}
use Rattle.path_splice_rule.proofs.Linking.{links-upto}
use Rattle.path_splice_links.proofs.Loop.{Walking, walking, inside, finish, turn}
use Rattle.order.proofs.Parts.{region-put, region-off, length-put, get_off, get_in, cleared, put_same, put-append, length-region, get_region, into2_none, into2-size, into2-region, into2-first, into2-second, into2-as, into2-set, into2-then}
use Rattle.refusal.specs.Limits.{most_strokes}

-- the two regions that a walk writes are apart
pub away : (n : ℕ) → Off (6 * n) n (2 * n) n
away n = inr (omega arith)

module _ (s₀ : List ℕ) (n at : ℕ) (R : Walkable s₀ n at) where
  abbrev L : List ℕ
  L = region s₀ (4 * n) (2 * n)

  abbrev T : List ℕ
  T = region s₀ (6 * n) n

  abbrev O : List ℕ
  O = region s₀ (2 * n) n

  long-l : length L ≡ 2 * n
  long-l = length-region s₀ (4 * n) (2 * n) (omega (arith, R.size))

  long-t : length T ≡ n
  long-t = length-region s₀ (6 * n) n (omega (arith, R.size))

  long-o : length O ≡ n
  long-o = length-region s₀ (2 * n) n (omega (arith, R.size))

  -- one chain
  module _ (start : ℕ) (hs : start < 2 * n) (ht : get_or T (start / 2) 0 ≢ 0) where
    abbrev pub Runs : List ℕ → ℕ → ℕ → ℕ → Type 0
    Runs s e k f = Into2 s₀ s (6 * n) n (2 * n) n (λ t o. Walking L T O at start t o e k f)

    pub runs_none : Runs s₀ start at 1
    runs_none =
        into2_none (6 * n) n (2 * n) n (away n) s₀ (λ t o. Walking L T O at start t o start at 1) (omega (arith, R.size)) (omega (arith, R.size))
        (walking L T O at start (omega (arith, long-l)) ht (omega (arith, R.room, long-o)))

    module _ (s : List ℕ) (e k f : ℕ) (I : Runs s e k f) where
      pub end_lt : e < 2 * n
      end_lt = omega (arith, I.ok.reach, long-l)

      pub place-lt : k < n
      place-lt = omega (arith, inside L T O at start I.l I.k e k f I.ok, I.size2)

    module _ (s : List ℕ) (e k f : ℕ) (I : Runs s e k f) (i : ℕ) (on : i ≡ e / 2) where
      abbrev S : List ℕ
      S = set (set s (6 * n + i) 0) (2 * n + k) (e + e + f)

      stepped : (Q : List ℕ → List ℕ → Type 0) → Q (set I.l (e / 2) 0) (set I.k k (e + e + f)) → Into2 s₀ S (6 * n) n (2 * n) n Q
      stepped Q q =
          subst (λ (z : ℕ). Into2 s₀ (set (set s (6 * n + z) 0) (2 * n + k) (e + e + f)) (6 * n) n (2 * n) n Q) (sym on)
          (into2-set (6 * n) n (2 * n) n (away n) s₀ s _ I (e / 2) 0 k (e + e + f) (omega (arith, end_lt s e k f I)) (place-lt s e k f I) Q q)

      abbrev Any : List ℕ → List ℕ → Type 0
      Any t o = (t ≡ set I.l (e / 2) 0)

      any : Into2 s₀ S (6 * n) n (2 * n) n Any
      any = stepped Any refl

      links-same : region S (4 * n) (2 * n) ≡ L
      links-same = into2-region (6 * n) n (2 * n) n (away n) s₀ S Any any (4 * n) (2 * n) (inr (omega arith)) (inl (omega arith)) (omega (arith, R.size))

      todo-same : region S (6 * n) n ≡ set I.l (e / 2) 0
      todo-same = into2-first (6 * n) n (2 * n) n (away n) s₀ S Any any (omega (arith, R.size)) ∙ any.ok

      pub within_more : Within (region S (4 * n) (2 * n))
      within_more = rw links-same R.within

      module _ (x : ℕ) (q : x ≡ onward (region S (6 * n) n) (get_or (region S (4 * n) (2 * n)) (opposite e) 0)) where
        onward-is : onward (set I.l (e / 2) 0) (link_in L (opposite e)) ≡ x
        onward-is = sym (q ∙ ap (λ (z : List ℕ). onward z (get_or (region S (4 * n) (2 * n)) (opposite e) 0)) todo-same ∙ ap (λ (z : List ℕ). onward (set I.l (e / 2) 0) (get_or z (opposite e) 0)) links-same)

        pub runs-finish : x ≡ 0 → Into2 s₀ S (6 * n) n (2 * n) n (λ t o. RunIs L T O at start t o (k + 1))
        runs-finish z = stepped (λ t o. RunIs L T O at start t o (k + 1)) (finish L T O at start I.l I.k e k f I.ok (onward-is ∙ z))

        pub runs-turn : (g : ℕ) → x ≡ suc g → Runs S g (k + 1) 0
        runs-turn g z = stepped (λ t o. Walking L T O at start t o g (k + 1) 0) (turn L T O at start I.l I.k e k f I.ok R.within g (onward-is ∙ z))

  -- from one stroke
  module _ (rings : Bool) (i : ℕ) where
    abbrev target : ℕ
    target = cond (is_zero (get_or T i 0)) 0 (entry (link_in L) rings i)

    pub drew-none : target ≡ 0 → Into2 s₀ s₀ (6 * n) n (2 * n) n (λ t o. Drew (begun_at L n T rings i) O at t o at)
    unfolding begun_at from all_doubled
    drew-none e =
        into2_none (6 * n) n (2 * n) n (away n) s₀ (λ t o. Drew (begun_at L n T rings i) O at t o at) (omega (arith, R.size)) (omega (arith, R.size))
        (record { left = rw e; front = rw e (sym (append-nil (take at O))); room = omega (arith, R.room, long-o) })

    pub skipped : get_or s₀ (6 * n + i) 0 ≡ 0 → i < n → target ≡ 0
    skipped z h = rw (is_zero_lem (get_or T i 0) (get_region s₀ (6 * n) n i h ∙ z))

    to-do : get_or s₀ (6 * n + i) 0 ≢ 0 → i < n → get_or T i 0 ≢ 0
    to-do z h q = z (sym (get_region s₀ (6 * n) n i h) ∙ q)

    pub entered : (x : ℕ) → get_or s₀ (6 * n + i) 0 ≢ 0 → i < n → x ≡ entry (link_in L) rings i → target ≡ x
    entered x z h q = rw (not_zero (get_or T i 0) (to-do z h)) (sym q)

    entry-is : (e : ℕ) → suc e ≡ entry (link_in L) rings i → e / 2 ≡ i
    unfolding entry at_last at_free
    entry-is e = go rings (is_zero (link_in L (2 * i))) (is_zero (link_in L (2 * i + 1)))
      where
        go : (r b d : Bool) → suc e ≡ cond r (suc (2 * i + 1)) (cond b (suc (2 * i)) (cond d (suc (2 * i + 1)) 0)) → e / 2 ≡ i
        go true b d h = omega arith
        go false true d h = omega arith
        go false false true h = omega arith
        go false false false h = absurd (omega arith)

    pub start_is : (e : ℕ) → suc e ≡ entry (link_in L) rings i → e / 2 ≡ i
    start_is e q = entry-is e q

    pub start-todo : (e : ℕ) → get_or s₀ (6 * n + i) 0 ≢ 0 → i < n → suc e ≡ entry (link_in L) rings i → get_or T (e / 2) 0 ≢ 0
    start-todo e z h q = rw (start_is e q) (to-do z h)

    pub drew-run : (s : List ℕ) (e r : ℕ) → get_or s₀ (6 * n + i) 0 ≢ 0 → i < n → suc e ≡ entry (link_in L) rings i
        → Into2 s₀ s (6 * n) n (2 * n) n (λ t o. RunIs L T O at e t o r) → Into2 s₀ s (6 * n) n (2 * n) n (λ t o. Drew (begun_at L n T rings i) O at t o r)
    unfolding begun_at from all_doubled
    drew-run s e r z h q J =
        let u : target ≡ suc e = entered (suc e) z h q in
        let d : run (link_in L) (length T) T e ≡ run (link_in L) n T e = ap (λ (k : ℕ). run (link_in L) k T e) long-t in
        into2-as (6 * n) n (2 * n) n (away n) s₀ s _ J (λ t o. Drew (begun_at L n T rings i) O at t o r)
        (record {
          left = rw u (J.ok.left ∙ ap (λ (w : Chained). w.left) d);
          front = rw u (J.ok.front ∙ ap (λ (w : Chained). take at O ++ doubled_ends 1 w.chain) d ∙ ap (λ (w : List ℕ). take at O ++ w) (sym (append-nil (doubled_ends 1 (run (link_in L) n T e).chain))));
          room = J.ok.room;
        })

-- all strokes
ink_append : (a b : List (List ℕ)) → all_doubled (a ++ b) ≡ all_doubled a ++ all_doubled b
unfolding all_doubled
ink_append [] b = refl
ink_append (c ∷ a) b = ap (λ (z : List ℕ). doubled_ends 1 c ++ z) (ink_append a b) ∙ sym (append_assoc (doubled_ends 1 c) (all_doubled a) (all_doubled b))

pass_step : (enter link : ℕ → ℕ) (n j i : ℕ) (t : List ℕ) (k : ℕ) → k ≡ suc j → pass enter link n k i t
    ≡ (let r = from link n t (cond (is_zero (get_or t i 0)) 0 (enter i)) in let q = pass enter link n j (suc i) r.left in record { chains = r.chains ++ q.chains; left = q.left })
unfolding pass
pass_step enter link n j i t zero e = absurd (omega arith)
pass_step enter link n j i t (suc k) e = let p : k ≡ j = omega arith in rw p

pass-none : (enter link : ℕ → ℕ) (n i : ℕ) (t : List ℕ) (k : ℕ) → k ≡ 0 → pass enter link n k i t ≡ record { chains = []; left = t }
unfolding pass
pass-none enter link n i t zero e = refl
pass-none enter link n i t (suc k) e = absurd (omega arith)

-- i strokes are passed, and k ends written
pub record Passing (s₀ : List ℕ) (n at : ℕ) (rings : Bool) (i k : ℕ) (t o : List ℕ) : Type 0 where
  pub left : (pass (entry (link_in (region s₀ (4 * n) (2 * n))) rings) (link_in (region s₀ (4 * n) (2 * n))) n n 0 (region s₀ (6 * n) n)).left ≡ (pass (entry (link_in (region s₀ (4 * n) (2 * n))) rings) (link_in (region s₀ (4 * n) (2 * n))) n (n - i) i t).left
  pub front : take at (region s₀ (2 * n) n) ++ all_doubled (pass (entry (link_in (region s₀ (4 * n) (2 * n))) rings) (link_in (region s₀ (4 * n) (2 * n))) n n 0 (region s₀ (6 * n) n)).chains
      ≡ take k o ++ all_doubled (pass (entry (link_in (region s₀ (4 * n) (2 * n))) rings) (link_in (region s₀ (4 * n) (2 * n))) n (n - i) i t).chains
  pub room : total (λ s. 1) 0 t + k ≤ length o

module _ (s₀ : List ℕ) (n at : ℕ) (R : Walkable s₀ n at) (rings : Bool) where
  abbrev LL : List ℕ
  LL = region s₀ (4 * n) (2 * n)

  abbrev TT : List ℕ
  TT = region s₀ (6 * n) n

  abbrev OO : List ℕ
  OO = region s₀ (2 * n) n

  abbrev E : ℕ → ℕ
  E = entry (link_in LL) rings

  abbrev pub Passes : List ℕ → ℕ → ℕ → Type 0
  Passes s i k = Into2 s₀ s (6 * n) n (2 * n) n (Passing s₀ n at rings i k)

  pub passes_none : Passes s₀ 0 at
  passes_none =
      let z : n - 0 ≡ n = omega arith in
      into2_none (6 * n) n (2 * n) n (away n) s₀ (Passing s₀ n at rings 0 at) (omega (arith, R.size)) (omega (arith, R.size))
      (record { left = rw z; front = rw z; room = omega (arith, R.room, length-region s₀ (2 * n) n (omega (arith, R.size))) })

  module _ (s : List ℕ) (i k : ℕ) (I : Passes s i k) where
    size_is : length s ≡ length s₀
    size_is = into2-size (6 * n) n (2 * n) n (away n) s₀ s (Passing s₀ n at rings i k) I

    l-is : region s (4 * n) (2 * n) ≡ LL
    l-is = into2-region (6 * n) n (2 * n) n (away n) s₀ s (Passing s₀ n at rings i k) I (4 * n) (2 * n) (inr (omega arith)) (inl (omega arith)) (omega (arith, R.size))

    t-is : region s (6 * n) n ≡ I.l
    t-is = into2-first (6 * n) n (2 * n) n (away n) s₀ s (Passing s₀ n at rings i k) I (omega (arith, R.size))

    o_is : region s (2 * n) n ≡ I.k
    o_is = into2-second (6 * n) n (2 * n) n (away n) s₀ s (Passing s₀ n at rings i k) I (omega (arith, R.size))

    pub ready-more : Walkable s n k
    ready-more = record { size = omega (arith, R.size, size_is); few = R.few; within = rw l-is R.within; room = rw t-is (omega (arith, I.ok.room, I.size2)) }

    module _ (h : i < n) (s' : List ℕ) (r : ℕ)
        (J : Into2 s s' (6 * n) n (2 * n) n (λ t o. Drew (begun_at (region s (4 * n) (2 * n)) n (region s (6 * n) n) rings i) (region s (2 * n) n) k t o r)) where
      drew : Drew (begun_at LL n I.l rings i) I.k k J.l J.k r
      drew =
          let a : Drew (begun_at LL n (region s (6 * n) n) rings i) (region s (2 * n) n) k J.l J.k r = subst (λ (z : List ℕ). Drew (begun_at z n (region s (6 * n) n) rings i) (region s (2 * n) n) k J.l J.k r) l-is J.ok in
          let b : Drew (begun_at LL n I.l rings i) (region s (2 * n) n) k J.l J.k r = subst (λ (z : List ℕ). Drew (begun_at LL n z rings i) (region s (2 * n) n) k J.l J.k r) t-is a in
          subst (λ (z : List ℕ). Drew (begun_at LL n I.l rings i) z k J.l J.k r) o_is b

      abbrev Q : Walked
      Q = pass E (link_in LL) n (n - (i + 1)) (i + 1) J.l

      step_is : pass E (link_in LL) n (n - i) i I.l ≡ record { chains = (begun_at LL n I.l rings i).chains ++ Q.chains; left = Q.left }
      unfolding begun_at
      step_is =
          let w = begun_at LL n I.l rings i in
          let e : suc i ≡ i + 1 = omega arith in
          let d : pass E (link_in LL) n (n - (i + 1)) (suc i) w.left ≡ Q = ap (λ (z : ℕ). pass E (link_in LL) n (n - (i + 1)) z w.left) e ∙ ap (pass E (link_in LL) n (n - (i + 1)) (i + 1)) (sym drew.left) in
          pass_step E (link_in LL) n (n - (i + 1)) i I.l (n - i) (omega arith) ∙ ap (λ (q : Walked). record { chains = w.chains ++ q.chains; left = q.left }) d

      pub passes-more : Passes s' (i + 1) r
      passes-more =
          into2-then (6 * n) n (2 * n) n (away n) s₀ s (Passing s₀ n at rings i k) I s' (Passing s₀ n at rings (i + 1) r)
          (into2-as (6 * n) n (2 * n) n (away n) s s' _ J (Passing s₀ n at rings (i + 1) r)
          (record {
            left = I.ok.left ∙ ap (λ (q : Walked). q.left) step_is;
            front =
                I.ok.front ∙ ap (λ (q : Walked). take k I.k ++ all_doubled q.chains) step_is ∙ ap (λ (q : List ℕ). take k I.k ++ q) (ink_append (begun_at LL n I.l rings i).chains Q.chains)
                ∙ sym (append_assoc (take k I.k) (all_doubled (begun_at LL n I.l rings i).chains) (all_doubled Q.chains)) ∙ ap (λ (q : List ℕ). q ++ all_doubled Q.chains) (sym drew.front);
            room = drew.room;
          }))

  pub passes_all : (s : List ℕ) (i k : ℕ) → n ≤ i → Passes s i k → Into2 s₀ s (6 * n) n (2 * n) n (λ t o. Drew (pass E (link_in LL) n n 0 TT) OO at t o k)
  unfolding all_doubled
  passes_all s i k h I =
      let e = pass-none E (link_in LL) n i I.l (n - i) (omega arith) in
      into2-as (6 * n) n (2 * n) n (away n) s₀ s (Passing s₀ n at rings i k) I (λ t o. Drew (pass E (link_in LL) n n 0 TT) OO at t o k)
      (record {
        left = sym (I.ok.left ∙ ap (λ (q : Walked). q.left) e);
        front = sym (I.ok.front ∙ ap (λ (q : Walked). take k I.k ++ all_doubled q.chains) e ∙ append-nil (take k I.k));
        room = I.ok.room;
      })

-- where a stroke is entered
module _ (link : ℕ → ℕ) (rings : Bool) (i : ℕ) where
  pub enter_ring : rings ≡ true → (e : ℕ) → e ≡ 2 * i + 1 → suc e ≡ entry link rings i
  unfolding entry at_last
  enter_ring h e p = rw (h, p)

  pub enter_first : rings ≡ false → (e : ℕ) → e ≡ 2 * i → is_zero (link e) ≡ true → suc e ≡ entry link rings i
  unfolding entry at_free
  enter_first h e p z = rw (h, ← p, z)

  pub enter_last : rings ≡ false → (e f : ℕ) → e ≡ 2 * i → is_zero (link e) ≡ false → f ≡ 2 * i + 1 → is_zero (link f) ≡ true → suc f ≡ entry link rings i
  unfolding entry at_free
  enter_last h e f p y q z = rw (h, ← q, ← p, y, z)

  pub enter_none : rings ≡ false → (e f : ℕ) → e ≡ 2 * i → is_zero (link e) ≡ false → f ≡ 2 * i + 1 → is_zero (link f) ≡ false → 0 ≡ entry link rings i
  unfolding entry at_free
  enter_none h e f p y q z = rw (h, ← q, ← p, y, z)

live_turn : (todo vs : List ℕ) (e f : ℕ) → fit_live todo vs e f ≡ true → fit_live todo vs f e ≡ true
unfolding fit_live fit
live_turn todo vs e f h =
    let a = not (is_zero (get_or todo (e / 2) 0)) in
    let b = not (is_zero (get_or todo (f / 2) 0)) in
    let p = not (eqb (e / 2) (f / 2)) in
    let q = eqb (get_or vs e 0) (get_or vs f 0) in
    let u = both_left (a && b) (p && q) h in
    let w = both_right (a && b) (p && q) h in
    both (both (both_right a b u) (both_left a b u)) (fits vs f e (eqb-true (get_or vs e 0) (get_or vs f 0) (both_right p q w)) (neqb (e / 2) (f / 2) (not_true (eqb (e / 2) (f / 2)) (both_left p q w))))

live_apart : (todo vs : List ℕ) (e : ℕ) → fit_live todo vs e e ≡ false
unfolding fit_live
live_apart todo vs e = rw (unfit_stroke vs e e refl) (never (not (is_zero (get_or todo (e / 2) 0)) && not (is_zero (get_or todo (e / 2) 0))))
  where
    never : (b : Bool) → b && false ≡ false
    never true = refl
    never false = refl

-- all links lead to ends
within-links : (todo vs : List ℕ) (m : ℕ) → Within (links (fit_live todo vs) m)
within-links todo vs m e = go (get_or (links (fit_live todo vs) m) e 0) refl
  where
    go : (x : ℕ) → get_or (links (fit_live todo vs) m) e 0 ≡ x → x ≤ length (links (fit_live todo vs) m)
    go zero q = omega arith
    go (suc f) q =
        let b = (links-upto (fit_live todo vs) (live_turn todo vs) (live_apart todo vs) m).linked.back e f q in
        ⊎_elim (λ h. let z : get_or (links (fit_live todo vs) m) f 0 ≡ 0 = get_or-eq_default (links (fit_live todo vs) m) 0 h in absurd (omega arith)) (λ h. omega arith) (le-or (length (links (fit_live todo vs) m)) f)

free_of : (link : ℕ → ℕ) → entry link false ≡ at_free link
unfolding entry
free_of link = λ j x. at_free link x

last_of_lem : (link : ℕ → ℕ) → entry link true ≡ at_last
unfolding entry
last_of_lem link = λ j x. at_last x

-- the whole
module _ (s₀ : List ℕ) (n : ℕ) (H : 7 * n ≤ length s₀) (few : n ≤ most_strokes) (s1 : List ℕ) (z1 : length s1 ≡ length s₀) (K : LinksIn s₀ s1 n) where
  abbrev LS : List ℕ
  LS = links (fit_live (region s₀ (6 * n) n) (region s₀ 0 (2 * n))) (2 * n)

  abbrev TS : List ℕ
  TS = region s₀ (6 * n) n

  pub ready_first : Walkable s1 n 0
  ready_first =
      record {
        size = omega arith;
        few = few;
        within = rw K.links (within-links (region s₀ (6 * n) n) (region s₀ 0 (2 * n)) (2 * n));
        room = omega (arith, total-length 0 (region s1 (6 * n) n), length-region s1 (6 * n) n (omega arith));
      }

  module _ (s2 : List ℕ) (k : ℕ)
      (J : Into2 s1 s2 (6 * n) n (2 * n) n (λ t o. Drew (pass (entry (link_in (region s1 (4 * n) (2 * n))) false) (link_in (region s1 (4 * n) (2 * n))) n n 0 (region s1 (6 * n) n)) (region s1 (2 * n) n) 0 t o k)) where
    abbrev P1 : Walked
    P1 = pass (at_free (link_in LS)) (link_in LS) n n 0 TS

    first-is : pass (entry (link_in (region s1 (4 * n) (2 * n))) false) (link_in (region s1 (4 * n) (2 * n))) n n 0 (region s1 (6 * n) n) ≡ P1
    first-is =
        ap (λ (z : List ℕ). pass (entry (link_in z) false) (link_in z) n n 0 (region s1 (6 * n) n)) K.links ∙ ap (λ (z : List ℕ). pass (entry (link_in LS) false) (link_in LS) n n 0 z) K.todo
        ∙ ap (λ (f : ℕ → ℕ). pass f (link_in LS) n n 0 TS) (free_of (link_in LS))

    z2 : length s2 ≡ length s₀
    z2 = into2-size (6 * n) n (2 * n) n (away n) s1 s2 _ J ∙ z1

    l2 : region s2 (4 * n) (2 * n) ≡ LS
    l2 = into2-region (6 * n) n (2 * n) n (away n) s1 s2 _ J (4 * n) (2 * n) (inr (omega arith)) (inl (omega arith)) (omega arith) ∙ K.links

    t2 : region s2 (6 * n) n ≡ P1.left
    t2 = into2-first (6 * n) n (2 * n) n (away n) s1 s2 _ J (omega arith) ∙ J.ok.left ∙ ap (λ (w : Walked). w.left) first-is

    o2 : take k (region s2 (2 * n) n) ≡ all_doubled P1.chains
    o2 = ap (take k) (into2-second (6 * n) n (2 * n) n (away n) s1 s2 _ J (omega arith)) ∙ J.ok.front ∙ ap (λ (w : Walked). all_doubled w.chains) first-is

    pub ready-second : Walkable s2 n k
    ready-second =
        record {
          size = omega (arith, z2);
          few = few;
          within = rw l2 (within-links (region s₀ (6 * n) n) (region s₀ 0 (2 * n)) (2 * n));
          room = rw (into2-first (6 * n) n (2 * n) n (away n) s1 s2 _ J (omega arith)) (omega (arith, J.ok.room, J.size2));
        }

    pub woven : (s3 : List ℕ) (r : ℕ)
        → Into2 s2 s3 (6 * n) n (2 * n) n (λ t o. Drew (pass (entry (link_in (region s2 (4 * n) (2 * n))) true) (link_in (region s2 (4 * n) (2 * n))) n n 0 (region s2 (6 * n) n)) (region s2 (2 * n) n) k t o r)
        → Woven s₀ s3 n r
    unfolding order_in chains_of
    woven s3 r M =
        let e : pass (entry (link_in (region s2 (4 * n) (2 * n))) true) (link_in (region s2 (4 * n) (2 * n))) n n 0 (region s2 (6 * n) n) ≡ pass at_last (link_in LS) n n 0 P1.left =
        ap (λ (z : List ℕ). pass (entry (link_in z) true) (link_in z) n n 0 (region s2 (6 * n) n)) l2 ∙ ap (λ (z : List ℕ). pass (entry (link_in LS) true) (link_in LS) n n 0 z) t2
        ∙ ap (λ (f : ℕ → ℕ). pass f (link_in LS) n n 0 P1.left) (last_of_lem (link_in LS)) in
        let q : r ≤ n = omega (arith, M.ok.room, M.size2) in
        record {
          few = q;
          order =
              sym (take-take r n (drop (2 * n) s3) q) ∙ ap (take r) (into2-second (6 * n) n (2 * n) n (away n) s2 s3 _ M (omega (arith, z2))) ∙ M.ok.front
              ∙ ap (λ (z : List ℕ). z ++ all_doubled (pass (entry (link_in (region s2 (4 * n) (2 * n))) true) (link_in (region s2 (4 * n) (2 * n))) n n 0 (region s2 (6 * n) n)).chains) o2
              ∙ ap (λ (w : Walked). all_doubled P1.chains ++ all_doubled w.chains) e ∙ sym (ink_append P1.chains (pass at_last (link_in LS) n n 0 P1.left).chains);
          values =
              into2-region (6 * n) n (2 * n) n (away n) s2 s3 _ M 0 (2 * n) (inr (omega arith)) (inr (omega arith)) (omega (arith, z2)) ∙ into2-region (6 * n) n (2 * n) n (away n) s1 s2 _ J 0 (2 * n) (inr (omega arith)) (inr (omega arith)) (omega arith)
              ∙ K.values;
          rest = λ b m h g.
              into2-region (6 * n) n (2 * n) n (away n) s2 s3 _ M b m (inl (omega arith)) (inl (omega arith)) (omega (arith, z2)) ∙ into2-region (6 * n) n (2 * n) n (away n) s1 s2 _ J b m (inl (omega arith)) (inl (omega arith)) (omega arith)
              ∙ K.rest b m h g;
        }

-- the words after the order, lent and cleared
module _ (s : List ℕ) (n : ℕ) (H : 7 * n ≤ length s) (s1 : List ℕ) (z : length s1 ≡ length s) (r : ℕ) (W : Woven s s1 n r) where
  order-long : length (order_in s n) ≡ r
  order-long = sym (ap length W.order) ∙ length-region s1 (2 * n) r (omega (arith, W.few))

  below : (j : ℕ) → j < 2 * n → get_or s1 j 0 ≡ get_or s j 0
  below j h =
      let e : 0 + j ≡ j = omega arith in
      rw e at (sym (get_region s1 0 (2 * n) j h) ∙ ap (λ (l : List ℕ). get_or l j 0) W.values ∙ get_region s 0 (2 * n) j h)

  above : (j : ℕ) → 7 * n ≤ j → j < length s → get_or s1 j 0 ≡ get_or s j 0
  above j h l =
      let e : j + 0 ≡ j = omega arith in
      rw e at (sym (get_region s1 j 1 0 (omega arith)) ∙ ap (λ (l : List ℕ). get_or l 0 0) (W.rest j 1 h (omega arith)) ∙ get_region s j 1 0 (omega arith))

  among : (i : ℕ) → i < r → get_or s1 (2 * n + i) 0 ≡ get_or (order_in s n) i 0
  among i h = sym (get_region s1 (2 * n) r i h) ∙ ap (λ (l : List ℕ). get_or l i 0) W.order

  same_out : (j : ℕ) → j < length s1 → (j < 2 * n + r) ⊎ (7 * n ≤ j) → get_or s1 j 0 ≡ get_or (put s (2 * n) (order_in s n)) j 0
  same_out j l (inr h) = above j h (omega arith) ∙ sym (get_off s (2 * n) (order_in s n) j (inr (omega (arith, order-long, W.few))))
  same_out j l (inl h) = ⊎_elim (λ k. let e : j ≡ 2 * n + (j - 2 * n) = omega arith in
      rw e (among (j - 2 * n) (omega arith) ∙ sym (get_in s (2 * n) (order_in s n) (j - 2 * n) (omega (arith, order-long)) (omega arith)))) (λ k. below j k ∙ sym (get_off s (2 * n) (order_in s n) j (inl k))) (le-or (2 * n) j)

  pub all_woven : (h : ℕ) → h ≡ 7 * n → (l : List ℕ) → l ≡ replicate (length (region s1 (2 * n + r) (h - (2 * n + r)))) 0
      → take (2 * n + r) s1 ++ (l ++ drop (h - (2 * n + r)) (drop (2 * n + r) s1)) ≡ put s (2 * n) (order_in s n ++ replicate (5 * n - length (order_in s n)) 0)
  all_woven h q l f =
      let t : length (replicate {A = ℕ} (5 * n - r) 0) ≡ 5 * n - r = length-replicate (5 * n - r) 0 in
      cleared s1 (2 * n + r) (5 * n - r) h (omega (arith, W.few)) (omega (arith, W.few)) l f
      ∙ put_same s1 (put s (2 * n) (order_in s n)) (2 * n + r) (replicate (5 * n - r) 0) (z ∙ sym (length-put s (2 * n) (order_in s n)))
      (λ j k o. same_out j k (⊎_elim (λ p. inl p) (λ p. inr (omega (arith, t, W.few))) o))
      ∙ ap (λ (k : ℕ). put (put s (2 * n) (order_in s n)) (2 * n + k) (replicate (5 * n - k) 0)) (sym order-long)
      ∙ put-append s (2 * n) (order_in s n) (replicate (5 * n - length (order_in s n)) 0)

  pub thread_yes : n ≤ most_strokes → (s' : List ℕ) → s' ≡ put s (2 * n) (order_in s n ++ replicate (5 * n - length (order_in s n)) 0) → threaded r s' ≡ thread_in s n
  unfolding thread_in
  thread_yes f s' e = rw (le-leb n most_strokes f, le-leb (7 * n) (length s) H) (ap (λ (k : ℕ). threaded k s') (sym order-long) ∙ ap (threaded (length (order_in s n))) e)

module _ (s : List ℕ) (n : ℕ) where
  pub thread_many : most_strokes < n → threaded 0 s ≡ thread_in s n
  unfolding thread_in
  thread_many h = rw (lt-leb n most_strokes h)

  pub thread_short : n ≤ most_strokes → length s < 7 * n → threaded 0 s ≡ thread_in s n
  unfolding thread_in
  thread_short f h = rw (le-leb n most_strokes f, lt-leb (7 * n) (length s) h)

-- what the answer says where there is room
module _ (s s' : List ℕ) (n r : ℕ) (H : 7 * n ≤ length s) (f : n ≤ most_strokes) (few : r ≤ n) (e : threaded r s' ≡ thread_in s n) where
  abbrev All : List ℕ
  All = order_in s n ++ replicate (5 * n - length (order_in s n)) 0

  thread_is : threaded r s' ≡ threaded (length (order_in s n)) (put s (2 * n) All)
  unfolding thread_in
  thread_is = rw (le-leb n most_strokes f, le-leb (7 * n) (length s) H) at e

  count-is : r ≡ length (order_in s n)
  count-is = ap (λ (t : Threaded). t.count) thread_is

  words_is : s' ≡ put s (2 * n) All
  words_is = ap (λ (t : Threaded). t.words) thread_is

  all_long : length All ≡ 5 * n
  all_long = length-append (order_in s n) (replicate (5 * n - length (order_in s n)) 0) ∙ omega (arith, length-replicate {A = ℕ} (5 * n - length (order_in s n)) 0, count-is)

  pub threads_woven : Woven s s' n r
  threads_woven =
      record {
        few = few;
        order =
            ap (λ (z : List ℕ). region z (2 * n) r) words_is ∙ sym (take-take r (5 * n) (drop (2 * n) (put s (2 * n) All)) (omega arith)) ∙ ap (take r) (region-put s (2 * n) (5 * n) All all_long (omega arith))
            ∙ take_at (order_in s n) (replicate (5 * n - length (order_in s n)) 0) r (sym count-is);
        values = ap (λ (z : List ℕ). region z 0 (2 * n)) words_is ∙ region-off s (2 * n) All 0 (2 * n) (inr (omega arith)) (omega arith);
        rest = λ b m h g. ap (λ (z : List ℕ). region z b m) words_is ∙ region-off s (2 * n) All b m (inl (omega (arith, all_long))) g;
      }
