-- The walk: each stroke is drawn once, and a chain is a ring or ends at two free ends.
use mathlib.Core.Path.{◌≡◌, refl, sym, ap, ◌∙◌, subst}
use mathlib.Core.Bool.{Bool, true, false, cond}
use mathlib.Core.Logic.{◌⊎◌, inl, inr, ◌≢◌}
use mathlib.Core.List.{List, [], ◌∷◌, ◌++◌}
use Prim.Native.Nat.{ℕ, zero, suc, ◌+◌, ◌*◌, ◌/◌, ◌<◌, ◌≤◌}
use native.Mathlib.Omega.{arith}
use native.Mathlib.Decide.{ℕ_discrete, dec_le}
use native.Mathlib.Nat.{zero-add}
use lib.ListN.{length, get_or, set, get_or-eq_default}
use Rattle.path_splice_rule.specs.Splice.{is_zero, down, opposite, onward, after, run, from, pass, at_free, at_last, chains_of, Chained, Walked}
use Rattle.path_splice_rule.specs.Demand.{sum}
use Rattle.path_splice_rule.proofs.Ends.{opp_stroke, opp_ne, two_ends, zero_of, nonzero_of}
use Rattle.path_splice_rule.specs.Totals.{total}
use Rattle.path_splice_rule.proofs.Totals.{take-off, total-none, total-length, none_left, done_same, done_kept, done_other, sum-append}

abbrev pub Done : List ℕ → ℕ → Type 0
Done t e = get_or t (e / 2) 0 ≡ 0

abbrev pub Todo : List ℕ → ℕ → Type 0
Todo t e = get_or t (e / 2) 0 ≢ 0

-- how a chain from e₀ stops, at the exit x: at two free ends, or as a ring
pub data Stops (link : ℕ → ℕ) (e₀ x : ℕ) : Type 0 where
  loose : link e₀ ≡ 0 → link x ≡ 0 → Stops link e₀ x
  ring : link x ≡ suc e₀ → Stops link e₀ x

pub data Chain (link : ℕ → ℕ) (live : ℕ → Type 0) (e₀ : ℕ) : ℕ → List ℕ → Type 0 where
  end : {e : ℕ} → live (e / 2) → Stops link e₀ (opposite e) → Chain link live e₀ e (e ∷ [])
  next : {e f : ℕ} {c : List ℕ} → live (e / 2) → link (opposite e) ≡ suc f → Chain link live e₀ f c → Chain link live e₀ e (e ∷ c)

unfoldable pub Good : (ℕ → ℕ) → (ℕ → Type 0) → List ℕ → Type 0
Good link live c = (e : ℕ) × Chain link live e e c

pub data All {A : Type 0} (P : A → Type 0) : List A → Type 0 where
  none : All P []
  more : {x : A} {xs : List A} → P x → All P xs → All P (x ∷ xs)

pub all_append : {A : Type 0} {P : A → Type 0} {s t : List A} → All P s → All P t → All P (s ++ t)
all_append none q = q
all_append (more p r) q = more p (all_append r q)

unfoldable pub weigh : (ℕ → ℕ) → List ℕ → ℕ
weigh w = sum (λ e. w (e / 2))

module _ (link : ℕ → ℕ) (back : (e f : ℕ) → link e ≡ suc f → link f ≡ suc e) (moves : (e f : ℕ) → link e ≡ suc f → e / 2 ≢ f / 2) (live : ℕ → Type 0) where
  abbrev pub Closed : List ℕ → Type 0
  Closed t = (a b : ℕ) → Done t a → link a ≡ suc b → Done t b

  record Inner (t : List ℕ) (e₀ x b : ℕ) : Type 0 where
    done : Done t b
    not_start : b ≢ e₀
    not-exit : b ≢ x

  -- within a chain from e₀ whose exit is x: the other ends of drawn strokes are linked among themselves
  record Mid (t : List ℕ) (e₀ x : ℕ) : Type 0 where
    start-done : Done t e₀
    exit-done : Done t x
    differ : x ≢ e₀
    inner : (a b : ℕ) → Done t a → link a ≡ suc b → a ≢ e₀ → a ≢ x → Inner t e₀ x b

  begin : (t : List ℕ) (e : ℕ) → Closed t → Todo t e → Mid (set t (e / 2) 0) e (opposite e)
  begin t e C h =
      record {
        start-done = done_same t (e / 2);
        exit-done = rw opp_stroke (done_same t (e / 2));
        differ = opp_ne e;
        inner = λ a b d l na nx. inside a b d l (λ q. na (two_ends a e q nx));
      }
    where
      inside : (a b : ℕ) → Done (set t (e / 2) 0) a → link a ≡ suc b → a / 2 ≢ e / 2 → Inner (set t (e / 2) 0) e (opposite e) b
      inside a b d l n =
          let db : Done t b = C a b (done_other t (e / 2) (a / 2) n d) l in
          record {
            done = done_kept t (e / 2) (b / 2) db;
            not_start = λ q. h (rw (← q) db);
            not-exit = λ q. h (let z : get_or t (opposite e / 2) 0 ≡ 0 = rw (← q) db in rw opp_stroke at z);
          }

  onto : (t : List ℕ) (e₀ x f : ℕ) → Mid t e₀ x → link x ≡ suc f → Todo t f → Mid (set t (f / 2) 0) e₀ (opposite f)
  onto t e₀ x f M l h =
      record {
        start-done = done_kept t (f / 2) (e₀ / 2) M.start-done;
        exit-done = rw opp_stroke (done_same t (f / 2));
        differ = λ q. fresh e₀ M.start-done (sym q);
        inner = λ a b d k na nx. elim (ℕ_discrete (a / 2) (f / 2)) [ yes q ↦ at_f a b k (two_ends a f q nx) | no q ↦ elim (ℕ_discrete a x) [ yes p ↦ at_x a b k p | no p ↦ older a b (done_other t (f / 2) (a / 2) q d) k na p ] ];
      }
    where
      -- what is done cannot be f's stroke
      fresh : (b : ℕ) → Done t b → b ≢ opposite f
      fresh b d q = h (let z : get_or t (opposite f / 2) 0 ≡ 0 = rw (← q) d in rw opp_stroke at z)

      at_f : (a b : ℕ) → link a ≡ suc b → a ≡ f → Inner (set t (f / 2) 0) e₀ (opposite f) b
      at_f a b k q =
          let bx : b ≡ x = omega (arith, back x f l, rw q at k) in
          rw bx
          (record { done = done_kept t (f / 2) (x / 2) M.exit-done; not_start = M.differ; not-exit = fresh x M.exit-done })

      at_x : (a b : ℕ) → link a ≡ suc b → a ≡ x → Inner (set t (f / 2) 0) e₀ (opposite f) b
      at_x a b k q =
          let bf : b ≡ f = omega (arith, l, rw q at k) in
          subst (λ (z : ℕ). Inner (set t (f / 2) 0) e₀ (opposite f) z) (sym bf)
          (record { done = done_same t (f / 2); not_start = λ q. h (rw q M.start-done); not-exit = λ q. opp_ne f (sym q) })

      older : (a b : ℕ) → Done t a → link a ≡ suc b → a ≢ e₀ → a ≢ x → Inner (set t (f / 2) 0) e₀ (opposite f) b
      older a b d k na nx =
          let I = M.inner a b d k na nx in
          record { done = done_kept t (f / 2) (b / 2) I.done; not_start = I.not_start; not-exit = fresh b I.done }

  module _ (t : List ℕ) (e₀ x : ℕ) (M : Mid t e₀ x) (stuck : (f : ℕ) → link x ≡ suc f → Done t f) where
    stops : (link e₀ ≡ 0) ⊎ (link x ≢ 0) → Stops link e₀ x
    stops p = go (link x) refl p
      where
        ringed : (f : ℕ) → link x ≡ suc f → f ≡ e₀
        ringed f l = elim (ℕ_discrete f e₀) [ yes q ↦ q | no n ↦ absurd ((M.inner f x (stuck f l) (back x f l) n (λ q. moves x f l (ap (λ z. z / 2) (sym q)))).not-exit refl) ]

        go : (n : ℕ) → link x ≡ n → (link e₀ ≡ 0) ⊎ (link x ≢ 0) → Stops link e₀ x
        go zero l (inl z) = loose z l
        go zero l (inr n) = absurd (n l)
        go (suc f) l p = ring (l ∙ ap suc (ringed f l))

    stopped : Stops link e₀ x → Closed t
    stopped (loose z l) a b d k =
        (M.inner a b d k
        (λ q. let w : link e₀ ≡ suc b = rw q at k in omega arith)
        (λ q. let w : link x ≡ suc b = rw q at k in omega arith)).done
    stopped (ring l) a b d k = elim (ℕ_discrete a e₀) [ yes q ↦ at-start q | no n ↦ elim (ℕ_discrete a x) [ yes q ↦ at_exit q | no m ↦ (M.inner a b d k n m).done ] ]
      where
        at-start : a ≡ e₀ → Done t b
        at-start q = let bx : b ≡ x = omega (arith, back x e₀ l, rw q at k) in rw bx M.exit-done

        at_exit : a ≡ x → Done t b
        at_exit q = let be : b ≡ e₀ = omega (arith, l, rw q at k) in rw be M.start-done

  pub record Ran (t : List ℕ) (e₀ e : ℕ) (r : Chained) : Type 0 where
    pub closed : Closed r.left
    pub less : (s : ℕ) → get_or t s 0 ≡ 0 → get_or r.left s 0 ≡ 0
    pub began : get_or r.left (e / 2) 0 ≡ 0
    pub spent : (w : ℕ → ℕ) → total w 0 t ≡ weigh w r.chain + total w 0 r.left
    pub chained : Chain link live e₀ e r.chain

  halt : (t : List ℕ) (e₀ e : ℕ) → Todo t e → live (e / 2) → Mid (set t (e / 2) 0) e₀ (opposite e)
      → ((f : ℕ) → link (opposite e) ≡ suc f → Done (set t (e / 2) 0) f) → (link e₀ ≡ 0) ⊎ (link (opposite e) ≢ 0)
      → Ran t e₀ e (record { chain = e ∷ []; left = set t (e / 2) 0 })
  unfolding weigh sum
  halt t e₀ e h a M stuck p =
      let S = stops (set t (e / 2) 0) e₀ (opposite e) M stuck p in
      record {
        closed = stopped (set t (e / 2) 0) e₀ (opposite e) M stuck S;
        less = λ s d. done_kept t (e / 2) s d;
        began = done_same t (e / 2);
        spent = λ w. omega (arith, rw zero-add at (take-off w 0 t (e / 2) h));
        chained = end a S;
      }

  -- the start is free, or no stroke to do has a free end
  abbrev pub Fair : List ℕ → ℕ → Type 0
  Fair t e₀ = (link e₀ ≡ 0) ⊎ ((x : ℕ) → Todo t x → link x ≢ 0)

  fair_exit : (t : List ℕ) (e₀ e : ℕ) → Fair t e₀ → Todo t e → (link e₀ ≡ 0) ⊎ (link (opposite e) ≢ 0)
  fair_exit t e₀ e (inl z) h = inl z
  fair_exit t e₀ e (inr f) h = inr (f (opposite e) (rw opp_stroke h))

  fair_less : (t u : List ℕ) (e₀ : ℕ) → ((s : ℕ) → get_or t s 0 ≡ 0 → get_or u s 0 ≡ 0) → Fair t e₀ → Fair u e₀
  fair_less t u e₀ l (inl z) = inl z
  fair_less t u e₀ l (inr f) = inr (λ x n. f x (λ d. n (l (x / 2) d)))

  ran : (k : ℕ) (t : List ℕ) (e₀ e : ℕ) → ((s : ℕ) → get_or t s 0 ≢ 0 → live s) → Todo t e → Mid (set t (e / 2) 0) e₀ (opposite e) → Fair t e₀
      → total (λ s. 1) 0 t ≤ suc k → Ran t e₀ e (run link k t e)
  unfolding run after onward weigh sum
  ran zero t e₀ e lv h M p b =
      halt t e₀ e h (lv (e / 2) h) M (λ f l. none_left 0 (set t (e / 2) 0) (omega (arith, take-off (λ s. 1) 0 t (e / 2) h)) (f / 2)) (fair_exit t e₀ e p h)
  ran (suc k) t e₀ e lv h M p b =
      go (link (opposite e)) refl
      (λ f l hf. ran k (set t (e / 2) 0) e₀ f (λ s n. lv s (λ d. n (done_kept t (e / 2) s d))) hf (onto (set t (e / 2) 0) e₀ (opposite e) f M l hf)
      (fair_less t (set t (e / 2) 0) e₀ (λ s d. done_kept t (e / 2) s d) p) (omega (arith, take-off (λ s. 1) 0 t (e / 2) h)))
    where
      Rec : Type 0
      Rec = (f : ℕ) → link (opposite e) ≡ suc f → Todo (set t (e / 2) 0) f → Ran (set t (e / 2) 0) e₀ f (run link k (set t (e / 2) 0) f)

      added : (f : ℕ) → link (opposite e) ≡ suc f → (r : Chained) → Ran (set t (e / 2) 0) e₀ f r → Ran t e₀ e (record { chain = e ∷ r.chain; left = r.left })
      added f l r R =
          record {
            closed = R.closed;
            less = λ s d. R.less s (done_kept t (e / 2) s d);
            began = R.less (e / 2) (done_same t (e / 2));
            spent = λ w. omega (arith, rw zero-add at (take-off w 0 t (e / 2) h), R.spent w);
            chained = next (lv (e / 2) h) l R.chained;
          }

      turn : (f : ℕ) → link (opposite e) ≡ suc f → Rec → (b : Bool) → is_zero (get_or (set t (e / 2) 0) (f / 2) 0) ≡ b
          → Ran t e₀ e (after e (set t (e / 2) 0) (cond b 0 (suc f)) (run link k (set t (e / 2) 0) (down (cond b 0 (suc f)))))
      turn f l rec true q =
          halt t e₀ e h (lv (e / 2) h) M (λ g m. let fg : f ≡ g = omega arith in rw (← fg) (zero_of (get_or (set t (e / 2) 0) (f / 2) 0) q)) (fair_exit t e₀ e p h)
      turn f l rec false q = added f l (run link k (set t (e / 2) 0) f) (rec f l (nonzero_of (get_or (set t (e / 2) 0) (f / 2) 0) q))

      go : (n : ℕ) → link (opposite e) ≡ n → Rec → Ran t e₀ e (after e (set t (e / 2) 0) (onward (set t (e / 2) 0) n) (run link k (set t (e / 2) 0) (down (onward (set t (e / 2) 0) n))))
      go zero l rec = halt t e₀ e h (lv (e / 2) h) M (λ g m. absurd (omega arith)) (fair_exit t e₀ e p h)
      go (suc f) l rec = turn f l rec (is_zero (get_or (set t (e / 2) 0) (f / 2) 0)) refl

  abbrev pub FairAll : (ℕ → ℕ) → List ℕ → Type 0
  FairAll enter t = ((s e : ℕ) → enter s ≡ suc e → link e ≡ 0) ⊎ ((x : ℕ) → Todo t x → link x ≢ 0)

  fair_at : (enter : ℕ → ℕ) (t : List ℕ) → FairAll enter t → (s e : ℕ) → enter s ≡ suc e → Fair t e
  fair_at enter t (inl f) s e h = inl (f s e h)
  fair_at enter t (inr f) s e h = inr f

  fair_on : (enter : ℕ → ℕ) (t u : List ℕ) → ((s : ℕ) → get_or t s 0 ≡ 0 → get_or u s 0 ≡ 0) → FairAll enter t → FairAll enter u
  fair_on enter t u l (inl f) = inl f
  fair_on enter t u l (inr f) = inr (λ x n. f x (λ d. n (l (x / 2) d)))

  pub record Passed (enter : ℕ → ℕ) (s k : ℕ) (t : List ℕ) (W : Walked) : Type 0 where
    pub closed : Closed W.left
    pub less : (i : ℕ) → get_or t i 0 ≡ 0 → get_or W.left i 0 ≡ 0
    pub covered : (i : ℕ) → s ≤ i → i < s + k → enter i ≢ 0 → get_or W.left i 0 ≡ 0
    pub spent : (w : ℕ → ℕ) → total w 0 t ≡ sum (weigh w) W.chains + total w 0 W.left
    pub good : All (Good link live) W.chains

  module _ (enter : ℕ → ℕ) (own : (s e : ℕ) → enter s ≡ suc e → e / 2 ≡ s) (n : ℕ) where
    went : (t : List ℕ) (s : ℕ) → Closed t → ((i : ℕ) → get_or t i 0 ≢ 0 → live i) → FairAll enter t → total (λ s. 1) 0 t ≤ suc n
        → Passed enter s 1 t (from link n t (cond (is_zero (get_or t s 0)) 0 (enter s)))
    unfolding from sum Good
    went t s C lv p b = go (is_zero (get_or t s 0)) refl
      where
        still : ((i : ℕ) → s ≤ i → i < s + 1 → enter i ≢ 0 → get_or t i 0 ≡ 0) → Passed enter s 1 t (record { chains = []; left = t })
        still c = record { closed = C; less = λ i d. d; covered = c; spent = λ w. omega arith; good = none }

        starts : (e : ℕ) → enter s ≡ suc e → get_or t s 0 ≢ 0 → Passed enter s 1 t (from link n t (suc e))
        starts e q h =
            let es : e / 2 ≡ s = own s e q in
            let he : Todo t e = rw es h in
            let R = ran n t e e lv he (begin t e C he) (fair_at enter t p s e q) b in
            record {
              closed = R.closed;
              less = R.less;
              covered = λ i l m z. let ei : e / 2 ≡ i = omega arith in rw (← ei) R.began;
              spent = λ w. omega (arith, R.spent w);
              good = more (e, R.chained) none;
            }

        enters : (x : ℕ) → enter s ≡ x → get_or t s 0 ≢ 0 → Passed enter s 1 t (from link n t x)
        enters zero q h = still (λ i l m z. absurd (z (let si : i ≡ s = omega arith in rw si q)))
        enters (suc e) q h = starts e q h

        go : (b : Bool) → is_zero (get_or t s 0) ≡ b → Passed enter s 1 t (from link n t (cond b 0 (enter s)))
        go true q = still (λ i l m z. let si : i ≡ s = omega arith in rw si (zero_of (get_or t s 0) q))
        go false q = enters (enter s) refl (nonzero_of (get_or t s 0) q)

    passed : (k s : ℕ) (t : List ℕ) → Closed t → ((i : ℕ) → get_or t i 0 ≢ 0 → live i) → FairAll enter t → total (λ s. 1) 0 t ≤ suc n
        → Passed enter s k t (pass enter link n k s t)
    unfolding pass sum
    passed zero s t C lv p b =
        record { closed = C; less = λ i d. d; covered = λ i l m z. absurd (omega arith); spent = λ w. omega arith; good = none }
    passed (suc k) s t C lv p b = glue (from link n t (cond (is_zero (get_or t s 0)) 0 (enter s))) (went t s C lv p b) (λ u. passed k (suc s) u)
      where
        glue : (r : Walked) → Passed enter s 1 t r
            → ((u : List ℕ) → Closed u → ((i : ℕ) → get_or u i 0 ≢ 0 → live i) → FairAll enter u → total (λ s. 1) 0 u ≤ suc n → Passed enter (suc s) k u (pass enter link n k (suc s) u))
            → Passed enter s (suc k) t (record { chains = r.chains ++ (pass enter link n k (suc s) r.left).chains; left = (pass enter link n k (suc s) r.left).left })
        glue r P rec =
            let Q = rec r.left P.closed (λ i h. lv i (λ d. h (P.less i d))) (fair_on enter t r.left P.less p) (omega (arith, P.spent (λ s. 1))) in
            record {
              closed = Q.closed;
              less = λ i d. Q.less i (P.less i d);
              covered = λ i l m z. elim (ℕ_discrete i s) [ yes q ↦ Q.less i (P.covered i l (omega arith) z) | no q ↦ Q.covered i (omega arith) (omega arith) z ];
              spent = λ w. omega (arith, P.spent w, Q.spent w, sum-append (weigh w) r.chains (pass enter link n k (suc s) r.left).chains);
              good = all_append P.good Q.good;
            }

  free_own : (s e : ℕ) → at_free link s ≡ suc e → (e / 2 ≡ s) × (link e ≡ 0)
  unfolding at_free
  free_own s e h = go (is_zero (link (2 * s))) refl (is_zero (link (2 * s + 1))) refl h
    where
      go : (a : Bool) → is_zero (link (2 * s)) ≡ a → (b : Bool) → is_zero (link (2 * s + 1)) ≡ b → cond a (suc (2 * s)) (cond b (suc (2 * s + 1)) 0) ≡ suc e → (e / 2 ≡ s) × (link e ≡ 0)
      go true p b q h = let es : e ≡ 2 * s = omega arith in (omega arith, rw es (zero_of (link (2 * s)) p))
      go false p true q h = let es : e ≡ 2 * s + 1 = omega arith in (omega arith, rw es (zero_of (link (2 * s + 1)) q))
      go false p false q h = absurd (omega arith)

  free-some : (x : ℕ) → link x ≡ 0 → at_free link (x / 2) ≢ 0
  unfolding at_free
  free-some x h = go (is_zero (link (2 * (x / 2)))) refl (is_zero (link (2 * (x / 2) + 1))) refl
    where
      go : (a : Bool) → is_zero (link (2 * (x / 2))) ≡ a → (b : Bool) → is_zero (link (2 * (x / 2) + 1)) ≡ b → cond a (suc (2 * (x / 2))) (cond b (suc (2 * (x / 2) + 1)) 0) ≢ 0
      go true p b q = omega arith
      go false p true q = omega arith
      go false p false q = λ _. elim (ℕ_discrete (2 * (x / 2)) x) [ yes z ↦ nonzero_of (link (2 * (x / 2))) p (rw z h) | no z ↦ nonzero_of (link (2 * (x / 2) + 1)) q (let y : 2 * (x / 2) + 1 ≡ x = omega arith in rw y h) ]

  pub record Walks (t : List ℕ) (cs : List (List ℕ)) : Type 0 where
    pub spent : (w : ℕ → ℕ) → total w 0 t ≡ sum (weigh w) cs
    pub good : All (Good link live) cs

  in_reach : (t : List ℕ) (i : ℕ) → get_or t i 0 ≢ 0 → i < length t
  in_reach t i h = elim (dec_le (length t) i) [ yes l ↦ absurd (h (get_or-eq_default t 0 l)) | no l ↦ omega arith ]

  pub walks : (n : ℕ) (t : List ℕ) → ((a b : ℕ) → link a ≡ suc b → Todo t a) → ((i : ℕ) → get_or t i 0 ≢ 0 → live i) → length t ≤ n
      → Walks t (chains_of link n t)
  unfolding chains_of at_last
  walks n t lk lv b =
      let p = pass (at_free link) link n n 0 t in
      let P = passed (at_free link) (λ s e h. (free_own s e h).0) n n 0 t (λ a b d l. absurd (lk a b l d)) lv (inl (λ s e h. (free_own s e h).1)) (omega (arith, total-length 0 t)) in
      let out : (i : ℕ) → get_or p.left i 0 ≢ 0 → i < n = λ i h. omega (arith, in_reach t i (λ d. h (P.less i d))) in
      let q = pass at_last link n n 0 p.left in
      let Q = passed at_last last-own n n 0 p.left P.closed (λ i h. lv i (λ d. h (P.less i d)))
      (inr (λ x h l. h (P.covered (x / 2) (omega arith) (omega (arith, out (x / 2) h)) (free-some x l)))) (omega (arith, total-length 0 t, P.spent (λ s. 1))) in
      let done : (i : ℕ) → get_or q.left i 0 ≡ 0 = λ i. finish p.left q.left i (out i) (Q.less i) (λ l. Q.covered i (omega arith) (omega arith) (last_some i)) in
      record {
        spent = λ w. omega (arith, P.spent w, Q.spent w, total-none w 0 q.left done, sum-append (weigh w) p.chains q.chains);
        good = all_append P.good Q.good;
      }
    where
      last-own : (s e : ℕ) → at_last s ≡ suc e → e / 2 ≡ s
      last-own s e h = omega arith

      last_some : (s : ℕ) → at_last s ≢ 0
      last_some s = omega arith

      finish : (u v : List ℕ) (i : ℕ) → (get_or u i 0 ≢ 0 → i < n) → (get_or u i 0 ≡ 0 → get_or v i 0 ≡ 0) → (i < n → get_or v i 0 ≡ 0) → get_or v i 0 ≡ 0
      finish u v i o l c = elim (ℕ_discrete (get_or u i 0) 0) [ yes z ↦ l z | no z ↦ c (o z) ]
