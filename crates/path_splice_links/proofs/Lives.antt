-- The ends of the strokes that are there: as a loop writes them, and as they are linked.
use mathlib.Core.Path.{◌≡◌, refl, sym, ap, ◌∙◌}
use mathlib.Core.Bool.{Bool, true, false, ◌&&◌, not, cond}
use mathlib.Core.Logic.{inl, inr, ◌≢◌, ⊎_elim}
use mathlib.Core.List.{List, [], ◌∷◌, ◌++◌, append-nil}
use Prim.Native.Nat.{ℕ, zero, suc, ◌+◌, ◌-◌, ◌*◌, ◌/◌, ◌<◌, ◌≤◌}
use native.Mathlib.Omega.{arith}
use native.Mathlib.Numerals.{add-one}
use native.Mathlib.Decide.{ℕ_discrete}
use lib.Dec.{eqb}
use lib.ListN.{length, get_or, set, take, drop, replicate, length-set, length-replicate, take-append-drop, get_or-eq_default}
use lib.Seq.{take-suc-set, append_snoc, length-take-le, drop-set-lt, drop-drop}
use Rattle.path_splice_rule.specs.Splice.{is_zero, links}
use Rattle.path_splice_links.specs.Ends.{fit, fit_live, live_from, Lived}
use Rattle.order.specs.Order.{order, word_key}
use Rattle.path_splice_links.specs.Runs.{Ranked, Linked}
use Rattle.order.proofs.Tests.{both, both_left, both_right, not_true, not_false, eqb-true, neqb, le-or}
use Rattle.path_splice_rule.proofs.Ends.{zero_of, is_zero_lem, not_zero, nonzero_of}
use Rattle.path_splice_links.proofs.Picking.{fits}
use Rattle.order.proofs.Sorted.{In, in_at, at_in, Rising, in_order, order-in, order-sorted, sorted-at}
use Rattle.path_splice_links.proofs.Matching.{right_is}
use Rattle.path_splice_links.proofs.Mirrors.{Joins, Laid, mirrors_right}

-- one more at the end
snoc_step : (o m : List ℕ) (k x : ℕ) → k < length o → take (k + 1) (set o k x) ++ m ≡ take k o ++ x ∷ m
snoc_step o m k x h = rw (add-one, take-suc-set o k x h) (append_snoc (take k o) x m)

module _ (todo : List ℕ) where
  live_skip : (e k j : ℕ) → k ≡ suc j → get_or todo (e / 2) 0 ≡ 0 → live_from todo e k ≡ live_from todo (e + 1) j
  unfolding live_from
  live_skip e zero j q z = absurd (omega arith)
  live_skip e (suc k) j q z = let p : k ≡ j = omega arith in rw (is_zero_lem (get_or todo (e / 2) 0) z, p, add-one)

  live_take : (e k j : ℕ) → k ≡ suc j → get_or todo (e / 2) 0 ≢ 0 → live_from todo e k ≡ e ∷ live_from todo (e + 1) j
  unfolding live_from
  live_take e zero j q z = absurd (omega arith)
  live_take e (suc k) j q z = let p : k ≡ j = omega arith in rw (not_zero (get_or todo (e / 2) 0) z, p, add-one)

  live_none : (e k : ℕ) → k ≡ 0 → live_from todo e k ≡ []
  unfolding live_from
  live_none e zero q = refl
  live_none e (suc k) q = absurd (omega arith)

pub record Living (todo a₀ a : List ℕ) (e n : ℕ) : Type 0 where
  pub at : e ≤ length a₀
  pub low : n ≤ e
  pub size : length a ≡ length a₀
  pub done : take n a ++ live_from todo e (length a₀ - e) ≡ live_from todo 0 (length a₀)
  pub rest : drop n a ≡ drop n a₀

pub living : (todo a : List ℕ) → Living todo a a 0 0
living todo a =
    let z : length a - 0 ≡ length a = omega arith in
    record { at = omega arith; low = omega arith; size = refl; done = rw z; rest = refl }

module _ (todo a₀ a : List ℕ) (e n : ℕ) (W : Living todo a₀ a e n) (h : e < length a₀) where
  pub skip : get_or todo (e / 2) 0 ≡ 0 → Living todo a₀ a (e + 1) n
  skip z =
      let p = live_skip todo e (length a₀ - e) (length a₀ - (e + 1)) (omega arith) z in
      record { at = omega arith; low = omega (arith, W.low); size = W.size; done = ap (λ (r : List ℕ). take n a ++ r) (sym p) ∙ W.done; rest = W.rest }

  pub keep : get_or todo (e / 2) 0 ≢ 0 → Living todo a₀ (set a n e) (e + 1) (n + 1)
  keep z =
      let p = live_take todo e (length a₀ - e) (length a₀ - (e + 1)) (omega arith) z in
      let r = live_from todo (e + 1) (length a₀ - (e + 1)) in
      record {
        at = omega arith;
        low = omega (arith, W.low);
        size = rw length-set W.size;
        done = snoc_step a r n e (omega (arith, W.low, W.size)) ∙ ap (λ (r : List ℕ). take n a ++ r) (sym p) ∙ W.done;
        rest = drop-set-lt (n + 1) a n e (omega arith) ∙ sym (drop-drop 1 n a) ∙ ap (drop 1) W.rest ∙ drop-drop 1 n a₀;
      }

pub lived : (todo a₀ a : List ℕ) (e n : ℕ) → Living todo a₀ a e n → length a₀ ≤ e → Lived todo a₀ a n
lived todo a₀ a e n W h =
    let z = live_none todo e (length a₀ - e) (omega arith) in
    let p : take n a ≡ live_from todo 0 (length a₀) = sym (append-nil (take n a)) ∙ ap (λ (r : List ℕ). take n a ++ r) (sym z) ∙ W.done in
    record {
      count = sym (length-take-le n a (omega (arith, W.size, W.low, W.at))) ∙ ap length p;
      room = omega (arith, W.low, W.at);
      first = sym (take-append-drop n a) ∙ ap (λ (r : List ℕ). r ++ drop n a) p ∙ ap (λ (r : List ℕ). live_from todo 0 (length a₀) ++ r) W.rest;
    }

-- membership among the live ends
pub in_live : (todo : List ℕ) (x k e : ℕ) → In e (live_from todo x k) → (x ≤ e) × (e < x + k) × (get_or todo (e / 2) 0 ≢ 0)
unfolding live_from
in_live todo x zero e h = absurd h
in_live todo x (suc k) e h = go (is_zero (get_or todo (x / 2) 0)) refl h (in_live todo (suc x) k e)
  where
    go : (b : Bool) → is_zero (get_or todo (x / 2) 0) ≡ b → In e (cond b (live_from todo (suc x) k) (x ∷ live_from todo (suc x) k))
        → (In e (live_from todo (suc x) k) → (suc x ≤ e) × (e < suc x + k) × (get_or todo (e / 2) 0 ≢ 0)) → (x ≤ e) × (e < x + suc k) × (get_or todo (e / 2) 0 ≢ 0)
    go true t h rec = let r = rec h in (omega (arith, r.0), omega (arith, r.1), r.2)
    go false t (inl q) rec = (omega arith, omega arith, rw q (nonzero_of (get_or todo (x / 2) 0) t))
    go false t (inr h) rec = let r = rec h in (omega (arith, r.0), omega (arith, r.1), r.2)

pub live_in : (todo : List ℕ) (x k e : ℕ) → x ≤ e → e < x + k → get_or todo (e / 2) 0 ≢ 0 → In e (live_from todo x k)
unfolding live_from
live_in todo x zero e a b z = absurd (omega arith)
live_in todo x (suc k) e a b z = go (is_zero (get_or todo (x / 2) 0)) refl (λ c. live_in todo (suc x) k e c (omega arith) z)
  where
    go : (b : Bool) → is_zero (get_or todo (x / 2) 0) ≡ b → (suc x ≤ e → In e (live_from todo (suc x) k)) → In e (cond b (live_from todo (suc x) k) (x ∷ live_from todo (suc x) k))
    go true t rec = elim (ℕ_discrete e x) [ yes q ↦ absurd (nonzero_of (get_or todo (x / 2) 0) (not_zero (get_or todo (x / 2) 0) (rw (← q) z)) (zero_is t)) | no o ↦ rec (omega arith) ]
      where
        zero_is : is_zero (get_or todo (x / 2) 0) ≡ true → get_or todo (x / 2) 0 ≡ 0
        zero_is t = zero_of (get_or todo (x / 2) 0) t
    go false t rec = elim (ℕ_discrete e x) [ yes q ↦ inl q | no o ↦ inr (rec (omega arith)) ]

pub live_rising : (todo : List ℕ) (x k : ℕ) → Rising (live_from todo x k)
unfolding live_from
live_rising todo x zero = tt
live_rising todo x (suc k) = go (is_zero (get_or todo (x / 2) 0)) (live_rising todo (suc x) k)
  where
    go : (b : Bool) → Rising (live_from todo (suc x) k) → Rising (cond b (live_from todo (suc x) k) (x ∷ live_from todo (suc x) k))
    go true r = r
    go false r = (λ y h. omega (arith, (in_live todo (suc x) k y h).0), r)

module _ (todo vs : List ℕ) (m : ℕ) (two : m ≡ 2 * length todo) where
  abbrev ends : List ℕ
  ends = live_from todo 0 m

  abbrev pub placed : List ℕ
  placed = order (word_key vs) ends

  place_in : (x : ℕ) → x < length placed → In (get_or placed x 0) ends
  place_in x h = in_order (word_key vs) ends (get_or placed x 0) (in_at placed x h)

  pub ranked : Ranked vs placed m
  ranked =
      record {
        each = λ x h. omega (arith, (in_live todo 0 m (get_or placed x 0) (place_in x h)).1);
        rise = λ x y l h. ⊎_elim (λ a. inl (omega arith)) (λ a. inr (omega (arith, a.0), a.1)) (sorted-at (word_key vs) placed (order-sorted (word_key vs) ends (live_rising todo 0 m)) x y l h);
      }

  abbrev Live : ℕ → Type 0
  Live e = In e ends

  alive_of : (e : ℕ) → get_or todo (e / 2) 0 ≢ 0 → Live e
  alive_of e z =
      let r : e / 2 < length todo = ⊎_elim (λ h. absurd (z (get_or-eq_default todo 0 h))) (λ h. h) (le-or (length todo) (e / 2)) in
      live_in todo 0 m e (omega arith) (omega arith) z

  there : (e : ℕ) → not (is_zero (get_or todo (e / 2) 0)) ≡ true → Live e
  there e t = alive_of e (nonzero_of (get_or todo (e / 2) 0) (not_true (is_zero (get_or todo (e / 2) 0)) t))

  there_is : (e : ℕ) → Live e → not (is_zero (get_or todo (e / 2) 0)) ≡ true
  there_is e h = not_false (is_zero (get_or todo (e / 2) 0)) (not_zero (get_or todo (e / 2) 0) (in_live todo 0 m e h).2)

  joins : Joins (fit_live todo vs) vs Live
  unfolding fit_live fit
  joins =
      record {
        of = λ e f t.
            let A = not (is_zero (get_or todo (e / 2) 0)) in
            let B = not (is_zero (get_or todo (f / 2) 0)) in
            let N = not (eqb (e / 2) (f / 2)) in
            let E = eqb (get_or vs e 0) (get_or vs f 0) in
            let u = both_left (A && B) (N && E) t in
            let w = both_right (A && B) (N && E) t in
            (eqb-true (get_or vs e 0) (get_or vs f 0) (both_right N E w), neqb (e / 2) (f / 2) (not_true (eqb (e / 2) (f / 2)) (both_left N E w)), there e (both_left A B u), there f (both_right A B u));
        to = λ e f v n a b. both (both (there_is e a) (there_is f b)) (fits vs e f (sym v) (λ q. n (sym q)));
      }

  laid : Laid vs m Live placed
  laid =
      record {
        each = λ x h. (ranked.each x h, place_in x h);
        find = λ e h l. at_in placed e (order-in (word_key vs) ends e l);
        rise = λ x y l h q. ⊎_elim (λ a. absurd (omega arith)) (λ a. a.1) (ranked.rise x y l h);
      }

  nought : (k i : ℕ) → ◌≡◌ {A = ℕ} (get_or (replicate k 0) i 0) 0
  nought zero i = refl
  nought (suc k) zero = refl
  nought (suc k) (suc i) = nought k i

  pub ends_linked : (ls : List ℕ) → Linked vs placed (replicate m 0) ls (length placed) → ls ≡ links (fit_live todo vs) m
  ends_linked ls L = right_is (fit_live todo vs) m ls (mirrors_right (fit_live todo vs) vs m Live joins placed laid ls (L.size ∙ length-replicate m 0) alive L.each)
    where
      alive : (f g : ℕ) → f < m → get_or ls f 0 ≡ suc g → Live f
      alive f g h y = elim (ℕ_discrete (get_or todo (f / 2) 0) 0) [ yes q ↦ absurd (omega (arith, nought m f, L.rest f (λ x l e. (in_live todo 0 m (get_or placed x 0) (place_in x l)).2 (ap (λ (v : ℕ). get_or todo (v / 2) 0) e ∙ q)))) | no n ↦ alive_of f n ]
