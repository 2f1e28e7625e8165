-- Demand 3 holds of splice, for any strokes.
use mathlib.Core.Path.{◌≡◌, refl, sym, ap, ◌∙◌}
use mathlib.Core.Bool.{Bool, true, false, ◌&&◌, ◌||◌, not, cond}
use mathlib.Core.Logic.{◌⊎◌, inl, inr, ◌≢◌}
use mathlib.Core.List.{List, [], ◌∷◌, map}
use Prim.Native.Nat.{ℕ, suc, ◌+◌, ◌*◌, ◌/◌, ◌%◌, ◌<◌, ◌≤◌}
use native.Mathlib.Omega.{arith}
use native.Mathlib.Decide.{ℕ_discrete, dec_le}
use native.Mathlib.Nat.{zero-add, add-zero}
use lib.Dec.{eqb}
use lib.ListN.{length, get_or, length-map, get_or-map, get_or-eq_default}
use Rattle.path_splice_rule.specs.Splice.{is_zero, last_of, first_of, present, value_at, joinable, read_chain, links, chains_of, splice}
use Rattle.path_splice_rule.specs.Demand.{Law, sum, over_pairs, one, is_pair, drawn, degree, ends_one, open_count, ends_open, Demand3}
use Rattle.order.proofs.Tests.{truth, clash, both, both_left, both_right, not_true, not_false, eqb-false, neqb}
use Rattle.path_splice_rule.proofs.Ends.{is_zero_lem, zero_of, not_zero, nonzero_of}
use Rattle.path_splice_rule.proofs.Linking.{links-upto, Upto}
use Rattle.path_splice_rule.specs.Totals.{part, total}
use Rattle.path_splice_rule.proofs.Totals.{at_most_one, total-length}
use Rattle.path_splice_rule.proofs.Walking.{Chain, Stops, loose, ring, Good, All, none, more, weigh, Walks, walks}
use Rattle.path_splice_rule.proofs.Reading.{Live, Full, Reads, reads, full}
use Rattle.path_splice_rule.proofs.Bags.{pair_turn, bags, even, fewer_open}

or_left : (a b : Bool) → a ≡ true → one (a || b) ≡ 1
or_left true b h = refl
or_left false b h = absurd (clash h refl)

or_right : (a b : Bool) → b ≡ true → one (a || b) ≡ 1
or_right true b h = refl
or_right false true h = refl
or_right false false h = absurd (clash h refl)

or_cases : (a b : Bool) → one (a || b) ≢ 0 → (a ≡ true) ⊎ (b ≡ true)
or_cases true b h = inl refl
or_cases false true h = inr refl
or_cases false false h = absurd (h refl)

one-most : (b : Bool) → one b ≤ 1
one-most true = omega arith
one-most false = omega arith

total-strokes : {A : Type 0} (g : A → A → ℕ) (ss : List (List A)) (i : ℕ) (w : ℕ → ℕ) → ((k : ℕ) → w (i + k) ≡ over_pairs g (get_or ss k [])) → total w i (map present ss) ≡ sum (over_pairs g) ss
unfolding total sum present over_pairs
total-strokes g [] i w h = refl
total-strokes {A} g (s ∷ ss) i w h =
    here s (rw add-zero at (h 0)) (total-strokes g ss (suc i) w (λ k. let p : suc i + k ≡ i + suc k = omega arith in rw p (h (suc k))))
  where
    here : (s : List A) → w i ≡ over_pairs g s → total w (suc i) (map present ss) ≡ sum (over_pairs g) ss → part (present s) (w i) + total w (suc i) (map present ss) ≡ over_pairs g s + sum (over_pairs g) ss
    here [] p r = omega arith
    here (x ∷ s) p r = omega arith

total-lengths : {A : Type 0} (ss : List (List A)) (i : ℕ) (w : ℕ → ℕ) → ((k : ℕ) → w (i + k) ≡ length (get_or ss k [])) → total w i (map present ss) ≡ sum length ss
unfolding total sum present
total-lengths [] i w h = refl
total-lengths {A} (s ∷ ss) i w h =
    here s (rw add-zero at (h 0)) (total-lengths ss (suc i) w (λ k. let p : suc i + k ≡ i + suc k = omega arith in rw p (h (suc k))))
  where
    here : (s : List A) → w i ≡ length s → total w (suc i) (map present ss) ≡ sum length ss → part (present s) (w i) + total w (suc i) (map present ss) ≡ length s + sum length ss
    here [] p r = omega arith
    here (x ∷ s) p r = omega arith

module _ {A : Type 0} (d : A) (same : A → A → Bool) (law : Law same) (ss : List (List A)) where
  record Joined (e f : ℕ) : Type 0 where
    one-live : Live ss (e / 2)
    other-live : Live ss (f / 2)
    other : e / 2 ≢ f / 2
    equal : value_at d ss e ≡ value_at d ss f

  joined_of : (e f : ℕ) → joinable d same ss e f ≡ true → Joined e f
  unfolding joinable
  joined_of e f h =
      let a = not (is_zero (present (get_or ss (e / 2) []))) in
      let b = not (is_zero (present (get_or ss (f / 2) []))) in
      let c = not (eqb (e / 2) (f / 2)) in
      let q = same (value_at d ss e) (value_at d ss f) in
      let abc = both_left (a && b && c) q h in
      let ab = both_left (a && b) c abc in
      record {
        one-live = nonzero_of (present (get_or ss (e / 2) [])) (not_true (is_zero (present (get_or ss (e / 2) []))) (both_left a b ab));
        other-live = nonzero_of (present (get_or ss (f / 2) [])) (not_true (is_zero (present (get_or ss (f / 2) []))) (both_right a b ab));
        other = neqb (e / 2) (f / 2) (not_true (eqb (e / 2) (f / 2)) (both_right (a && b) c abc));
        equal = law.eq (value_at d ss e) (value_at d ss f) (both_right (a && b && c) q h);
      }

  joined_to : (e f : ℕ) → Joined e f → joinable d same ss e f ≡ true
  unfolding joinable
  joined_to e f J =
      both
      (both
      (both (not_false (is_zero (present (get_or ss (e / 2) []))) (not_zero (present (get_or ss (e / 2) [])) J.one-live))
      (not_false (is_zero (present (get_or ss (f / 2) []))) (not_zero (present (get_or ss (f / 2) [])) J.other-live)))
      (not_false (eqb (e / 2) (f / 2)) (eqb-false (e / 2) (f / 2) J.other)))
      (rw J.equal (law.self (value_at d ss f)))

  turn : (e f : ℕ) → joinable d same ss e f ≡ true → joinable d same ss f e ≡ true
  turn e f h =
      let J = joined_of e f h in
      joined_to f e (record { one-live = J.other-live; other-live = J.one-live; other = λ q. J.other (sym q); equal = sym J.equal })

  apart : (e : ℕ) → joinable d same ss e e ≡ false
  apart e = go (truth (joinable d same ss e e))
    where
      go : (joinable d same ss e e ≡ true) ⊎ (joinable d same ss e e ≡ false) → joinable d same ss e e ≡ false
      go (inl t) = absurd ((joined_of e e t).other refl)
      go (inr f) = f

  ends : ℕ
  ends = 2 * length ss

  ls : List ℕ
  ls = links (joinable d same ss) (2 * length ss)

  link : ℕ → ℕ
  link e = get_or ls e 0

  upto : Upto (joinable d same ss) turn apart (2 * length ss) (2 * length ss) ls
  unfolding ls
  upto = links-upto (joinable d same ss) turn apart (2 * length ss)

  back : (e f : ℕ) → link e ≡ suc f → link f ≡ suc e
  unfolding link
  back e f h = upto.linked.back e f h

  met : (e f : ℕ) → link e ≡ suc f → Joined e f
  unfolding link
  met e f h = joined_of e f (upto.linked.may e f h)

  settled : (x y : ℕ) → x < 2 * length ss → y < 2 * length ss → link x ≡ 0 → link y ≡ 0 → joinable d same ss x y ≡ false
  unfolding link
  settled x y = upto.settled x y

  todo_is : (s : ℕ) → get_or (map present ss) s 0 ≡ present (get_or ss s [])
  unfolding present
  todo_is s = get_or-map present ss s []

  cs : List (List ℕ)
  cs = chains_of link (length ss) (map present ss)

  walked : Walks link back (λ e f h. (met e f h).other) (Live ss) (map present ss) cs
  unfolding cs
  walked =
      walks link back (λ e f h. (met e f h).other) (Live ss) (length ss) (map present ss) (λ a b h. rw todo_is (met a b h).one-live) (λ i h. rw todo_is at h)
      (rw length-map (omega arith))

  -- any weight of pairs without direction is kept
  chain_weights : (g : A → A → ℕ) → ((x y : A) → g x y ≡ g y x) → (ks : List (List ℕ)) → All (Good link (Live ss)) ks → sum (over_pairs g) (map (read_chain ss) ks) ≡ sum (weigh (λ s. over_pairs g (get_or ss s []))) ks
  unfolding sum Good
  chain_weights g c [] none = refl
  chain_weights g c (k ∷ ks) (more (e, C) q) = omega (arith, chain_weights g c ks q, (reads d ss link (λ e f h. (met e f h).equal) C).weight g c)

  out : List (List A)
  out = map (read_chain ss) cs

  pub kept : (g : A → A → ℕ) → ((x y : A) → g x y ≡ g y x) → sum (over_pairs g) (splice d same ss) ≡ sum (over_pairs g) ss
  unfolding splice cs link ls
  kept g c =
      chain_weights g c cs walked.good ∙ sym (walked.spent (λ s. over_pairs g (get_or ss s [])))
      ∙ total-strokes g ss 0 (λ s. over_pairs g (get_or ss s [])) (λ k. rw zero-add)

  -- 1 if the stroke s has a free end of value v
  loosely : A → ℕ → ℕ
  loosely v s = one ((is_zero (link (2 * s)) && same v (value_at d ss (2 * s))) || (is_zero (link (2 * s + 1)) && same v (value_at d ss (2 * s + 1))))

  loose_one : (v : A) (x : ℕ) → link x ≡ 0 → same v (value_at d ss x) ≡ true → loosely v (x / 2) ≡ 1
  unfolding loosely
  loose_one v x l q = elim (ℕ_discrete (2 * (x / 2)) x) [ yes z ↦ at_first z | no n ↦ at_last (omega arith) ]
    where
      p1 : Bool
      p1 = is_zero (link (2 * (x / 2))) && same v (value_at d ss (2 * (x / 2)))

      p2 : Bool
      p2 = is_zero (link (2 * (x / 2) + 1)) && same v (value_at d ss (2 * (x / 2) + 1))

      at_first : 2 * (x / 2) ≡ x → one (p1 || p2) ≡ 1
      at_first z = or_left p1 p2 (both (is_zero_lem (link (2 * (x / 2))) (ap link z ∙ l)) (ap (λ y. same v (value_at d ss y)) z ∙ q))

      at_last : 2 * (x / 2) + 1 ≡ x → one (p1 || p2) ≡ 1
      at_last z = or_right p1 p2 (both (is_zero_lem (link (2 * (x / 2) + 1)) (ap link z ∙ l)) (ap (λ y. same v (value_at d ss y)) z ∙ q))

  record Loose (v : A) (s : ℕ) : Type 0 where
    at : ℕ
    on-s : at / 2 ≡ s
    is_free : link at ≡ 0
    value : v ≡ value_at d ss at

  who : (v : A) (s : ℕ) → loosely v s ≢ 0 → Loose v s
  unfolding loosely
  who v s h = go (or_cases (is_zero (link (2 * s)) && same v (value_at d ss (2 * s))) (is_zero (link (2 * s + 1)) && same v (value_at d ss (2 * s + 1))) h)
    where
      is : (x : ℕ) → x / 2 ≡ s → is_zero (link x) && same v (value_at d ss x) ≡ true → Loose v s
      is x p t =
          record { at = x; on-s = p; is_free = zero_of (link x) (both_left (is_zero (link x)) (same v (value_at d ss x)) t); value = law.eq v (value_at d ss x) (both_right (is_zero (link x)) (same v (value_at d ss x)) t) }

      go : (is_zero (link (2 * s)) && same v (value_at d ss (2 * s)) ≡ true) ⊎ (is_zero (link (2 * s + 1)) && same v (value_at d ss (2 * s + 1)) ≡ true) → Loose v s
      go (inl t) = is (2 * s) (omega arith) t
      go (inr t) = is (2 * s + 1) (omega arith) t

  in_reach : (s : ℕ) → Live ss s → s < length ss
  unfolding present
  in_reach s h = elim (dec_le (length ss) s) [ yes l ↦ absurd (h (ap present (get_or-eq_default ss [] l))) | no l ↦ omega arith ]

  -- two strokes with a free end of value v are one
  same-stroke : (v : A) (s t : ℕ) → Live ss s → Live ss t → loosely v s ≢ 0 → loosely v t ≢ 0 → s ≡ t
  same-stroke v s t hs ht ws wt = elim (ℕ_discrete s t) [ yes q ↦ q | no n ↦ absurd (apart-is n) ]
    where
      apart-is : s ≢ t → ⊥
      apart-is n =
          let X = who v s ws in
          let Y = who v t wt in
          let J : Joined X.at Y.at = record { one-live = rw X.on-s hs; other-live = rw Y.on-s ht; other = λ q. n (sym X.on-s ∙ q ∙ Y.on-s); equal = sym X.value ∙ Y.value } in
          clash (joined_to X.at Y.at J)
          (settled X.at Y.at (omega (arith, in_reach s hs, X.on-s)) (omega (arith, in_reach t ht, Y.on-s)) X.is_free Y.is_free)

  most : (v : A) (s : ℕ) → loosely v s ≤ 1
  unfolding loosely
  most v s = one-most ((is_zero (link (2 * s)) && same v (value_at d ss (2 * s))) || (is_zero (link (2 * s + 1)) && same v (value_at d ss (2 * s + 1))))

  loose_most : (v : A) → total (loosely v) 0 (map present ss) ≤ 1
  loose_most v =
      at_most_one (loosely v) 0 (map present ss) (most v)
      (λ s t hs ht ws wt. same-stroke v s t (rw todo_is at hs) (rw todo_is at ht) (rw zero-add at ws) (rw zero-add at wt))

  -- an open stroke that v ends has a free end of value v
  ends_chain : (v : A) (e : ℕ) (c : List ℕ) (u : List A) → Full u → Reads d ss link e e c u → ends_one same v u ≤ weigh (loosely v) c
  unfolding ends_one first_of last_of
  ends_chain v e c u (full {x = y} {s = r}) R = go (same y (last_of y r)) refl R.stops
    where
      entry : link e ≡ 0 → same v y ≡ true → 1 ≤ weigh (loosely v) c
      entry l q = let p : loosely v (e / 2) ≡ 1 = loose_one v e l (rw (← R.first) q) in omega (arith, R.has-entry (loosely v))

      leave : link R.exit ≡ 0 → same v (last_of y r) ≡ true → 1 ≤ weigh (loosely v) c
      leave l q = let p : loosely v (R.exit / 2) ≡ 1 = loose_one v R.exit l (rw (← R.last) q) in omega (arith, R.has-exit (loosely v))

      sides : same y (last_of y r) ≡ false → link e ≡ 0 → link R.exit ≡ 0 → (a : Bool) → same v y ≡ a → (b : Bool) → same v (last_of y r) ≡ b → one a + one b ≤ weigh (loosely v) c
      sides n l m true p true q =
          absurd (clash (let z : y ≡ last_of y r = sym (law.eq v y p) ∙ law.eq v (last_of y r) q in ap (same y) (sym z) ∙ law.self y) n)
      sides n l m true p false q = entry l p
      sides n l m false p true q = leave m q
      sides n l m false p false q = omega arith

      go : (b : Bool) → same y (last_of y r) ≡ b → Stops link e R.exit → cond b 0 (one (same v y) + one (same v (last_of y r))) ≤ weigh (loosely v) c
      go true q S = omega arith
      go false q (loose l m) = sides q l m (same v y) refl (same v (last_of y r)) refl
      go false q (ring l) =
          absurd (clash (let z : last_of y r ≡ y = R.last ∙ (met R.exit e l).equal ∙ sym R.first in ap (same y) z ∙ law.self y) q)

  ends_chains : (v : A) (ks : List (List ℕ)) → All (Good link (Live ss)) ks → sum (ends_one same v) (map (read_chain ss) ks) ≤ sum (weigh (loosely v)) ks
  unfolding sum Good
  ends_chains v [] none = omega arith
  ends_chains v (k ∷ ks) (more (e, C) q) =
      let R = reads d ss link (λ e f h. (met e f h).equal) C in
      omega (arith, ends_chains v ks q, ends_chain v e k (read_chain ss k) R.some R)

  pub ends_most : (v : A) → ends_open same v (splice d same ss) ≤ 1
  unfolding splice ends_open cs link ls
  ends_most v = omega (arith, ends_chains v cs walked.good, walked.spent (loosely v), loose_most v)

  -- room: no more points and strokes come out than went in, and no stroke is empty
  chain_room : (ks : List (List ℕ)) → All (Good link (Live ss)) ks → sum length (map (read_chain ss) ks) ≤ sum (weigh (λ s. length (get_or ss s []))) ks
  unfolding sum Good
  chain_room [] none = omega arith
  chain_room (k ∷ ks) (more (e, C) q) =
      let R = reads d ss link (λ e f h. (met e f h).equal) C in
      omega (arith, chain_room ks q, R.size, full-length k C)
    where
      full-length : {e₀ e : ℕ} (c : List ℕ) → Chain link (Live ss) e₀ e c → 1 ≤ length c
      full-length (x ∷ c) C = omega arith
      full-length [] C = elim C [ ]

  chain_count : (ks : List (List ℕ)) → All (Good link (Live ss)) ks → length (map (read_chain ss) ks) ≤ sum (weigh (λ s. 1)) ks
  unfolding sum Good
  chain_count [] none = omega arith
  chain_count (k ∷ ks) (more (e, C) q) = omega (arith, chain_count ks q, (reads d ss link (λ e f h. (met e f h).equal) C).has-entry (λ s. 1))

  chain_full : (ks : List (List ℕ)) → All (Good link (Live ss)) ks → All Full (map (read_chain ss) ks)
  unfolding Good
  chain_full [] none = none
  chain_full (k ∷ ks) (more (e, C) q) = more (reads d ss link (λ e f h. (met e f h).equal) C).some (chain_full ks q)

  pub points_most : sum length (splice d same ss) ≤ sum length ss
  unfolding splice cs link ls
  points_most =
      omega (arith, chain_room cs walked.good, walked.spent (λ s. length (get_or ss s [])), total-lengths ss 0 (λ s. length (get_or ss s [])) (λ k. rw zero-add))

  pub strokes_most : length (splice d same ss) ≤ length ss
  unfolding splice cs link ls
  strokes_most =
      omega (arith, chain_count cs walked.good, walked.spent (λ s. 1), total-length 0 (map present ss), length-map ss present)

  pub strokes_full : All Full (splice d same ss)
  unfolding splice cs link ls
  strokes_full = chain_full cs walked.good

  pub demand3 : Demand3 same ss (splice d same ss)
  unfolding drawn degree open_count ends_open sum
  demand3 =
      record {
        pairs = same-pairs;
        odd = odds;
        least = λ other h. fewer_open same law (splice d same ss) other
            (λ v. omega (arith, ends_most v, even same law v (splice d same ss), even same law v other, bags same law (splice d same ss) other (λ a b. same-pairs a b ∙ sym (h a b)) (λ x y. one (same v x) + one (same v y)) (λ x y. omega arith)));
        closed = λ h. omega (arith, fewer_open same law (splice d same ss) [] (λ v. omega (arith, odds v, h v)));
        points = points_most;
        strokes = strokes_most;
      }
    where
      same-pairs : (a b : A) → drawn same a b (splice d same ss) ≡ drawn same a b ss
      same-pairs a b = kept (is_pair same a b) (pair_turn same law a b)

      degrees : (v : A) → degree same v (splice d same ss) ≡ degree same v ss
      degrees v = kept (λ x y. one (same v x) + one (same v y)) (λ x y. omega arith)

      odds : (v : A) → ends_open same v (splice d same ss) ≡ degree same v ss % 2
      odds v = omega (arith, ends_most v, even same law v (splice d same ss), degrees v)
