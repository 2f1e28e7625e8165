-- What a chain reads as: its pairs are the pairs of its strokes, its ends are the entry's and the exit's.
use mathlib.Core.Path.{◌≡◌, refl, sym, ap, ◌∙◌, subst}
use mathlib.Core.Logic.{◌≢◌}
use mathlib.Core.List.{List, [], ◌∷◌, ◌++◌, reverse_aux, append-nil}
use Prim.Native.Nat.{ℕ, zero, suc, ◌+◌, ◌/◌, ◌%◌, ◌≤◌}
use native.Mathlib.Omega.{arith}
use lib.ListN.{length, get_or, drop, length-append, length-reverse}
use Rattle.path_splice_rule.specs.Splice.{opposite, last_of, first_of, present, end_of, turned, value_at, read_from, added, read_chain}
use Rattle.path_splice_rule.specs.Demand.{sum, over_pairs}
use Rattle.path_splice_rule.proofs.Ends.{opp_stroke, opp_side}
use Rattle.path_splice_rule.proofs.Walking.{Chain, end, next, Stops, weigh}

module _ {A : Type 0} where
  along-join : (g : A → A → ℕ) (x : A) (s : List A) (y : A) (r : List A) → last_of x s ≡ y → over_pairs g ((x ∷ s) ++ r) ≡ over_pairs g (x ∷ s) + over_pairs g (y ∷ r)
  unfolding over_pairs last_of
  along-join g x [] y r h = subst (λ (z : A). over_pairs g ((x ∷ []) ++ r) ≡ over_pairs g (x ∷ []) + over_pairs g (z ∷ r)) h (omega arith)
  along-join g x (z ∷ s) y r h = omega (arith, along-join g z s y r h)

  along-turn : (g : A → A → ℕ) → ((x y : A) → g x y ≡ g y x) → (s : List A) (x : A) (r : List A) → over_pairs g (reverse_aux s (x ∷ r)) ≡ over_pairs g (x ∷ s) + over_pairs g (x ∷ r)
  unfolding over_pairs
  along-turn g c [] x r = omega arith
  along-turn g c (y ∷ s) x r = omega (arith, along-turn g c s y (x ∷ r), c x y)

  along-turned : (g : A → A → ℕ) → ((x y : A) → g x y ≡ g y x) → (k : ℕ) (s : List A) → over_pairs g (turned k s) ≡ over_pairs g s
  unfolding over_pairs turned
  along-turned g c zero s = refl
  along-turned g c (suc k) [] = refl
  along-turned g c (suc k) (x ∷ s) = omega (arith, along-turn g c s x [])

  first-turn : (d : A) (s : List A) (x : A) (r : List A) → first_of d (reverse_aux s (x ∷ r)) ≡ last_of x s
  unfolding first_of last_of
  first-turn d [] x r = refl
  first-turn d (y ∷ s) x r = first-turn d s y (x ∷ r)

  last_turn : (d : A) (s : List A) (x : A) (r : List A) → last_of d (reverse_aux s (x ∷ r)) ≡ last_of x r
  unfolding last_of
  last_turn d [] x r = refl
  last_turn d (y ∷ s) x r = last_turn d s y (x ∷ r)

  last_append : (d : A) (s r : List A) → last_of d (s ++ r) ≡ last_of (last_of d s) r
  unfolding last_of
  last_append d [] r = refl
  last_append d (x ∷ s) r = last_append x s r

  first-turned : (d : A) (k : ℕ) (s : List A) → end_of d k s ≡ first_of d (turned k s)
  unfolding end_of turned first_of last_of
  first-turned d zero s = refl
  first-turned d (suc k) [] = refl
  first-turned d (suc k) (x ∷ s) = sym (first-turn d s x [])

  last_turned : (d : A) (k j : ℕ) (s : List A) → j + k ≡ 1 → end_of d j s ≡ last_of d (turned k s)
  unfolding end_of turned first_of last_of
  last_turned d zero zero s h = absurd (omega arith)
  last_turned d zero (suc j) s h = refl
  last_turned d (suc k) (suc j) s h = absurd (omega arith)
  last_turned d (suc k) zero [] h = refl
  last_turned d (suc k) zero (x ∷ s) h = sym (last_turn d s x [])

  length-turned : (k : ℕ) (s : List A) → length (turned k s) ≡ length s
  unfolding turned
  length-turned zero s = refl
  length-turned (suc k) s = length-reverse s

  pub data Full : List A → Type 0 where
    full : {x : A} {s : List A} → Full (x ∷ s)

  full_aux : (s : List A) (x : A) (r : List A) → Full (reverse_aux s (x ∷ r))
  full_aux [] x r = full
  full_aux (y ∷ s) x r = full_aux s y (x ∷ r)

  full_turned : (k : ℕ) (s : List A) → present s ≢ 0 → Full (turned k s)
  unfolding present turned
  full_turned k [] h = absurd (h refl)
  full_turned zero (x ∷ s) h = full
  full_turned (suc k) (x ∷ s) h = full_aux s x []

  abbrev pub Live : List (List A) → ℕ → Type 0
  Live ss s = present (get_or ss s []) ≢ 0

  module _ (d : A) (ss : List (List A)) where
    read_first : (e : ℕ) → first_of d (read_from ss e) ≡ value_at d ss e
    unfolding read_from value_at
    read_first e = sym (first-turned d (e % 2) (get_or ss (e / 2) []))

    read-last : (e : ℕ) → last_of d (read_from ss e) ≡ value_at d ss (opposite e)
    unfolding read_from value_at
    read-last e = rw opp_stroke (sym (last_turned d (e % 2) (opposite e % 2) (get_or ss (e / 2) []) (opp_side e)))

    read-along : (g : A → A → ℕ) → ((x y : A) → g x y ≡ g y x) → (e : ℕ) → over_pairs g (read_from ss e) ≡ over_pairs g (get_or ss (e / 2) [])
    unfolding read_from
    read-along g c e = along-turned g c (e % 2) (get_or ss (e / 2) [])

    read_length : (e : ℕ) → length (read_from ss e) ≡ length (get_or ss (e / 2) [])
    unfolding read_from
    read_length e = length-turned (e % 2) (get_or ss (e / 2) [])

    read-full : (e : ℕ) → Live ss (e / 2) → Full (read_from ss e)
    unfolding read_from
    read-full e h = full_turned (e % 2) (get_or ss (e / 2) []) h

  pub record Reads (d : A) (ss : List (List A)) (link : ℕ → ℕ) (e₀ e : ℕ) (c : List ℕ) (u : List A) : Type 0 where
    pub some : Full u
    pub first : first_of d u ≡ value_at d ss e
    pub exit : ℕ
    pub last : last_of d u ≡ value_at d ss exit
    pub stops : Stops link e₀ exit
    pub weight : (g : A → A → ℕ) → ((x y : A) → g x y ≡ g y x) → over_pairs g u ≡ weigh (λ s. over_pairs g (get_or ss s [])) c
    pub size : length u + length c ≡ weigh (λ s. length (get_or ss s [])) c + 1
    pub has-entry : (w : ℕ → ℕ) → w (e / 2) ≤ weigh w c
    pub has-exit : (w : ℕ → ℕ) → w (exit / 2) ≤ weigh w c

  module _ (d : A) (ss : List (List A)) (link : ℕ → ℕ) (agree : (e f : ℕ) → link e ≡ suc f → value_at d ss e ≡ value_at d ss f) where
    one-stroke : (e₀ e : ℕ) → Live ss (e / 2) → Stops link e₀ (opposite e) → Reads d ss link e₀ e (e ∷ []) (read_from ss e)
    unfolding weigh sum
    one-stroke e₀ e h s =
        record {
          some = read-full d ss e h;
          first = read_first d ss e;
          exit = opposite e;
          last = read-last d ss e;
          stops = s;
          weight = λ g c. omega (arith, read-along d ss g c e);
          size = omega (arith, read_length d ss e);
          has-entry = λ w. omega arith;
          has-exit = λ w. rw opp_stroke (omega arith);
        }

    more-strokes : (e₀ e f : ℕ) (c : List ℕ) (s u : List A) → s ≡ read_from ss e → Full s → Full u → link (opposite e) ≡ suc f
        → Reads d ss link e₀ f c u → Reads d ss link e₀ e (e ∷ c) (s ++ drop 1 u)
    unfolding weigh sum first_of last_of
    more-strokes e₀ e f c s u q (full {x = x} {s = s'}) (full {x = y} {s = r}) l R =
        let seam : last_of x s' ≡ y = ap (last_of d) q ∙ read-last d ss e ∙ agree (opposite e) f l ∙ sym R.first in
        record {
          some = full;
          first = ap (first_of d) q ∙ read_first d ss e;
          exit = R.exit;
          last = last_append x s' r ∙ rw seam R.last;
          stops = R.stops;
          weight = λ g k. omega (arith, along-join g x s' y r seam, ap (over_pairs g) q, read-along d ss g k e, R.weight g k);
          size = omega (arith, R.size, ap length q, read_length d ss e, length-append s' r);
          has-entry = λ w. omega arith;
          has-exit = λ w. omega (arith, R.has-exit w);
        }

    -- what follows a stroke is the rest of the chain without its first point
    joined_is : (f : ℕ) (c : List ℕ) → Full (read_from ss f) → added ss (f ∷ c) ≡ drop 1 (read_chain ss (f ∷ c))
    unfolding added read_chain
    joined_is f c h = go (read_from ss f) h
      where
        go : (s : List A) → Full s → drop 1 s ++ added ss c ≡ drop 1 (s ++ added ss c)
        go s full = refl

    joined_of : {e₀ f : ℕ} {c : List ℕ} → Chain link (Live ss) e₀ f c → added ss c ≡ drop 1 (read_chain ss c)
    joined_of (end {e = e} h s) = joined_is e [] (read-full d ss e h)
    joined_of (next {e = e} {c = c} h l C) = joined_is e c (read-full d ss e h)

    pub reads : {e₀ e : ℕ} {c : List ℕ} → Chain link (Live ss) e₀ e c → Reads d ss link e₀ e c (read_chain ss c)
    unfolding read_chain added
    reads {e₀} (end {e = e} h s) = rw append-nil (one-stroke e₀ e h s)
    reads {e₀} (next {e = e} {f = f} {c = c} h l C) =
        let R = reads C in
        subst (λ (r : List A). Reads d ss link e₀ e (e ∷ c) (read_from ss e ++ r)) (sym (joined_of C))
        (more-strokes e₀ e f c (read_from ss e) (read_chain ss c) refl (read-full d ss e h) R.some l R)
