-- `pick` as a loop from the top goes through it, and as any other search comes to it.
use mathlib.Core.Path.{◌≡◌, refl, sym}
use mathlib.Core.Bool.{Bool, true, false, ◌&&◌}
use mathlib.Core.Logic.{◌≢◌}
use mathlib.Core.List.{List}
use Prim.Native.Nat.{ℕ, zero, suc, ◌/◌}
use native.Mathlib.Omega.{arith}
use lib.Dec.{eqb}
use lib.ListN.{get_or}
use Rattle.path_splice_rule.specs.Splice.{is_zero, pick, tie, link_end}
use Rattle.path_splice_links.specs.Ends.{fit}
use Rattle.order.proofs.Tests.{both, not_false, eqb-false, eqb-self}
use Rattle.path_splice_rule.proofs.Ends.{is_zero_lem, not_zero, zero_of}

module _ (join : ℕ → ℕ → Bool) (ls : List ℕ) (e : ℕ) where
  pub hit : (k j : ℕ) → k ≡ suc j → get_or ls j 0 ≡ 0 → join e j ≡ true → pick join ls e k ≡ k
  unfolding pick
  hit zero j h u t = absurd (omega arith)
  hit (suc k) j h u t =
      let p : j ≡ k = omega arith in
      let q : is_zero (get_or ls k 0) && join e k ≡ true = both (is_zero_lem (get_or ls k 0) (rw (← p) u)) (rw (← p) t) in
      rw q

  off : (a b : Bool) → (a ≡ true → b ≡ false) → a && b ≡ false
  off true b h = h refl
  off false b h = refl

  pub miss : (k j : ℕ) → k ≡ suc j → (get_or ls j 0 ≡ 0 → join e j ≡ false) → pick join ls e k ≡ pick join ls e j
  unfolding pick
  miss zero j h t = absurd (omega arith)
  miss (suc k) j h t =
      let p : j ≡ k = omega arith in
      let q : is_zero (get_or ls k 0) && join e k ≡ false = off (is_zero (get_or ls k 0)) (join e k) (λ z. let u = t (rw p (zero_of (get_or ls k 0) z)) in rw p at u) in
      rw (q, p)

pub fits : (vs : List ℕ) (e f : ℕ) → get_or vs f 0 ≡ get_or vs e 0 → f / 2 ≢ e / 2 → fit vs e f ≡ true
unfolding fit
fits vs e f v n = both (not_false (eqb (e / 2) (f / 2)) (eqb-false (e / 2) (f / 2) (λ q. n (sym q)))) (rw v (eqb-self (get_or vs e 0)))

pub unfit_stroke : (vs : List ℕ) (e f : ℕ) → f / 2 ≡ e / 2 → fit vs e f ≡ false
unfolding fit
unfit_stroke vs e f q = rw (q, eqb-self (e / 2))

module _ (join : ℕ → ℕ → Bool) (m : ℕ) (ls : List ℕ) (e : ℕ) where
  pub end_none : get_or ls e 0 ≡ 0 → 0 ≡ pick join ls e m → ls ≡ link_end join m ls e
  unfolding link_end tie
  end_none u p = rw (is_zero_lem (get_or ls e 0) u, ← p)

  pub end_linked : get_or ls e 0 ≢ 0 → ls ≡ link_end join m ls e
  unfolding link_end
  end_linked n = rw (not_zero (get_or ls e 0) n)
