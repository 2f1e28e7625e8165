-- Where an edge ends in the list of sides, found one place after the other.
use mathlib.Core.Path.{◌≡◌, refl, sym, ap, ◌∙◌}
use mathlib.Core.Bool.{Bool, true, false, cond, ◌&&◌}
use mathlib.Core.Logic.{◌≢◌}
use mathlib.Core.List.{List, ◌∷◌}
use Prim.Native.Nat.{ℕ, suc, ◌+◌, ◌*◌, ◌<◌, ◌≤◌}
use native.Mathlib.Omega.{arith}
use native.Mathlib.Numerals.{add-one}
use lib.Dec.{eqb, leb}
use lib.ListN.{length, drop, get_or, drop_of_length-le}
use lib.Seq.{drop-cons}
use borrow.Author.Tests.{le-leb, lt-leb}
use Rattle.order.specs.Regions.{region}
use Rattle.order.proofs.Tests.{eqb-false, eqb-self}
use Rattle.order.proofs.Parts.{length-region, get_region}
use Rattle.mesh_edges.specs.InnerWords.{alike, pair_in, end_in}
use Rattle.mesh_edges.proofs.Groups.{alike-none, alike-yes, alike-no}

module _ (s : List ℕ) (n : ℕ) (H : 5 * n ≤ length s) where
  abbrev R : List ℕ
  R = region s (2 * n) n

  long : length R ≡ n
  long = length-region s (2 * n) n (omega arith)

  sides_at : (q : ℕ) → q < n → drop q R ≡ get_or s (2 * n + q) 0 ∷ drop (q + 1) R
  sides_at q h = rw (add-one q) (drop-cons R q 0 (omega (arith, long)) ∙ ap (λ (z : ℕ). z ∷ drop (suc q) R) (get_region s (2 * n) n q h))

  -- the end, as what is found up to q says it
  abbrev pub from : ℕ → ℕ → ℕ
  from x q = q + alike (pair_in s n) x (drop q (region s (2 * n) n))

  pub from_more : (x q : ℕ) → q < n → pair_in s n x ≡ pair_in s n (get_or s (2 * n + q) 0) → from x (q + 1) ≡ from x q
  from_more x q h e =
      let y = get_or s (2 * n + q) 0 in
      let k : alike (pair_in s n) x (drop q R) ≡ suc (alike (pair_in s n) x (drop (q + 1) R)) =
      ap (alike (pair_in s n) x) (sides_at q h) ∙ alike-yes (pair_in s n) x y (drop (q + 1) R) (ap (eqb (pair_in s n x)) (sym e) ∙ eqb-self (pair_in s n x)) in
      omega (arith, k)

  pub from-stop : (x q : ℕ) → q < n → pair_in s n x ≢ pair_in s n (get_or s (2 * n + q) 0) → q ≡ from x q
  from-stop x q h e =
      let y = get_or s (2 * n + q) 0 in
      let k : alike (pair_in s n) x (drop q R) ≡ 0 = ap (alike (pair_in s n) x) (sides_at q h) ∙ alike-no (pair_in s n) x y (drop (q + 1) R) (eqb-false (pair_in s n x) (pair_in s n y) e) in
      omega (arith, k)

  pub from_all : (x q : ℕ) → n ≤ q → q ≡ from x q
  from_all x q h =
      let l : length R ≤ q = omega (arith, long) in
      let k : alike (pair_in s n) x (drop q R) ≡ 0 = ap (alike (pair_in s n) x) (drop_of_length-le R l) ∙ alike-none (pair_in s n) x in
      omega (arith, k)

  pub end_from : (p : ℕ) → p < n → end_in s n p ≡ from (get_or s (2 * n + p) 0) (p + 1)
  unfolding end_in
  end_from p h = rw (le-leb (5 * n) (length s) H, le-leb (p + 1) n (omega arith))

pub end_past : (s : List ℕ) (n p : ℕ) → n ≤ p → p ≡ end_in s n p
unfolding end_in
end_past s n p h = rw (lt-leb (p + 1) n (omega arith)) (go (leb (5 * n) (length s)))
  where
    go : (b : Bool) → p ≡ cond (b && false) (p + 1 + alike (pair_in s n) (get_or s (2 * n + p) 0) (drop (p + 1) (region s (2 * n) n))) p
    go true = refl
    go false = refl

pub end_short : (s : List ℕ) (n p : ℕ) → length s < 5 * n → p ≡ end_in s n p
unfolding end_in
end_short s n p h = rw (lt-leb (5 * n) (length s) h)
