-- Laws of the tests before a call.
use Rattle.std.specs.Prelude.{Ok}
use mathlib.Core.Path.{◌≡◌, refl, sym, ap}
use mathlib.Core.Logic.{◌⊎◌, inl, inr}
use mathlib.Core.Bool.{Bool, true, false, cond, ◌&&◌, true≢false}
use mathlib.Core.List.{List}
use Prim.Native.Nat.{ℕ, suc, ◌+◌, ◌≤◌, ◌<◌}
use native.Mathlib.Omega.{arith}
use native.Mathlib.Numerals.{add-one}
use native.Mathlib.Nat.{add-zero}
use lib.ListN.{length, get_or, drop, drop_of_length-le}
use lib.Seq.{drop-cons}
use lib.Dec.{T, leb, eqb, eqb→eq}
use lib.Ieee.{Float, nan}
use borrow.Author.Tests.{leb-true, leb-false}
use Rattle.refusal.specs.Limits.{most_points, most_strokes}
use Rattle.refusal.specs.Refusals.{unless}
use Rattle.refusal.specs.declared.Refusal.{Refusal}
use Rattle.refusal.specs.Refusals.{Verdict}
use Rattle.path.specs.Tests.{counted_of, within_of, all_within}

-- what is accepted has passed the test, and those after it
pub passed : (b : Bool) (r : Refusal) (v : Verdict) → unless b r v ≡ (Ok tt) → (b ≡ true) × (v ≡ (Ok tt))
unfolding unless
passed true r v h = (refl, h)
passed false r v h = absurd (let z : ◌≡◌ {A = ℕ} 0 1 = cc in omega arith)

pub both : (a b : Bool) → a && b ≡ true → (a ≡ true) × (b ≡ true)
both true b h = (refl, h)
both false b h = absurd (true≢false (sym h))

-- one or the other
pub split : (m n : ℕ) → (m ≤ n) ⊎ (n < m)
split m n = go (leb m n) refl
  where
    go : (x : Bool) → leb m n ≡ x → (m ≤ n) ⊎ (n < m)
    go true e = inl (leb-true m n e)
    go false e = inr (leb-false m n e)

-- what is counted is within its limit
pub few_strokes : (points strokes : ℕ) → counted_of points strokes ≡ true → strokes ≤ most_strokes
unfolding counted_of
few_strokes points strokes h = leb-true strokes most_strokes (both (leb points most_points) (leb strokes most_strokes) h).1

pub few_points : (points strokes : ℕ) → counted_of points strokes ≡ true → points ≤ most_points
unfolding counted_of
few_points points strokes h = leb-true points most_points (both (leb points most_points) (leb strokes most_strokes) h).0

-- the numbers from place i on
module _ (most : Float) (xs : List Float) (i : ℕ) where
  -- a turn of the loop that counts those past the bound
  pub good_turn : i < length xs → (bad more : ℕ) → more ≡ cond (within_of most (get_or xs i nan)) 0 1
      → (more ≤ 1) × (eqb (bad + more) 0 && all_within most (drop (i + 1) xs) ≡ eqb bad 0 && all_within most (drop i xs))
  good_turn h bad more e = rw (drop-cons xs i nan h, add-one, e) (go (within_of most (get_or xs i nan)) (all_within most (drop (suc i) xs)))
    where
      go : (y z : Bool) → (cond y 0 1 ≤ 1) × (eqb (bad + cond y 0 1) 0 && z ≡ eqb bad 0 && (y && z))
      go true z = (omega arith, ap (λ (k : ℕ). eqb k 0 && z) (add-zero bad))
      go false z = (omega arith, rw (none (eqb (bad + 1) 0) (eqb→eq (bad + 1) 0)) (sym (last (eqb bad 0))))
        where
          none : (b : Bool) → (T b → bad + 1 ≡ 0) → b ≡ false
          none true f = absurd (omega (arith, f tt))
          none false f = refl

          last : (b : Bool) → b && false ≡ false
          last true = refl
          last false = refl

  pub good-all : length xs ≤ i → all_within most (drop i xs) ≡ true
  good-all h = rw (drop_of_length-le xs h)
