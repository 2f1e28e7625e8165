-- Small facts on tests and numbers.
use mathlib.Core.Path.{◌≡◌, refl, sym, subst}
use mathlib.Core.Bool.{Bool, true, false, ◌&&◌, not}
use mathlib.Core.Logic.{◌⊎◌, inl, inr, ◌≢◌, ⊎_elim}
use Prim.Native.Nat.{ℕ, ◌<◌, ◌≤◌}
use native.Mathlib.Omega.{arith}
use lib.Dec.{T, eqb, eqb→eq, eqb_refl, leb}
use borrow.Author.Tests.{leb-true, leb-false, le-leb, lt-leb}

pub truth : (b : Bool) → (b ≡ true) ⊎ (b ≡ false)
truth true = inl refl
truth false = inr refl

pub clash : {b : Bool} → b ≡ true → b ≡ false → ⊥
clash {b} p q = let z : ◌≡◌ {A = Bool} true false = cc in subst T z tt

pub both_left : (a b : Bool) → a && b ≡ true → a ≡ true
both_left true b h = refl
both_left false b h = h

pub both_right : (a b : Bool) → a && b ≡ true → b ≡ true
both_right true b h = h
both_right false b h = absurd (clash h refl)

pub both : {a b : Bool} → a ≡ true → b ≡ true → a && b ≡ true
both p q = rw (p, q)

pub not_true : (b : Bool) → not b ≡ true → b ≡ false
not_true true h = sym h
not_true false h = refl

pub not_false : (b : Bool) → b ≡ false → not b ≡ true
not_false true h = sym h
not_false false h = refl

pub eqb-true : (m n : ℕ) → eqb m n ≡ true → m ≡ n
eqb-true m n h = eqb→eq m n (rw h tt)

pub eqb-false : (m n : ℕ) → m ≢ n → eqb m n ≡ false
eqb-false m n h = go (eqb m n) refl
  where
    go : (b : Bool) → eqb m n ≡ b → eqb m n ≡ false
    go true e = absurd (h (eqb-true m n e))
    go false e = e

pub neqb : (m n : ℕ) → eqb m n ≡ false → m ≢ n
neqb m n h e = clash (same (eqb_refl m)) h
  where
    same : T (eqb m m) → eqb m n ≡ true
    same t = rw (← e) (go (eqb m m) t)
      where
        go : (b : Bool) → T b → b ≡ true
        go true t = refl
        go false t = absurd t

pub eqb-self : (n : ℕ) → eqb n n ≡ true
eqb-self n = go (eqb n n) (eqb_refl n)
  where
    go : (b : Bool) → T b → b ≡ true
    go true t = refl
    go false t = absurd t

pub le-or : (m n : ℕ) → (m ≤ n) ⊎ (n < m)
le-or m n = split (leb m n) refl
  where
    split : (c : Bool) → leb m n ≡ c → (m ≤ n) ⊎ (n < m)
    split true e = inl (leb-true m n e)
    split false e = inr (leb-false m n e)

-- two tests that come to the same
pub leb-same : (a b c d : ℕ) → (a ≤ b → c ≤ d) → (c ≤ d → a ≤ b) → leb a b ≡ leb c d
leb-same a b c d f g = go (le-or a b)
  where
    go : (a ≤ b) ⊎ (b < a) → leb a b ≡ leb c d
    go (inl h) = rw (le-leb a b h, le-leb c d (f h))
    go (inr h) = ⊎_elim (λ k. absurd (omega (arith, g k))) (λ k. rw (lt-leb a b h, lt-leb c d k)) (le-or c d)
