-- What the proofs of the functions share.
use Rattle.std.proofs.Common.{◌≡◌, ℕ, ◌+◌, ◌<◌, ◌≤◌, Bool, true, false, cond, not, ◌&&◌, T, ltb, List, set, length, drop, get_or, sym, refl, ap, ◌∙◌, add-one, arith, le-ltb, lt-ltb}
use Rattle.std.proofs.lemmas.List.{drop_all, drop_more}
use lib.Ieee.{Float, nan, inf, fin, binary64, eq, is_nan, of_bits, nan_bits}
use lib.Ieee.Bits.{nan_bits_is}
use Rattle.replay_rows.specs.Lists.{filled, held}

-- a choice by a comparison
pub yes : {A : Type 0} (m n : ℕ) (x y : A) → m < n → x ≡ cond (ltb m n) x y
yes m n x y h = rw (lt-ltb m n h)

pub no : {A : Type 0} (m n : ℕ) (x y : A) → n ≤ m → y ≡ cond (ltb m n) x y
no m n x y h = rw (le-ltb m n h)

-- only a NaN is not equal to itself
pub itself : (x : Float) → eq x x ≡ true → T (not (is_nan x))
unfolding eq is_nan
itself nan e = let z : ◌≡◌ {A = ℕ} 0 1 = cc in omega arith
itself (inf s) e = tt
itself (fin s m k) e = tt

is_nan_lem : (x : Float) → is_nan x ≡ true → nan ≡ x
unfolding is_nan
is_nan_lem nan e = refl
is_nan_lem (inf s) e = let z : ◌≡◌ {A = ℕ} 0 1 = cc in absurd (omega arith)
is_nan_lem (fin s m k) e = let z : ◌≡◌ {A = ℕ} 0 1 = cc in absurd (omega arith)

-- the pattern of a NaN
pub nan_read : (b : ℕ) → nan_bits binary64 b ≡ true → nan ≡ of_bits binary64 b
nan_read b e = is_nan_lem (of_bits binary64 b) (sym (nan_bits_is binary64 b) ∙ e)

both : (a b : Bool) → (a && b) ≡ true → (a ≡ true) × (b ≡ true)
both true b e = (refl, e)
both false b e = let z : ◌≡◌ {A = ℕ} 0 1 = cc in absurd (omega arith)

-- one more element is set
fill_more : {A : Type 0} (f : ℕ → A) (s : List A) (i : ℕ) → set (filled f s i) i (f i) ≡ filled f s (i + 1)
unfolding filled
fill_more f s i = rw (add-one i)

pub fill_turn : {A : Type 0} (f : ℕ → A) (s t : List A) (i : ℕ) (x : A) → t ≡ filled f s i → x ≡ f i → set t i x ≡ filled f s (i + 1)
fill_turn f s t i x e h = rw (e, h) (fill_more f s i)

pub fill_end : {A : Type 0} (f : ℕ → A) (s t : List A) (i n : ℕ) → t ≡ filled f s i → i ≡ n → t ≡ filled f s n
fill_end f s t i n e h = e ∙ ap (filled f s) h

and_false : (b : Bool) → (b && false) ≡ false
and_false true = refl
and_false false = refl

-- from place i of a list on, the element there and then the rest
pub held-at : {A : Type 0} (is : A → ℕ → Bool) (want : ℕ → ℕ) (xs : List A) (i : ℕ) (x : A) → i < length xs → x ≡ get_or xs i x
    → held is want i (drop i xs) ≡ (is x (want i) && held is want (i + 1) (drop (i + 1) xs))
unfolding held
held-at is want xs i x h e = rw (drop_more xs i x h, ← e)

-- the element there is what is wanted, or is not: w is the word that was asked for, r what the test of the element said
module _ {A : Type 0} (is : A → ℕ → Bool) (want : ℕ → ℕ) (xs : List A) (i w : ℕ) (x : A) (r all : Bool) (h : i < length xs) (at : x ≡ get_or xs i x)
    (word : w ≡ want i) (said : r ≡ is x w) (so_far : held is want i (drop i xs) ≡ all) where
  here : is x (want i) ≡ r
  here = sym (said ∙ ap (is x) word)

  pub held-no : r ≡ false → false ≡ all
  held-no e = sym (held-at is want xs i x h at ∙ ap (λ b. b && held is want (i + 1) (drop (i + 1) xs)) (here ∙ e)) ∙ so_far

  pub held-yes : r ≡ true → held is want (i + 1) (drop (i + 1) xs) ≡ all
  held-yes e = sym (held-at is want xs i x h at ∙ ap (λ b. b && held is want (i + 1) (drop (i + 1) xs)) (here ∙ e)) ∙ so_far

pub held-end : {A : Type 0} (is : A → ℕ → Bool) (want : ℕ → ℕ) (xs : List A) (i : ℕ) (all : Bool) → length xs ≤ i → held is want i (drop i xs) ≡ all → true ≡ all
unfolding held
held-end is want xs i all h e = rw (drop_all i xs h) at e
