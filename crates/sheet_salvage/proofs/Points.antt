-- The turns of the loops over the points of a stroke.
use mathlib.Core.Path.{◌≡◌, refl, ap, ◌∙◌}
use mathlib.Core.Logic.{◌⊎◌, inl, inr}
use mathlib.Core.Bool.{Bool, true, false, not, ◌&&◌, ◌||◌, cond}
use mathlib.Core.List.{List, [], ◌∷◌, ◌++◌}
use Prim.Native.Nat.{ℕ, zero, suc, ◌+◌, ◌-◌, ◌≤◌, ◌<◌}
use native.Mathlib.Omega.{arith}
use native.Mathlib.Nat.{add-zero}
use lib.ListN.{length}
use lib.Bits.{bit_and, bit_or}
use lib.Dec.{ltb, eqb}
use borrow.Author.Tests.{lt-ltb, le-ltb, eq-eqb, ne_eqb}
use Rattle.path.specs.Strokes.{gather}
use Rattle.path.specs.declared.Place.{Place}
use Rattle.path.proofs.Again.{gather-add}
use Rattle.path.proofs.Gathers.{gather-more, gather_none}
use Rattle.path.proofs.Tests.{split}
use Rattle.sheet.specs.Sheets.{word_at}
use Rattle.sheet_salvage.specs.Salvage.{behind, wild_of}
use Rattle.sheet_salvage.specs.InnerScan.{num, next_good, keeps, scanned, begun, good_of}

-- ---- 1 or 0

pub one_of : (b : Bool) → eqb (num b) 1 ≡ b
one_of true = refl
one_of false = refl

pub num-few : (b : Bool) → num b ≤ 1
num-few true = omega arith
num-few false = omega arith

-- what is one of these is at most 1
pub bit_few : (b : Bool) (r : ℕ) → r ≡ num b → (r ≡ num b) × (r ≤ 1)
bit_few b r e = (e, omega (arith, num-few b))

pub bit_of : (x : ℕ) → x ≤ 1 → x ≡ num (eqb x 1)
bit_of zero h = refl
bit_of (suc zero) h = refl
bit_of (suc (suc x)) h = absurd (omega arith)

pub and_bits : (a b : Bool) → bit_and (num a) (num b) ≡ num (a && b)
and_bits true true = refl
and_bits true false = refl
and_bits false true = refl
and_bits false false = refl

or_bits : (a b : Bool) → bit_or (num a) (num b) ≡ num (a || b)
or_bits true true = refl
or_bits true false = refl
or_bits false true = refl
or_bits false false = refl

or_all : (a b d e : Bool) → d && ((a || b) || e) ≡ keeps a b d e
or_all true b d e = refl
or_all false true d e = refl
or_all false false d e = refl

-- by numbers that are such
kept_of_lem : (a b d e : Bool) (s p h x : ℕ) → s ≡ num a → p ≡ num b → h ≡ num d → x ≡ num e → bit_and h (bit_or (bit_or s p) x) ≡ num (keeps a b d e)
kept_of_lem a b d e s p h x es ep eh ex = rw (es, ep, eh, ex, or_bits a b, or_bits (a || b) e, and_bits d ((a || b) || e), or_all a b d e)

pub kept-bits : (s p h x : ℕ) → s ≤ 1 → p ≤ 1 → h ≤ 1 → x ≤ 1 → let r = bit_and h (bit_or (bit_or s p) x) in (r ≡ num (keeps (eqb s 1) (eqb p 1) (eqb h 1) (eqb x 1))) × (r ≤ 1)
kept-bits s p h x hs hp hh hx = bit_few (keeps (eqb s 1) (eqb p 1) (eqb h 1) (eqb x 1)) _ (kept_of_lem (eqb s 1) (eqb p 1) (eqb h 1) (eqb x 1) s p h x (bit_of s hs) (bit_of p hp) (bit_of h hh) (bit_of x hx))

not_of : (a b : Bool) (k p : ℕ) → k ≡ num a → p ≡ num b → bit_and k (1 - p) ≡ num (a && not b)
not_of a true k p ek ep = rw (ek, ep) (and_bits a false)
not_of a false k p ek ep = rw (ek, ep) (and_bits a true)

pub begun-bits : (k p : ℕ) → k ≤ 1 → p ≤ 1 → (bit_and k (1 - p) ≡ num (eqb k 1 && not (eqb p 1))) × (bit_and k (1 - p) ≤ 1)
begun-bits k p hk hp = bit_few (eqb k 1 && not (eqb p 1)) _ (not_of (eqb k 1) (eqb p 1) k p (bit_of k hk) (bit_of p hp))

and_true : (b : Bool) → b && true ≡ b
and_true true = refl
and_true false = refl

and_false : (b : Bool) → b && false ≡ false
and_false true = refl
and_false false = refl

-- ---- the point behind, by its place

next_is : (n : ℕ) (at : ℕ → ℕ) (j e : ℕ) → next_good n (gather at j (e - j)) ≡ ltb (at j) n && ltb j e
unfolding next_good
next_is n at j e = go (split e j)
  where
    go : (e ≤ j) ⊎ (j < e) → next_good n (gather at j (e - j)) ≡ ltb (at j) n && ltb j e
    go (inl l) = rw (gather_none at j e l, le-ltb j e l, and_false (ltb (at j) n))
    go (inr l) = rw (gather-more at j e l, lt-ltb j e l, and_true (ltb (at j) n))

-- ---- counting what comes of a point

count-step : (b : Bool) (y x t r : ℕ) (l rest : List ℕ) → l ≡ cond b (y ∷ rest) rest → r ≡ num b → x + length l ≡ t → x + r + length rest ≡ t
count-step true y x t r l rest e q g = let f = ap length e in omega arith
count-step false y x t r l rest e q g = let f = ap length e in omega arith

-- ---- a point, by what the code knows of it

module _ (n : ℕ) (at : ℕ → ℕ) (s : Bool) (e i single prev here next keep begin : ℕ) (h : i < e) (es : single ≡ num s)
    (eh : here ≡ num (ltb (at i) n && ltb i e)) (en : next ≡ num (ltb (at (i + 1)) n && ltb (i + 1) e))
    (ek : keep ≡ num (keeps (eqb single 1) (eqb prev 1) (eqb here 1) (eqb next 1))) (eb : begin ≡ num (eqb keep 1 && not (eqb prev 1))) where
  abbrev Behind : List ℕ
  Behind = gather at (i + 1) (e - (i + 1))

  abbrev Keep : Bool
  Keep = keeps s (eqb prev 1) (ltb (at i) n) (next_good n Behind)

  pub here_is : eqb here 1 ≡ ltb (at i) n
  here_is = rw (eh, one_of (ltb (at i) n && ltb i e), lt-ltb i e h, and_true (ltb (at i) n))

  pub keep_is : keep ≡ num Keep
  keep_is = ek ∙ rw (here_is, es, one_of s, en, one_of (ltb (at (i + 1)) n && ltb (i + 1) e), next_is n at (i + 1) e)

  pub begin_is : begin ≡ num (Keep && not (eqb prev 1))
  begin_is = eb ∙ rw (keep_is, one_of Keep)

  pub scan_step : scanned n s (eqb prev 1) (gather at i (e - i)) ≡ cond Keep (at i ∷ scanned n s (eqb here 1) Behind) (scanned n s (eqb here 1) Behind)
  unfolding scanned
  scan_step = rw (here_is, gather-more at i e h)

  pub begun-step : (k : ℕ) → begun n s (eqb prev 1) k (gather at i (e - i)) ≡ cond (Keep && not (eqb prev 1)) (k ∷ begun n s (eqb here 1) (k + keep) Behind) (begun n s (eqb here 1) (k + keep) Behind)
  unfolding begun
  begun-step k = rw (here_is, gather-more at i e h, keep_is) (go Keep (eqb prev 1))
    where
      go : (x b : Bool) → cond x (cond b (begun n s (ltb (at i) n) (k + 1) Behind) (k ∷ begun n s (ltb (at i) n) (k + 1) Behind)) (begun n s (ltb (at i) n) k Behind)
          ≡ cond (x && not b) (k ∷ begun n s (ltb (at i) n) (k + num x) Behind) (begun n s (ltb (at i) n) (k + num x) Behind)
      go true true = refl
      go true false = refl
      go false b = rw (add-zero k)

  pub points_step : (x t : ℕ) → x + length (scanned n s (eqb prev 1) (gather at i (e - i))) ≡ t → x + keep + length (scanned n s (eqb here 1) Behind) ≡ t
  points_step x t g = count-step Keep (at i) x t keep (scanned n s (eqb prev 1) (gather at i (e - i))) (scanned n s (eqb here 1) Behind) scan_step keep_is g

  pub starts_step : (k x t : ℕ) → x + length (begun n s (eqb prev 1) k (gather at i (e - i))) ≡ t → x + begin + length (begun n s (eqb here 1) (k + keep) Behind) ≡ t
  starts_step k x t g = count-step (Keep && not (eqb prev 1)) k x t begin (begun n s (eqb prev 1) k (gather at i (e - i))) (begun n s (eqb here 1) (k + keep) Behind) (begun-step k) begin_is g

-- ---- counting

pub same_place : {a b d e : ℕ} → a ≡ b → d ≡ e → ◌≡◌ {A = Place} (record { points = a; starts = d }) (record { points = b; starts = e })
same_place x y = cc

pub good-step : (n : ℕ) (at : ℕ → ℕ) (e i here x t : ℕ) → i < e → here ≡ num (ltb (at i) n && ltb i e) → x + good_of n (gather at i (e - i)) ≡ t → x + here + good_of n (gather at (i + 1) (e - (i + 1))) ≡ t
unfolding good_of
good-step n at e i here x t h eh g =
    let f : x + (num (ltb (at i) n) + good_of n (gather at (i + 1) (e - (i + 1)))) ≡ t = rw (gather-more at i e h) at g in
    let d : here ≡ num (ltb (at i) n) = eh ∙ rw (lt-ltb i e h, and_true (ltb (at i) n)) in
    rw d (omega (arith, f))

pub good-end : (n : ℕ) (at : ℕ → ℕ) (e i x t : ℕ) → e ≤ i → x + good_of n (gather at i (e - i)) ≡ t → x ≡ t
unfolding good_of
good-end n at e i x t h g = let f : x + 0 ≡ t = rw (gather_none at i e h) at g in omega (arith, f)

pub scan_end : (n : ℕ) (at : ℕ → ℕ) (s b : Bool) (e i : ℕ) → e ≤ i → scanned n s b (gather at i (e - i)) ≡ []
unfolding scanned
scan_end n at s b e i h = rw (gather_none at i e h)

pub begun-end : (n : ℕ) (at : ℕ → ℕ) (s b : Bool) (e i k : ℕ) → e ≤ i → begun n s b k (gather at i (e - i)) ≡ []
unfolding begun
begun-end n at s b e i k h = rw (gather_none at i e h)

-- points below n, and those that are not, are all
good-append : (n : ℕ) (a b : List ℕ) → good_of n (a ++ b) ≡ good_of n a + good_of n b
unfolding good_of
good-append n [] b = omega arith
good-append n (p ∷ a) b = omega (arith, good-append n a b)

pub good-parts : (n : ℕ) (at : ℕ → ℕ) (a e m : ℕ) → a ≤ e → e ≤ m → good_of n (gather at a (m - a)) ≡ good_of n (gather at a (e - a)) + good_of n (gather at e (m - e))
good-parts n at a e m h l =
    let z : m - a ≡ e - a + (m - e) = omega arith in
    let y : a + (e - a) ≡ e = omega arith in
    ap (λ (k : ℕ). good_of n (gather at a k)) z ∙ ap (good_of n) (gather-add at a (e - a) (m - e)) ∙ ap (λ (x : ℕ). good_of n (gather at a (e - a) ++ gather at x (m - e))) y ∙ good-append n (gather at a (e - a)) (gather at e (m - e))

pub good-wild : (n : ℕ) (s : List ℕ) → good_of n s + wild_of n s ≡ length s
unfolding good_of wild_of
good-wild n [] = refl
good-wild n (p ∷ s) = go (ltb p n) (good-wild n s)
  where
    go : (b : Bool) → good_of n s + wild_of n s ≡ length s → num b + good_of n s + (cond b 0 1 + wild_of n s) ≡ suc (length s)
    go true ih = omega arith
    go false ih = omega arith

-- the word behind, as the code reads it
pub good-read : (bs : List ℕ) (k i e n v r : ℕ) → v ≡ word_at bs (k + i + 1) → r ≡ num (ltb v n && ltb (i + 1) e) → r ≡ num (ltb (behind bs k (i + 1)) n && ltb (i + 1) e)
good-read bs k i e n v r ev er = let z : k + i + 1 ≡ k + (i + 1) = omega arith in er ∙ rw (ev, z)

-- a stroke has points, or its start is its end
pub no_points : (a e r : ℕ) → a ≤ e → r ≡ num (ltb a e) → (r ≤ 1) × ((x : ℕ) → x + 1 - r ≡ x + num (eqb a e))
no_points a e r h q = go (split e a)
  where
    go : (e ≤ a) ⊎ (a < e) → (r ≤ 1) × ((x : ℕ) → x + 1 - r ≡ x + num (eqb a e))
    go (inl l) =
        let z : r ≡ 0 = q ∙ rw (le-ltb a e l) in
        (omega arith, λ x. rw (z, eq-eqb a e (omega arith)) (omega arith))
    go (inr l) =
        let z : r ≡ 1 = q ∙ rw (lt-ltb a e l) in
        (omega arith, λ x. rw (z, ne_eqb a e (λ u. omega arith)) (omega arith))

-- ---- the points that strokes have

pub none-stroked : (strokes m : ℕ) → strokes ≤ 0 → cond (eqb strokes 0) 0 m ≡ 0
none-stroked strokes m h = rw (eq-eqb strokes 0 (omega arith))

pub all_stroked : (strokes m : ℕ) → 1 ≤ strokes → cond (eqb strokes 0) 0 m ≡ m
all_stroked strokes m h = rw (ne_eqb strokes 0 (λ q. omega arith))

-- points below n of one stroke more
pub good_more : (n : ℕ) (at : ℕ → ℕ) (a e m z x r t : ℕ) → z ≡ m → a ≤ e → e ≤ m → x + good_of n (gather at a (z - a)) ≡ t → r ≡ x + good_of n (gather at a (e - a)) → r + good_of n (gather at e (z - e)) ≡ t
good_more n at a e m z x r t ez h l g q =
    let f : x + good_of n (gather at a (m - a)) ≡ t = rw ez at g in
    rw ez (omega (arith, f, good-parts n at a e m h l))
