-- A search finds a vertex exactly if one meets the point: near it, and in one of the 27 cells about it. Meeting is symmetric, and a point
-- within the limit meets itself.
use Rattle.path.specs.Strokes.{point_at}
use mathlib.Core.Path.{◌≡◌, refl, sym, ap, ◌∙◌, subst}
use mathlib.Core.Bool.{Bool, true, false, not, cond, ◌&&◌, beq, true≢false}
use mathlib.Core.Logic.{◌⊎◌, inl, inr, ⊎_elim}
use mathlib.Core.List.{List}
use Prim.Native.Nat.{ℕ, zero, suc, ◌+◌, ◌-◌, ◌*◌, ◌^◌, ◌<◌}
use native.Mathlib.Nat.{mul_comm}
use native.Mathlib.Omega.{arith}
use lib.Dec.{T, ltb, lit≤}
use lib.Ieee.{Float, nan, inf, fin, up, down, below, binary64, of_bits, round, neg, sum, add, sub, mul, lt}
use lib.Ieee.Fits.{down_pos}
use borrow.Author.Tests.{lt-ltb, ltb-true, ltb-false}
use Rattle.vector.specs.declared.Vector.{Vector}
use Rattle.vector.specs.Abs.{abs_of}
use Rattle.vector.specs.Vectors.{distance_squared_of}
use Rattle.vector.proofs.Zeros.{Within, within, under, abs_round, add-within, mul-within, none, own_sub}
use Rattle.path.specs.Tests.{most_coordinate, coordinate_good}
use Rattle.path.proofs.Tests.{split}
use Rattle.std.specs.Prelude.{Option, Some, None}
use Rattle.mesh_weld.specs.Weld.{near, or_else, oldest, find}
use Rattle.mesh_weld.specs.InnerTable.{key, Beside}
use Rattle.mesh_weld.proofs.Finds.{hits, look_in, three_of, find-by, find-below}
use Rattle.mesh_weld.proofs.Ranks.{hits_all, hits_make}
use Rattle.mesh_weld.proofs.Differences.{square, limit, limit_is}

pub record Meets (p v : Vector) : Type 0 where
  pub close : near p v ≡ true
  pub x : Beside (key p.x) (key v.x)
  pub y : Beside (key p.y) (key v.y)
  pub z : Beside (key p.z) (key v.z)

-- ---- what is found of several, and of numbers
or_at : (f g : Option ℕ) (i : ℕ) → or_else f g ≡ Some i → (f ≡ Some i) ⊎ (g ≡ Some i)
unfolding or_else
or_at (Some j) g i e = inl e
or_at None g i e = inr e

never : (i : ℕ) → Some i ≡ None → ⊥
never i e = let o : ◌≡◌ {A = ℕ} 0 1 = cc in omega arith

or_none : (f g : Option ℕ) → or_else f g ≡ None → (f ≡ None) × (g ≡ None)
unfolding or_else
or_none (Some j) g e = absurd (never j e)
or_none None g e = (refl, e)

picked : (t : Bool) (k i : ℕ) → cond t (Some k) None ≡ Some i → (t ≡ true) × (k ≡ i)
picked true k i e = (refl, cc)
picked false k i e = absurd (never i (sym e))

passed_over : (t : Bool) (k : ℕ) → cond t (Some k) None ≡ None → t ≡ false
passed_over true k e = absurd (never k e)
passed_over false k e = refl

oldest-at : (q : ℕ → Bool) (k i : ℕ) → oldest q k ≡ Some i → q i ≡ true
unfolding oldest
oldest-at q zero i e = absurd (never i (sym e))
oldest-at q (suc k) i e =
    ⊎_elim (oldest-at q k i) (λ b. let o = picked (q k) k i b in ap q (sym o.1) ∙ o.0) (or_at (oldest q k) (cond (q k) (Some k) None) i e)

oldest-none : (q : ℕ → Bool) (k i : ℕ) → oldest q k ≡ None → i < k → q i ≡ false
unfolding oldest
oldest-none q zero i e l = absurd (omega arith)
oldest-none q (suc k) i e l =
    let a = or_none (oldest q k) (cond (q k) (Some k) None) e in
    ⊎_elim (λ h. let o : i ≡ k = omega arith in ap q o ∙ passed_over (q k) k a.1) (oldest-none q k i a.0) (split k i)

-- ---- three cells: what is found is found in one of them, and where nothing is found each has nothing
three-at : (Q : ℕ → Type 0) (f : ℕ → Option ℕ) (x : ℕ) → ((w : ℕ) → Beside x w → (i : ℕ) → f w ≡ Some i → Q i) → (i : ℕ) → three_of f x ≡ Some i → Q i
unfolding three_of
three-at Q f x h i e =
    ⊎_elim (h (x - 1) (record { low = omega arith; high = omega arith }) i)
    (λ r. ⊎_elim (h x (record { low = omega arith; high = omega arith }) i) (h (x + 1) (record { low = omega arith; high = omega arith }) i) (or_at (f x) (f (x + 1)) i r))
    (or_at (f (x - 1)) (or_else (f x) (f (x + 1))) i e)

three-none : (f : ℕ → Option ℕ) (x w : ℕ) → Beside x w → three_of f x ≡ None → f w ≡ None
unfolding three_of
three-none f x w b e =
    let a = or_none (f (x - 1)) (or_else (f x) (f (x + 1))) e in
    let d = or_none (f x) (f (x + 1)) a.1 in
    ⊎_elim
    (λ l. ⊎_elim (λ g. let o : w ≡ x + 1 = omega (arith, b.high) in ap f o ∙ d.1) (λ g. let o : w ≡ x = omega arith in ap f o ∙ d.0) (split (x + 1) w))
    (λ l. let o : w ≡ x - 1 = omega (arith, b.low) in ap f o ∙ a.0) (split x w)

-- ---- the search
met : (p v : Vector) (a b c : ℕ) → Beside (key p.x) a → Beside (key p.y) b → Beside (key p.z) c → hits p a b c v ≡ true → Meets p v
met p v a b c x y z h =
    let t = hits_all p a b c v h in
    record {
      close = t.0;
      x = subst (λ (w : ℕ). Beside (key p.x) w) (sym t.1) x;
      y = subst (λ (w : ℕ). Beside (key p.y) w) (sym t.2) y;
      z = subst (λ (w : ℕ). Beside (key p.z) w) (sym t.3) z;
    }

module _ (vs : List Float) (k : ℕ) (p : Vector) where
  find_at : (i : ℕ) → find vs k p ≡ Some i → Meets p (point_at vs i)
  unfolding look_in
  find_at i e =
      let Q : ℕ → Type 0 = λ j. Meets p (point_at vs j) in
      three-at Q (λ a. three_of (λ b. three_of (λ c. look_in vs k p a b c) (key p.z)) (key p.y)) (key p.x)
      (λ a x. three-at Q (λ b. three_of (λ c. look_in vs k p a b c) (key p.z)) (key p.y)
      (λ b y. three-at Q (λ c. look_in vs k p a b c) (key p.z)
      (λ c z j h. met p (point_at vs j) a b c x y z (oldest-at (λ i. hits p a b c (point_at vs i)) k j h))))
      i (find-by vs k p (key p.x) (key p.y) (key p.z) refl refl refl ∙ e)

  pub find_none : find vs k p ≡ None → (i : ℕ) → i < k → Meets p (point_at vs i) → ⊥
  unfolding look_in
  find_none e i l m =
      let v = point_at vs i in
      let a = three-none (λ a. three_of (λ b. three_of (λ c. look_in vs k p a b c) (key p.z)) (key p.y)) (key p.x) (key v.x) m.x
      (find-by vs k p (key p.x) (key p.y) (key p.z) refl refl refl ∙ e) in
      let b = three-none (λ b. three_of (λ c. look_in vs k p (key v.x) b c) (key p.z)) (key p.y) (key v.y) m.y a in
      let c = three-none (λ c. look_in vs k p (key v.x) (key v.y) c) (key p.z) (key v.z) m.z b in
      true≢false
      (sym (hits_make p (key v.x) (key v.y) (key v.z) v m.close refl refl refl)
      ∙ oldest-none (λ j. hits p (key v.x) (key v.y) (key v.z) (point_at vs j)) k i c l)

  -- the only vertex that meets p is found
  pub find-only : (v : ℕ) → v < k → Meets p (point_at vs v) → ((u : ℕ) → u < k → Meets p (point_at vs u) → u ≡ v) → find vs k p ≡ Some v
  find-only v l m only = go (find vs k p) refl
    where
      go : (f : Option ℕ) → find vs k p ≡ f → f ≡ Some v
      go (Some i) e = let o : i ≡ v = only i (find-below vs k p i e) (find_at i e) in cc
      go None e = absurd (find_none e v l m)

-- ---- a difference turned round has the same square
square-abs : (x : Float) → square x ≡ square (abs_of x)
unfolding mul abs_of
square-abs nan = refl
square-abs (inf true) = refl
square-abs (inf false) = refl
square-abs (fin true m e) = refl
square-abs (fin false m e) = refl

-- the magnitude of a sum: that of both together, or of one less the other
abs_sum : (s t : Bool) (a b c : ℕ) → abs_of (sum binary64 s a t b c) ≡ round binary64 false (cond (beq s t) (a + b) (a - b + (b - a))) c
unfolding sum
abs_sum s t a b c = go (beq s t) (ltb a b) refl
  where
    go : (x y : Bool) → ltb a b ≡ y
        → abs_of (cond x (round binary64 s (a + b) c) (cond y (round binary64 t (b - a) c) (round binary64 (s && ltb b a) (a - b) c)))
        ≡ round binary64 false (cond x (a + b) (a - b + (b - a))) c
    go true y l = abs_round s (a + b) c
    go false true l = let o : a - b + (b - a) ≡ b - a = omega (arith, ltb-true a b l) in rw o (abs_round t (b - a) c)
    go false false l = let o : a - b + (b - a) ≡ a - b = omega (arith, ltb-false a b l) in rw o (abs_round (s && ltb b a) (a - b) c)

signs : (s t : Bool) → beq s (not t) ≡ beq t (not s)
signs true true = refl
signs true false = refl
signs false true = refl
signs false false = refl

sum-turned : (s t : Bool) (a b c : ℕ) → abs_of (sum binary64 s a (not t) b c) ≡ abs_of (sum binary64 t b (not s) a c)
sum-turned s t a b c =
    let f : a + b ≡ b + a = omega arith in
    let g : a - b + (b - a) ≡ b - a + (a - b) = omega arith in
    rw (abs_sum s (not t) a b c, abs_sum t (not s) b a c, signs s t, f, g)

abs_turned : (x y : Float) → abs_of (sub binary64 x y) ≡ abs_of (sub binary64 y x)
unfolding sub add neg abs_of
abs_turned nan nan = refl
abs_turned nan (inf t) = refl
abs_turned nan (fin t n d) = refl
abs_turned (inf s) nan = refl
abs_turned (inf true) (inf true) = refl
abs_turned (inf true) (inf false) = refl
abs_turned (inf false) (inf true) = refl
abs_turned (inf false) (inf false) = refl
abs_turned (inf s) (fin t n d) = refl
abs_turned (fin s m e) nan = refl
abs_turned (fin s m e) (inf t) = refl
abs_turned (fin s m e) (fin t n d) = rw (mul_comm (down e) (down d)) (sum-turned s t (m * up e * down d) (n * up d * down e) (down d * down e))

square-turned : (x y : Float) → square (sub binary64 x y) ≡ square (sub binary64 y x)
square-turned x y = square-abs (sub binary64 x y) ∙ ap square (abs_turned x y) ∙ sym (square-abs (sub binary64 y x))

near-turned : (p v : Vector) → near p v ≡ near v p
unfolding near
near-turned p v = rw (square-turned p.x v.x, square-turned p.y v.y, square-turned p.z v.z)

beside-turned : {x w : ℕ} → Beside x w → Beside w x
beside-turned b = record { low = b.high; high = b.low }

pub meets_turned : {p v : Vector} → Meets p v → Meets v p
meets_turned {p} {v} m = record { close = near-turned v p ∙ m.close; x = beside-turned m.x; y = beside-turned m.y; z = beside-turned m.z }

-- ---- a point within the limit is near itself: its distance is a zero
zero_below : {d : Float} → Within 0 d → lt d limit ≡ true
unfolding lt
zero_below (within s m e h) = go s
  where
    go : (s : Bool) → below s (m * up e * 2 ^ 92) false (4951760157141521 * 1 * down e) ≡ true
    go true = lt-ltb 0 (m * up e * 2 ^ 92 + 4951760157141521 * 1 * down e) (omega (arith, down_pos e))
    go false = lt-ltb (m * up e * 2 ^ 92) (4951760157141521 * 1 * down e) (omega (arith, down_pos e))

most-within : Within 1048576 most_coordinate
unfolding of_bits
most-within = within _ _ _ (lit≤ tt)

own_square : (x : Float) → coordinate_good x ≡ true → Within 0 (square (sub binary64 x x))
own_square x h = let d = own_sub (under x most-within (subst T (sym h) tt)) in mul-within none d d

near-own : (p : Vector) → coordinate_good p.x ≡ true → coordinate_good p.y ≡ true → coordinate_good p.z ≡ true → near p p ≡ true
unfolding near
near-own p x y z =
    subst (λ (m : Float). lt (distance_squared_of p p) m ≡ true) (sym limit_is)
    (zero_below (add-within none (add-within none (own_square p.x x) (own_square p.y y)) (own_square p.z z)))

beside-own : (n : ℕ) → Beside n n
beside-own n = record { low = omega arith; high = omega arith }

pub meets_own : (p : Vector) → coordinate_good p.x ≡ true → coordinate_good p.y ≡ true → coordinate_good p.z ≡ true → Meets p p
meets_own p x y z = record { close = near-own p x y z; x = beside-own (key p.x); y = beside-own (key p.y); z = beside-own (key p.z) }
