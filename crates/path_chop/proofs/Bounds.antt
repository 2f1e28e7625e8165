-- No span takes more steps than a longer one: what bounds a count of points without a root for each span.
use mathlib.Core.Path.{◌≡◌, refl, sym, ap, ◌∙◌, subst}
use mathlib.Core.Bool.{Bool, true, false, not, cond, ◌&&◌}
use mathlib.Core.List.{List, [], ◌∷◌}
use mathlib.Core.Logic.{⊎_elim}
use Prim.Native.Nat.{ℕ, zero, suc, zero-le, ◌+◌, ◌-◌, ◌*◌, ◌/◌, ◌≤◌, ◌<◌}
use native.Mathlib.Nat.{le_trans, le_refl, mul-le-mul_left, mul-le-mul_right, div-add-mod'}
use native.Mathlib.Omega.{arith}
use borrow.Author.Tests.{le-leb, lt-leb}
use lib.Dec.{T, leb, leb→le}
use lib.ListN.{length}
use lib.Ieee.{Float, binary64, fits, of_bits, add, lt, is_nan}
use lib.Ieee.Bits.{is_false}
use lib.Ieee.Fits.{and_l, and_r, add-fits}
use Rattle.refusal.specs.Limits.{most_points}
use Rattle.vector.specs.declared.Vector.{Vector}
use Rattle.vector.specs.Vectors.{sub_of, length_squared_of}
use Rattle.vector.specs.Root.{root_of}
use Rattle.vector.specs.Lengths.{zero64}
use Rattle.vector.proofs.RootLaws.{rooted, root_some, root_through}
use Rattle.vector.proofs.Order.{lt-one_way}
use Rattle.path.specs.Strokes.{gather}
use Rattle.path.specs.Laid.{joined, non_empty}
use Rattle.path_chop.specs.Chop.{too_many, steps_of, spans}
use Rattle.path_chop.specs.InnerCounts.{capped}
use Rattle.path_chop.specs.Call.{room_for}
use Rattle.path_chop.proofs.Counts.{spans-count, cap_cap, cap_under, cap_over, cap_most, cap_small}
use Rattle.path.proofs.Tests.{split}
use Rattle.path_chop.proofs.Chops.{steps_within, spans-none}

-- how many steps lie within a span whose squared length is s
abbrev pub reach : Float → Float → ℕ
reach s step = length (steps_of too_many (rooted s) step step)

steps_most : (n : ℕ) (l m step d : Float) → ((x : Float) → T (lt x l) → T (lt x m)) → length (steps_of n l step d) ≤ length (steps_of n m step d)
unfolding steps_of
steps_most zero l m step d h = zero-le
steps_most (suc n) l m step d h = go (lt d l) (lt d m) (h d) (steps_most n l m step (add binary64 d step) h)
  where
    go : (x y : Bool) → (T x → T y) → length (steps_of n l step (add binary64 d step)) ≤ length (steps_of n m step (add binary64 d step))
        → length (cond x (d ∷ steps_of n l step (add binary64 d step)) []) ≤ length (cond y (d ∷ steps_of n m step (add binary64 d step)) [])
    go false y f r = zero-le
    go true true f r = omega arith
    go true false f r = absurd (f tt)

-- a number that has a root
abbrev pub HasRoot : Float → Type 0
HasRoot m = T (fits binary64 m) × T (not (is_nan (rooted m)))

-- the larger of two reaches as far as either
pub record Reaches (m s w : Float) : Type 0 where
  pub has_root : HasRoot w
  pub first : (step : Float) → reach m step ≤ reach w step
  pub second : (step : Float) → reach s step ≤ reach w step

pub larger_reaches : (m s w : Float) → HasRoot m → T (fits binary64 s) → w ≡ cond (lt m s) s m → Reaches m s w
larger_reaches m s w h k e = subst (λ (z : Float). Reaches m s z) (sym e) (go (lt m s) refl)
  where
    go : (b : Bool) → lt m s ≡ b → Reaches m s (cond b s m)
    go true p =
        let l : T (lt m s) = subst T (sym p) tt in
        let r = root_some m s k h.1 l in
        record {
          has_root = (k, r);
          first = λ step. steps_most too_many (rooted m) (rooted s) step step (λ x. root_through m s x h.0 k (is_false (lt s m) (lt-one_way m s l)) r);
          second = λ step. le_refl (reach s step);
        }
    go false p =
        record {
          has_root = h;
          first = λ step. le_refl (reach m step);
          second = λ step. steps_most too_many (rooted s) (rooted m) step step (λ x. root_through s m x k h.0 p h.1);
        }

-- 0 reaches nowhere
pub zero_root : HasRoot zero64
unfolding of_bits fits root_of is_nan
zero_root = (tt, tt)

pub longest_start : (i n x : ℕ) → n ≤ (i - i) * x + n
longest_start i n x = omega arith

-- a turn of the loop that looks for the longest span, from place j on
pub longest_turn : (step : Float) (at : ℕ → Vector) (i j e all : ℕ) (p q v : Vector) (m s w : Float) → i ≤ j → j < e → q ≡ at j → v ≡ sub_of q p → s ≡ length_squared_of v → Reaches m s w
    → all ≤ (j - i) * (reach m step + 1) + length (spans too_many step p (gather at j (e - j)))
    → all ≤ (j + 1 - i) * (reach w step + 1) + length (spans too_many step q (gather at (j + 1) (e - (j + 1))))
longest_turn step at i j e all p q v m s w h l f g k r a =
    let n = spans-count step at j e p l q f v g (rooted s) (ap rooted k) in
    let d : j + 1 - i ≡ suc (j - i) = omega arith in
    let x = mul-le-mul_left (j - i) (grow (r.first step)) in
    rw d (omega (arith, x, r.second step))
  where
    grow : {x y : ℕ} → x ≤ y → x + 1 ≤ y + 1
    grow z = omega arith

pub squared_fits : (v : Vector) (s : Float) → s ≡ length_squared_of v → T (fits binary64 s)
squared_fits v s e = subst (λ (z : Float). T (fits binary64 z)) (sym e) (add-fits binary64 _ _)

-- at the end of it
pub longest_end : (step : Float) (at : ℕ → Vector) (i j e all : ℕ) (p : Vector) (m : Float) → e ≤ j → j - i ≤ e - i
    → all ≤ (j - i) * (reach m step + 1) + length (spans too_many step p (gather at j (e - j))) → all ≤ (e - i) * (reach m step + 1)
longest_end step at i j e all p m l h a =
    let z = ap length (spans-none step at j e p l) in
    omega (arith, mul-le-mul_right (reach m step + 1) h)

-- ---- bounds that are cut off

pub cap_mono : (a b : ℕ) → a ≤ b → capped a ≤ capped b
cap_mono a b h = ⊎_elim (λ l. omega (arith, cap_under b l, cap_under a (omega arith))) (λ l. omega (arith, cap_over b (omega arith), cap_most a)) (split b too_many)

-- a product that a division allows
pub product : (k n : ℕ) → k ≤ too_many / n → k * n ≤ too_many
product k n h = le_trans (mul-le-mul_right n h) (omega (arith, div-add-mod' too_many n))

-- a stroke of k spans, of which the longest has the steps counted, up to the most that may follow
pub stroke_bound : (before k n all sum : ℕ) (l step : Float) → before ≤ too_many → 1 ≤ k → all ≡ sum + 1 → sum ≤ k * (length (steps_of too_many l step step) + 1)
    → n ≡ length (steps_of (too_many - before) l step step) → capped (before + all) ≤ capped (before + 1 + k * (n + 1))
stroke_bound before k n all sum l step b p e h f =
    ⊎_elim (λ (t : steps_of too_many l step step ≡ steps_of (too_many - before) l step step). cap_mono (before + all) (before + 1 + k * (n + 1)) (let m : n ≡ length (steps_of too_many l step step) = f ∙ ap length (sym t) in rw m (omega arith)))
    (λ t. let m : 1 * (n + 1) ≤ k * (n + 1) = mul-le-mul_right (n + 1) p in omega (arith, cap_most (before + all), cap_over (before + 1 + k * (n + 1)) (omega arith)))
    (steps_within before l step b)

-- a turn of the loop over the strokes
pub bound_turn : (n m s j all most : ℕ) → capped (n + s) ≤ m → all ≡ s + j → most ≤ capped (n + all) → most ≤ capped (m + j)
bound_turn n m s j all most h e l =
    let k : n + all ≡ n + s + j = omega arith in
    le_trans l (subst (λ (x : ℕ). x ≤ capped (m + j)) (cap_cap (n + s) j ∙ ap capped (sym k)) (cap_mono (capped (n + s) + j) (m + j) (omega arith)))

-- ---- what a bound and a count say of the room

-- points that a bound has room for
bound_enough : (n b room : ℕ) → capped n ≤ b → leb b most_points && leb (b * 3) room ≡ true → leb n most_points && leb (n * 3) room ≡ true
bound_enough n b room h e =
    let t = subst T (sym e) tt in
    let m = leb→le b most_points (and_l (leb b most_points) (leb (b * 3) room) t) in
    let r = leb→le (b * 3) room (and_r (leb b most_points) (leb (b * 3) room) t) in
    let k = cap_small n (capped n) refl (le_trans h m) in
    simp (le-leb n most_points (omega arith), le-leb (n * 3) room (omega arith))

-- and those that are counted
count-enough : (n c room : ℕ) → c ≡ capped n → leb c most_points && leb (c * 3) room ≡ leb n most_points && leb (n * 3) room
count-enough n c room e =
    ⊎_elim (λ l. ap (λ (x : ℕ). leb x most_points && leb (x * 3) room) (e ∙ cap_under n l))
    (λ l. let k = cap_over n (omega arith) in simp (lt-leb c most_points (omega arith), lt-leb n most_points (omega arith)))
    (split n too_many)

third_fails : (x y : Bool) → false ≡ x && y && false
third_fails true true = refl
third_fails true false = refl
third_fails false y = refl

third_holds : (x y : Bool) → x && y ≡ x && y && true
third_holds true true = refl
third_holds true false = refl
third_holds false y = refl

-- the three tests of `room_for`, where `kept` starts would be written
module _ (ss : List (List Vector)) (room start_room kept : ℕ) (k : kept ≡ length (non_empty ss)) where
  pub starts_short : start_room < kept → false ≡ room_for ss room start_room
  unfolding room_for
  starts_short h = rw (lt-leb (length (non_empty ss)) start_room (omega arith)) (third_fails (leb (length (joined ss)) most_points) (leb (length (joined ss) * 3) room))

  starts_fit : kept ≤ start_room → leb (length (joined ss)) most_points && leb (length (joined ss) * 3) room ≡ room_for ss room start_room
  unfolding room_for
  starts_fit h = rw (le-leb (length (non_empty ss)) start_room (omega arith)) (third_holds (leb (length (joined ss)) most_points) (leb (length (joined ss) * 3) room))

  pub by_bound : kept ≤ start_room → (b : ℕ) → capped (length (joined ss)) ≤ b → leb b most_points && leb (b * 3) room ≡ true → true ≡ room_for ss room start_room
  by_bound h b l e = sym (bound_enough (length (joined ss)) b room l e) ∙ starts_fit h

  pub by_count : kept ≤ start_room → (c : ℕ) → c ≡ capped (length (joined ss)) → leb c most_points && leb (c * 3) room ≡ room_for ss room start_room
  by_count h c e = count-enough (length (joined ss)) c room e ∙ starts_fit h
