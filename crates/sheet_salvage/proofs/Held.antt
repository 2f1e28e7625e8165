-- How many points are taken.
use mathlib.Core.Path.{◌≡◌, refl, ◌∙◌}
use mathlib.Core.Bool.{Bool, true, false, cond}
use mathlib.Core.List.{List}
use Prim.Native.Nat.{ℕ, ◌-◌, ◌/◌, ◌≤◌}
use native.Mathlib.Omega.{arith}
use lib.ListN.{length}
use lib.Dec.{leb}
use borrow.Author.Tests.{leb-true, leb-false}
use Rattle.refusal.specs.Limits.{most_points}
use Rattle.sheet.specs.Sheets.{numbers_from, stroke_count, point_count}
use Rattle.sheet_salvage.specs.Salvage.{lesser, taken_count}

pub lesser-second : (x y : ℕ) → y ≤ x → lesser x y ≡ y
lesser-second x y h = go (leb x y) refl
  where
    go : (b : Bool) → leb x y ≡ b → cond b x y ≡ y
    go true e = let l = leb-true x y e in omega arith
    go false e = refl

pub lesser-few : (x y : ℕ) → (lesser x y ≤ x) × (lesser x y ≤ y)
lesser-few x y = go (leb x y) refl
  where
    go : (b : Bool) → leb x y ≡ b → (cond b x y ≤ x) × (cond b x y ≤ y)
    go true e = let l = leb-true x y e in (omega arith, omega arith)
    go false e = let l = leb-false x y e in (omega arith, omega arith)

-- within what the bytes hold behind the stated starts, and the limit
pub taken_few : (bs : List ℕ) → (taken_count bs ≤ length bs / 4 - numbers_from (stroke_count bs)) × (taken_count bs ≤ most_points)
unfolding taken_count
taken_few bs =
    let h = length bs / 4 - numbers_from (stroke_count bs) in
    let a = lesser-few (point_count bs) (lesser h most_points) in
    let b = lesser-few h most_points in
    (omega arith, omega arith)

-- by the words that the code has read
module _ (bs : List ℕ) (k : ℕ) (e : k ≡ numbers_from (stroke_count bs)) where
  pub none-taken : length bs / 4 ≤ k → 0 ≡ taken_count bs
  none-taken h = let f = taken_few bs in omega arith

  pub some_taken : (p q r : ℕ) → p ≡ point_count bs → q ≡ lesser (length bs / 4 - k) most_points → r ≡ lesser p q → (r ≡ taken_count bs) × (r ≤ most_points)
  unfolding taken_count
  some_taken p q r ep eq er =
      let s : r ≡ taken_count bs = er ∙ rw (ep, eq, e) in
      let f = taken_few bs in
      (s, omega arith)
