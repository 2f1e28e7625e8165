-- The 27 cells about one lie in eight coarse cells.
use Rattle.path.specs.Strokes.{point_at}
use mathlib.Core.Path.{◌≡◌, refl, sym}
use mathlib.Core.Bool.{Bool, true, false}
use mathlib.Core.List.{List, ◌∷◌}
use Prim.Native.Nat.{ℕ, ◌+◌, ◌-◌, ◌/◌, ◌<◌}
use native.Mathlib.Omega.{arith}
use native.Mathlib.Numerals.{lt_of_le_of_ne}
use lib.Dec.{eqb}
use lib.Ieee.{Float}
use borrow.Author.Tests.{eqb-true, eqb-false}
use Rattle.mesh_weld.specs.declared.Cube.{Cube}
use Rattle.mesh_weld.specs.InnerTable.{key, cube, cube_of, coarse_of, coarse_at, eight_from, Beside, About}

-- the first of two, or the other
data Either (l w : ℕ) : Type 0 where
  low : w ≡ l → Either l w
  high : w ≡ l + 1 → Either l w

either : (x w : ℕ) → 0 < x → Beside x w → Either ((x - 1) / 2) (w / 2)
either x w some b = go (eqb (w / 2) ((x - 1) / 2)) refl
  where
    go : (t : Bool) → eqb (w / 2) ((x - 1) / 2) ≡ t → Either ((x - 1) / 2) (w / 2)
    go true t = low (eqb-true _ _ t)
    go false t = high (let d : (x - 1) / 2 < w / 2 = lt_of_le_of_ne (omega (arith, b.low)) (λ e. eqb-false (w / 2) ((x - 1) / 2) t (sym e)) in omega (arith, b.high))

-- a coarse cell is one of a list
pub data Among (q : Cube) : List Cube → Type 0 where
  here : {home : Cube} {homes : List Cube} → q ≡ home → Among q (home ∷ homes)
  after : {home : Cube} {homes : List Cube} → Among q homes → Among q (home ∷ homes)

module _ (x y z a b c : ℕ) where
  same : {x' y' z' : ℕ} → a ≡ x' → b ≡ y' → c ≡ z' → cube a b c ≡ cube x' y' z'
  same e f g = rw (e, f, g) refl

  one_of : Either x a → Either y b → Either z c → Among (cube a b c) (eight_from x y z)
  one_of (low e) (low f) (low g) = here (same e f g)
  one_of (low e) (low f) (high g) = after (here (same e f g))
  one_of (low e) (high f) (low g) = after (after (here (same e f g)))
  one_of (low e) (high f) (high g) = after (after (after (here (same e f g))))
  one_of (high e) (low f) (low g) = after (after (after (after (here (same e f g)))))
  one_of (high e) (low f) (high g) = after (after (after (after (after (here (same e f g))))))
  one_of (high e) (high f) (low g) = after (after (after (after (after (after (here (same e f g)))))))
  one_of (high e) (high f) (high g) = after (after (after (after (after (after (after (here (same e f g))))))))

pub in_eight : (vs : List Float) (c : Cube) (i : ℕ) → 0 < c.x → 0 < c.y → 0 < c.z → About vs c i
    → Among (coarse_at vs i) (eight_from ((c.x - 1) / 2) ((c.y - 1) / 2) ((c.z - 1) / 2))
unfolding coarse_at coarse_of cube_of
in_eight vs c i sx sy sz h =
    let v = point_at vs i in
    one_of _ _ _ _ _ _ (either c.x (key v.x) sx h.x) (either c.y (key v.y) sy h.y) (either c.z (key v.z) sz h.z)
