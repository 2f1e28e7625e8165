-- Lists of rising numbers, and the sides in the order of their pairs.
use mathlib.Core.Path.{◌≡◌, refl, ap, ◌∙◌}
use mathlib.Core.Logic.{inl, inr}
use mathlib.Core.List.{List, [], ◌∷◌, ◌++◌, map}
use Prim.Native.Nat.{ℕ, zero, suc, ◌+◌, ◌<◌, ◌≤◌}
use native.Mathlib.Omega.{arith}
use native.Mathlib.Numerals.{add-one}
use lib.ListN.{length, get_or, length-map}
use Rattle.order.specs.Order.{order}
use Rattle.order.proofs.Sorted.{In, in_at, Rising, Sorted, order-length, in_order, order-sorted, order-agree}
use Rattle.mesh_edges.specs.Edges.{up_from, pair_of, sides_of}

pub up_length : (a n : ℕ) → length (up_from a n) ≡ n
unfolding up_from
up_length a zero = refl
up_length a (suc n) = ap suc (up_length (a + 1) n)

up_bound : (a n y : ℕ) → In y (up_from a n) → (a ≤ y) × (y < a + n)
unfolding up_from
up_bound a zero y h = absurd h
up_bound a (suc n) y (inl e) = (omega arith, omega arith)
up_bound a (suc n) y (inr h) = let r = up_bound (a + 1) n y h in (omega arith, omega arith)

up_rising : (a n : ℕ) → Rising (up_from a n)
unfolding up_from
up_rising a zero = tt
up_rising a (suc n) = ((λ y h. omega (arith, up_bound (a + 1) n y h)), up_rising (a + 1) n)

up_snoc : (a n : ℕ) → up_from a (suc n) ≡ up_from a n ++ ((a + n) ∷ [])
unfolding up_from
up_snoc a zero = let e : a + 0 ≡ a = omega arith in rw e
up_snoc a (suc n) = let e : a + suc n ≡ a + 1 + n = omega arith in rw e (ap (λ (l : List ℕ). a ∷ l) (up_snoc (a + 1) n))

pub up_more : (n : ℕ) → up_from 0 (n + 1) ≡ up_from 0 n ++ (n ∷ [])
up_more n = let e : 0 + n ≡ n = omega arith in ap (up_from 0) (add-one n) ∙ up_snoc 0 n ∙ ap (λ (k : ℕ). up_from 0 n ++ (k ∷ [])) e

map_snoc : (f : ℕ → ℕ) (l : List ℕ) (x : ℕ) → map f (l ++ (x ∷ [])) ≡ map f l ++ (f x ∷ [])
map_snoc f [] x = refl
map_snoc f (y ∷ l) x = ap (λ (r : List ℕ). f y ∷ r) (map_snoc f l x)

pub map_more : (f : ℕ → ℕ) (n : ℕ) → map f (up_from 0 (n + 1)) ≡ map f (up_from 0 n) ++ (f n ∷ [])
map_more f n = ap (map f) (up_more n) ∙ map_snoc f (up_from 0 n) n

pub map-length : (f : ℕ → ℕ) (n : ℕ) → length (map f (up_from 0 n)) ≡ n
map-length f n = length-map (up_from 0 n) f ∙ up_length 0 n

map_get : (f : ℕ → ℕ) (a n k : ℕ) → k < n → get_or (map f (up_from a n)) k 0 ≡ f (a + k)
unfolding up_from
map_get f a zero k h = absurd (omega arith)
map_get f a (suc n) zero h = let e : a + 0 ≡ a = omega arith in rw e
map_get f a (suc n) (suc k) h = let e : a + suc k ≡ a + 1 + k = omega arith in rw e (map_get f (a + 1) n k (omega arith))

pub map_at : (f : ℕ → ℕ) (n k : ℕ) → k < n → get_or (map f (up_from 0 n)) k 0 ≡ f k
map_at f n k h = let e : 0 + k ≡ k = omega arith in map_get f 0 n k h ∙ ap f e

pub up_agree : (k l : ℕ → ℕ) (n : ℕ) → ((y : ℕ) → y < n → k y ≡ l y) → order k (up_from 0 n) ≡ order l (up_from 0 n)
up_agree k l n h = order-agree k l (up_from 0 n) (λ y i. h y (omega (arith, up_bound 0 n y i)))

-- the sides: as many as there are indices, all different, by their pairs
pub sides_length : (is : List ℕ) → length (sides_of is) ≡ length is
unfolding sides_of
sides_length is = order-length (pair_of is) (up_from 0 (length is)) ∙ up_length 0 (length is)

pub sides_below : (is : List ℕ) (y : ℕ) → In y (sides_of is) → y < length is
unfolding sides_of
sides_below is y i = omega (arith, up_bound 0 (length is) y (in_order (pair_of is) (up_from 0 (length is)) y i))

pub side-below : (is : List ℕ) (p : ℕ) → p < length is → get_or (sides_of is) p 0 < length is
side-below is p h = sides_below is (get_or (sides_of is) p 0) (in_at (sides_of is) p (omega (arith, sides_length is)))

pub sides_sorted : (is : List ℕ) → Sorted (pair_of is) (sides_of is)
unfolding sides_of
sides_sorted is = order-sorted (pair_of is) (up_from 0 (length is)) (up_rising 0 (length is))
