-- Welding the corners of faces: which vertex each corner is.
use Rattle.std.specs.Prelude.{Bool, false, cond, ◌&&◌, List, [], ◌∷◌, ◌++◌, ℕ, zero, suc, ◌+◌, ◌/◌, length, get_or, eqb, ℤ, pos, negsuc, Float}
use Rattle.std.proofs.Math.IntN.{suc_ℤ, pred_ℤ}
use Rattle.std.specs.Float.{binary64}
use Rattle.std.specs.Float.Ieee.{mul, div, lt, of_bits}
use Rattle.vector.specs.declared.Vector.{Vector}
use Rattle.vector.specs.Vectors.{distance_squared_of}
use Rattle.vector.specs.Floor.{floor_of}
use Rattle.path.specs.Strokes.{point_at}
use Rattle.std.specs.Prelude.{Option, Some, None}

-- 1e-6
abbrev pub side : Float
side = of_bits binary64 0x3eb0_c6f7_a0b5_ed8d

-- the cell of a coordinate: the floor, which is refused of no coordinate that a call accepts
unfoldable pub cell : Float → ℤ
cell x = get_or (floor_of (div binary64 x side)).values 0 (pos 0)

unfoldable pub same : ℤ → ℤ → Bool
same (pos m) (pos n) = eqb m n
same (pos m) (negsuc n) = false
same (negsuc m) (pos n) = false
same (negsuc m) (negsuc n) = eqb m n

unfoldable pub in_cell : ℤ → ℤ → ℤ → Vector → Bool
in_cell a b c v = same (cell v.x) a && same (cell v.y) b && same (cell v.z) c

-- strictly nearer than 1e-6, by squares
unfoldable pub near : Vector → Vector → Bool
near p v = lt (distance_squared_of p v) (mul binary64 side side)

unfoldable pub or_else : Option ℕ → Option ℕ → Option ℕ
or_else (Some i) f = Some i
or_else None f = f

-- the lowest of the numbers below k that passes
unfoldable pub oldest : (ℕ → Bool) → ℕ → Option ℕ
oldest q zero = None
oldest q (suc k) = or_else (oldest q k) (cond (q k) (Some k) None)

-- the oldest of k vertices that is in a cell and near p
unfoldable pub find_in : List Float → ℕ → Vector → ℤ → ℤ → ℤ → Option ℕ
find_in vs k p a b c = oldest (λ i. in_cell a b c (point_at vs i) && near p (point_at vs i)) k

-- the first that is found below a cell, in it, above it
unfoldable pub three : (ℤ → Option ℕ) → ℤ → Option ℕ
three f z = or_else (f (pred_ℤ z)) (or_else (f z) (f (suc_ℤ z)))

-- the 27 cells about p
unfoldable pub find : List Float → ℕ → Vector → Option ℕ
find vs k p = three (λ a. three (λ b. three (λ c. find_in vs k p a b c) (cell p.z)) (cell p.y)) (cell p.x)

-- the vertices so far as a flat list, how many they are, and the numbers of the corners passed
pub record Merged : Type 0 where
  pub vertices : List Float
  pub count : ℕ
  pub indices : List ℕ

unfoldable pub join_as : Merged → Vector → Option ℕ → Merged
join_as w p (Some i) = record { vertices = w.vertices; count = w.count; indices = w.indices ++ i ∷ [] }
join_as w p None = record { vertices = w.vertices ++ p.x ∷ p.y ∷ p.z ∷ []; count = w.count + 1; indices = w.indices ++ w.count ∷ [] }

unfoldable pub join : Merged → Vector → Merged
join w p = join_as w p (find w.vertices w.count p)

-- what the first n corners give
unfoldable pub weld_to : List Float → ℕ → Merged
weld_to cs zero = record { vertices = []; count = 0; indices = [] }
weld_to cs (suc n) = join (weld_to cs n) (point_at cs n)

unfoldable pub weld_of : List Float → Merged
weld_of cs = weld_to cs (length cs / 3)
