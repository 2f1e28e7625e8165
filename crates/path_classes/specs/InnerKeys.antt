-- The keys by which points are put into an order in which those that are the same stand together.
use Rattle.std.specs.Prelude.{◌≡◌, ℕ, zero, suc, ◌+◌, ◌*◌, ◌/◌, ◌%◌, ◌^◌, ◌<◌, ◌≤◌, true, cond, ◌⊎◌, List, length, ◌==◌, from_bits, slice_index, to_bits, Float}
use Rattle.std.specs.Float.{binary64}
use Rattle.vector.specs.declared.Vector.{Vector}
use Rattle.order.specs.Regions.{region}
use Rattle.order.specs.Order.{order}
use Rattle.path.specs.Strokes.{gather, point_at}
use Rattle.path_classes.specs.Classes.{same_point}

-- ---- patterns

-- a number whose pattern has 64 digits and gives it back
pub record Held (x : Float) : Type 0 where
  pub small : to_bits binary64 x < 2 ^ 64
  pub back : from_bits binary64 (to_bits binary64 x) ≡ x

pub record HeldPoint (v : Vector) : Type 0 where
  pub first : Held v.x
  pub second : Held v.y
  pub third : Held v.z

-- a pattern's halves, each times a number of its own, modulo 2^64
abbrev pub spread_of : ℕ → ℕ → ℕ → ℕ
spread_of b low high = (b % 2 ^ 32 * low + b / 2 ^ 32 * high) % 2 ^ 64

-- a number of 54 digits that points which are the same have in common, and others seldom
unfoldable pub mix_of : Vector → ℕ
mix_of v =
    ((spread_of (to_bits binary64 v.x) 0x9e37_79b1 0x85eb_ca77 + spread_of (to_bits binary64 v.y) 0xc2b2_ae3d 0x27d4_eb2f) % 2 ^ 64
    + spread_of (to_bits binary64 v.z) 0x1656_67b1 0xd3a2_646d) % 2 ^ 64 / 2 ^ 10

-- the three numbers of a point
abbrev pub coordinate_of : Vector → ℕ → Float
coordinate_of v k = cond (k == 0) v.x (cond (k == 1) v.y v.z)

-- the six halves of a point's patterns
unfoldable pub word_of : Vector → ℕ → ℕ
word_of v j = let b = to_bits binary64 (coordinate_of v (j / 2)) in cond (j % 2 == 0) (b % 2 ^ 32) (b / 2 ^ 32 % 2 ^ 32)

-- ---- the orders

-- 0, 1, .. (m of them)
abbrev pub up_to : ℕ → List ℕ
up_to m = gather (λ i. i) 0 m

-- the points by their mixes
abbrev pub mix_order : List Float → ℕ → ℕ
mix_order ps e = mix_of (point_at ps e)

-- the first j words of a point as one number, the last one the major one
unfoldable pub word_order : List Float → ℕ → ℕ → ℕ
word_order ps zero e = 0
word_order ps (suc j) e = word_of (point_at ps e) j * 2 ^ (32 * j) + word_order ps j e

-- a list of the numbers below m in which those of points that are the same stand together, the lower before the higher
pub record Together (ps : List Float) (m : ℕ) (l : List ℕ) : Type 0 where
  pub size : length l ≡ m
  pub each : (x : ℕ) → x < m → slice_index l x < m
  pub all : (e : ℕ) → e < m → (x : ℕ) × (x < m) × (slice_index l x ≡ e)
  pub rise : (x y : ℕ) → x < y → y < m → same_point (point_at ps (slice_index l x)) (point_at ps (slice_index l y)) ≡ true → slice_index l x < slice_index l y
  pub between : (x y z : ℕ) → x < y → y < z → z < m → same_point (point_at ps (slice_index l x)) (point_at ps (slice_index l z)) ≡ true
      → same_point (point_at ps (slice_index l x)) (point_at ps (slice_index l y)) ≡ true

-- ---- what the steps leave in scratch

-- the list t is s but for the words from a up to e
pub record Aside (s t : List ℕ) (a e : ℕ) : Type 0 where
  pub size : length t ≡ length s
  pub rest : (j : ℕ) → (j < a) ⊎ (e ≤ j) → slice_index t j ≡ slice_index s j

-- the word of each number below m, from a on, is f of it
abbrev pub Stored : (ℕ → ℕ) → List ℕ → ℕ → ℕ → Type 0
Stored f t a m = (e : ℕ) → e < m → slice_index t (a + e) ≡ f e

-- the words m up to 6 m alone are changed, and the first m of these are the numbers below m in the order of a key
pub record Ordered (s t : List ℕ) (m : ℕ) (key : ℕ → ℕ) : Type 0 where
  pub aside : Aside s t m (6 * m)
  pub line : region t m m ≡ order key (up_to m)

-- the three keys of the mixes of the first n points, of 18 digits each, the last one the major one
pub record Keys (ps : List Float) (s t : List ℕ) (m n : ℕ) : Type 0 where
  pub aside : Aside s t (3 * m) (6 * m)
  pub low : Stored (λ e. mix_order ps e % 2 ^ 18) t (3 * m) n
  pub middle : Stored (λ e. mix_order ps e / 2 ^ 18 % 2 ^ 18) t (4 * m) n
  pub high : Stored (λ e. mix_order ps e / 2 ^ 36) t (5 * m) n
  pub held : (e : ℕ) → e < n → HeldPoint (point_at ps e)

-- of the first n points in the order those next to each other that have one mix are the same
abbrev pub Apart : List Float → List ℕ → ℕ → ℕ → Type 0
Apart ps t m n = (x : ℕ) → x + 1 < n → mix_order ps (slice_index t (m + x)) ≡ mix_order ps (slice_index t (m + (x + 1)))
    → same_point (point_at ps (slice_index t (m + x))) (point_at ps (slice_index t (m + (x + 1)))) ≡ true
