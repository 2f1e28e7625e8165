-- What a list of strokes is: a list of elements, read by place, and a table with the place of each stroke's first element.
use Rattle.std.specs.Prelude.{Bool, true, ◌&&◌, List, [], ◌∷◌, ℕ, zero, suc, ◌+◌, ◌-◌, ◌*◌, length, get_or, leb, eqb, Float}
use Rattle.std.specs.Float.{nan}
use Rattle.vector.specs.declared.Vector.{Vector}

-- each start is at least the one before it and at most n
unfoldable pub good_from : ℕ → ℕ → List ℕ → Bool
good_from n prev [] = true
good_from n prev (s ∷ ss) = leb prev s && leb s n && good_from n s ss

-- a table for n elements: the first start is 0, none falls, none passes n; no strokes only where there is no element
unfoldable pub good_starts : ℕ → List ℕ → Bool
good_starts n [] = eqb n 0
good_starts n (s ∷ ss) = eqb s 0 && good_from n s ss

module _ {A : Type 0} (at : ℕ → A) where
  -- the n elements from place a on
  unfoldable pub gather : ℕ → ℕ → List A
  gather a zero = []
  gather a (suc n) = at a ∷ gather (a + 1) n

  -- the strokes of n elements: each runs to the next start, the last to the end
  unfoldable pub strokes_of : ℕ → List ℕ → List (List A)
  strokes_of n [] = []
  strokes_of n (s ∷ ss) = gather s (get_or ss 0 n - s) ∷ strokes_of n ss

-- points lie as three numbers each: the point at place i
unfoldable pub point_at : List Float → ℕ → Vector
point_at ps i = record { x = get_or ps (i * 3) nan; y = get_or ps (i * 3 + 1) nan; z = get_or ps (i * 3 + 2) nan }

-- vertex numbers lie as they are: the number at place i
abbrev pub number_at : List ℕ → ℕ → ℕ
number_at ns i = get_or ns i 0

-- the strokes of a list of vertex numbers and a table of starts
abbrev pub strokes_in : List ℕ → List ℕ → List (List ℕ)
strokes_in ns ss = strokes_of (number_at ns) (length ns) ss
