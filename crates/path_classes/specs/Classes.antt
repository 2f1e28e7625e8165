-- Points told apart by their numbers: each point has the number of the first that is the same.
use Rattle.std.specs.Prelude.{ℕ, zero, suc, ◌+◌, ◌*◌, Bool, true, false, cond, ◌&&◌, List, ◌++◌, length, replicate, ℤ, pos, negsuc, ◌==◌, nat_le, Float}
use Rattle.std.specs.Bool.{beq}
use Rattle.std.specs.Float.{nan, inf, fin}
use Rattle.refusal.specs.Limits.{most_strokes}
use Rattle.vector.specs.declared.Vector.{Vector}
use Rattle.order.specs.Regions.{put}
use Rattle.path.specs.Strokes.{gather, point_at}

-- ---- when two points are the same

unfoldable pub same_exponent : ℤ → ℤ → Bool
same_exponent (pos a) (pos b) = a == b
same_exponent (pos a) (negsuc b) = false
same_exponent (negsuc a) (pos b) = false
same_exponent (negsuc a) (negsuc b) = a == b

-- two numbers: of one sign and one value; a NaN is the same as a NaN, and -0 is not 0
unfoldable pub same_number : Float → Float → Bool
same_number nan nan = true
same_number nan (inf t) = false
same_number nan (fin t n d) = false
same_number (inf s) nan = false
same_number (inf s) (inf t) = beq s t
same_number (inf s) (fin t n d) = false
same_number (fin s m e) nan = false
same_number (fin s m e) (inf t) = false
same_number (fin s m e) (fin t n d) = beq s t && m == n && same_exponent e d

unfoldable pub same_point : Vector → Vector → Bool
same_point a b = same_number a.x b.x && same_number a.y b.y && same_number a.z b.z

-- ---- the first that is the same

module _ {A : Type 0} (same : A → A → Bool) (at : ℕ → A) where
  -- the first of the n elements from k on that is the same as x; k + n where there is none
  unfoldable pub first_from : A → ℕ → ℕ → ℕ
  first_from x k zero = k
  first_from x k (suc n) = let r = first_from x (k + 1) n in cond (same x (at k)) k r

  -- the first that is the same as element e, which is e where none before it is
  unfoldable pub class_of : ℕ → ℕ
  class_of e = first_from (at e) 0 e

-- ---- what is left in scratch

-- words of scratch a point
abbrev pub words_a_point : ℕ
words_a_point = 6

-- the class of each of the m points of a list, then zeros; nothing is changed where there are too many points, or too few words
unfoldable pub numbered : List Float → ℕ → List ℕ → List ℕ
numbered ps m s =
    let t = put s 0 (gather (class_of same_point (point_at ps)) 0 m ++ replicate (5 * m) 0) in
    cond (nat_le m (2 * most_strokes) && nat_le (words_a_point * m) (length s)) t s
