-- What each contract permits is one outcome.
use mathlib.Core.Path.{◌≡◌}
use mathlib.Core.Bool.{Bool}
use mathlib.Core.List.{List, [], ◌∷◌}
use Prim.Native.Nat.{ℕ}
use lib.Seq.{sets}
use Rattle.refusal.specs.One.{One}
use Rattle.refusal.proofs.Unique.{one_answer}
use Rattle.vector.specs.declared.Vector.{Vector}
use Rattle.path.specs.Laid.{flat}
use Rattle.stl.specs.Files.{size_of, faces_in, is_stl, corner_in, corner_good, face_of, head_of}

pub one-faces_in : (bs : List ℕ) → One ℕ (λ r. r ≡ faces_in bs)
one-faces_in bs = one_answer (faces_in bs)

pub one-is_stl : (bs : List ℕ) → One Bool (λ r. r ≡ is_stl bs)
one-is_stl bs = one_answer (is_stl bs)

pub one-corner_in : (bs : List ℕ) (i : ℕ) → One Vector (λ r. r ≡ corner_in bs i)
one-corner_in bs i = one_answer (corner_in bs i)

pub one-corner_good : (bs : List ℕ) (i : ℕ) → One Bool (λ r. r ≡ corner_good bs i)
one-corner_good bs i = one_answer (corner_good bs i)

pub one-put_head : (l : List ℕ) (n : ℕ) → One (List ℕ) (λ r. r ≡ sets l 0 (head_of n))
one-put_head l n = one_answer (sets l 0 (head_of n))

pub one-put_face : (l : List ℕ) (f : ℕ) (a b c : Vector) → One (List ℕ) (λ r. r ≡ sets l (size_of f) (face_of (flat (a ∷ b ∷ c ∷ []))))
one-put_face l f a b c = one_answer (sets l (size_of f) (face_of (flat (a ∷ b ∷ c ∷ []))))
