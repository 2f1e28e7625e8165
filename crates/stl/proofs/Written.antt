-- Faces stored one after the other behind the head are the file.
use mathlib.Core.Path.{◌≡◌, refl, sym, ap, ◌∙◌}
use mathlib.Core.List.{List, ◌++◌}
use Prim.Native.Nat.{ℕ, suc, ◌+◌, ◌-◌, ◌*◌, ◌≤◌, ◌<◌}
use native.Mathlib.Omega.{arith}
use lib.ListN.{length, take, drop, length-append, length-take, length-drop}
use lib.Seq.{sets, drop-drop}
use lib.Ieee.{Float}
use Rattle.byte_words.specs.Bytes.{bytes_of}
use Rattle.stl.specs.Files.{face_numbers, size_of, zeros, face_of, faces_of, head_of, stl_of}
use Rattle.stl.proofs.Puts.{next}
use Rattle.stl.proofs.Back.{length-zeros, length-word, length-face, count-is}

-- the faces from the f-th on: the f-th, then those after it
faces_from_lem : (cs : List Float) (n f : ℕ) → f < n
    → face_of (take face_numbers (drop (face_numbers * f) cs)) ++ faces_of (n - (f + 1)) (drop (face_numbers * (f + 1)) cs) ≡ faces_of (n - f) (drop (face_numbers * f) cs)
unfolding faces_of
faces_from_lem cs n f h =
    let d = drop (9 * f) cs in
    let a : n - f ≡ suc (n - (f + 1)) = omega arith in
    let b : 9 * (f + 1) ≡ 9 * f + 9 = omega arith in
    let e : drop (9 * (f + 1)) cs ≡ drop 9 d = ap (λ (x : ℕ). drop x cs) b ∙ sym (drop-drop 9 (9 * f) cs) in
    ap (λ (l : List Float). face_of (take 9 d) ++ faces_of (n - (f + 1)) l) e ∙ ap (λ (x : ℕ). faces_of x d) (sym a)

-- a turn of a loop that stores face f, and the loop's end
pub face-turn : (cs : List Float) (n f : ℕ) → length cs ≡ face_numbers * n → f < n → (l m : List ℕ) → m ≡ sets l (size_of f) (face_of (take face_numbers (drop (face_numbers * f) cs)))
    → sets m (size_of (f + 1)) (faces_of (n - (f + 1)) (drop (face_numbers * (f + 1)) cs)) ≡ sets l (size_of f) (faces_of (n - f) (drop (face_numbers * f) cs))
face-turn cs n f count h l m e =
    let d = drop (9 * f) cs in
    let k : length (take 9 d) ≡ 9 = omega (arith, length-take 9 d, length-drop (9 * f) cs) in
    let p : size_of (f + 1) ≡ size_of f + length (face_of (take 9 d)) = omega (arith, length-face (take 9 d) k) in
    next l (size_of f) (face_of (take 9 d)) (faces_of (n - (f + 1)) (drop (9 * (f + 1)) cs)) e refl p
    ∙ ap (sets l (size_of f)) (faces_from_lem cs n f h)

pub face-end : (cs : List Float) (n f : ℕ) → n ≤ f → (l : List ℕ) (i : ℕ) → sets l i (faces_of (n - f) (drop (face_numbers * f) cs)) ≡ l
unfolding faces_of
face-end cs n f h l i = let a : n - f ≡ 0 = omega arith in ap (λ (x : ℕ). sets l i (faces_of x (drop (9 * f) cs))) a

-- the head, and all faces behind it
pub all_put : (cs : List Float) (n : ℕ) → length cs ≡ face_numbers * n → (l l₁ l₂ : List ℕ) → l₁ ≡ sets l 0 (head_of n) → l₂ ≡ sets l₁ (size_of 0) (faces_of n cs) → l₂ ≡ sets l 0 (stl_of cs)
unfolding head_of stl_of
all_put cs n count l l₁ l₂ e f =
    let s : size_of 0 ≡ 0 + length (head_of n) = omega (arith, length-append (zeros 80) (bytes_of n), length-zeros 80, length-word n) in
    next l 0 (head_of n) (faces_of n cs) e f s ∙ ap (λ (m : ℕ). sets l 0 (head_of m ++ faces_of m cs)) (sym (count-is cs n count))
