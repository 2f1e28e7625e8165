-- The file of coordinates is a file, and what is read from it is what was written.
use mathlib.Core.Path.{◌≡◌, refl, sym, ap, ◌∙◌, subst}
use mathlib.Core.Bool.{true, not, ◌&&◌}
use mathlib.Core.List.{List, [], ◌∷◌, ◌++◌, map, append_assoc}
use Prim.Native.Nat.{ℕ, zero, suc, ◌+◌, ◌*◌, ◌/◌, ◌%◌, ◌^◌, ◌<◌}
use native.Mathlib.Omega.{arith}
use lib.ListN.{length, get_or, take, drop, length-append, length-take, length-drop, length-map, length-replicate}
use lib.Seq.{get_or-take, get_or-drop}
use lib.Dec.{T}
use lib.Ieee.{Float, nan, is_nan}
use borrow.Author.Tests.{eq-eqb}
use Rattle.byte_words.specs.Bytes.{bytes_of, bytes_all, word_from}
use Rattle.byte_words.proofs.Words.{length-bytes, word_first, word_after}
use Rattle.single.specs.Singles.{is_single, value_of, pattern_of}
use Rattle.single.proofs.Patterns.{value_of_pattern, pattern_lt}
use Rattle.path.specs.Strokes.{gather}
use Rattle.path.proofs.Tests.{both}
use Rattle.stl.specs.Files.{header_bytes, face_bytes, point_bytes, face_numbers, size_of, place_of, faces_in, is_stl, coordinate_in, coordinates_in, zeros, face_of, faces_of, head_of, stl_of, all_single}

-- ---- lengths

pub length-zeros : (n : ℕ) → length (zeros n) ≡ n
unfolding zeros
length-zeros n = length-replicate n 0

pub length-word : (w : ℕ) → length (bytes_of w) ≡ 4
unfolding bytes_of
length-word w = refl

pub length-face : (cs : List Float) → length cs ≡ face_numbers → length (face_of cs) ≡ face_bytes
unfolding face_of
length-face cs e =
    let b = bytes_all (map pattern_of cs) in
    omega (arith, length-append (zeros 12) (b ++ zeros 2), length-append b (zeros 2), length-zeros 12, length-zeros 2, length-bytes (map pattern_of cs), length-map cs pattern_of)

-- the coordinates of the first face, and of those after it
first-nine : (cs : List Float) (n : ℕ) → length cs ≡ face_numbers * suc n → length (take face_numbers cs) ≡ face_numbers
first-nine cs n e = omega (arith, length-take 9 cs)

others : (cs : List Float) (n : ℕ) → length cs ≡ face_numbers * suc n → length (drop face_numbers cs) ≡ face_numbers * n
others cs n e = omega (arith, length-drop 9 cs)

length-faces : (n : ℕ) (cs : List Float) → length cs ≡ face_numbers * n → length (faces_of n cs) ≡ face_bytes * n
unfolding faces_of
length-faces zero cs e = refl
length-faces (suc n) cs e =
    let a = face_of (take 9 cs) in
    let b = faces_of n (drop 9 cs) in
    omega (arith, length-append a b, length-face (take 9 cs) (first-nine cs n e), length-faces n (drop 9 cs) (others cs n e))

-- ---- a word of a face, of faces

-- the words of patterns stand one after the other
pattern_back : (cs : List Float) (rest : List ℕ) (r : ℕ) → r < length cs → word_from (bytes_all (map pattern_of cs) ++ rest) (4 * r) ≡ pattern_of (get_or cs r nan)
unfolding bytes_all
pattern_back [] rest r h = absurd (omega arith)
pattern_back (c ∷ cs) rest zero h = rw append_assoc (word_first (pattern_of c) (bytes_all (map pattern_of cs) ++ rest) (pattern_lt c))
pattern_back (c ∷ cs) rest (suc r) h =
    let e : 4 * suc r ≡ length (bytes_of (pattern_of c)) + 4 * r = omega (arith, length-word (pattern_of c)) in
    rw (append_assoc, e) (word_after (bytes_of (pattern_of c)) (bytes_all (map pattern_of cs) ++ rest) (4 * r) ∙ pattern_back cs rest r (omega arith))

face-back : (cs : List Float) (rest : List ℕ) (r : ℕ) → r < length cs → word_from (face_of cs ++ rest) (point_bytes + 4 * r) ≡ pattern_of (get_or cs r nan)
unfolding face_of
face-back cs rest r h =
    let b = bytes_all (map pattern_of cs) in
    ap (λ (l : List ℕ). word_from l (12 + 4 * r)) (append_assoc (zeros 12) (b ++ zeros 2) rest ∙ ap (λ (l : List ℕ). zeros 12 ++ l) (append_assoc b (zeros 2) rest))
    ∙ ap (λ (n : ℕ). word_from (zeros 12 ++ (b ++ (zeros 2 ++ rest))) (n + 4 * r)) (sym (length-zeros 12))
    ∙ word_after (zeros 12) (b ++ (zeros 2 ++ rest)) (4 * r) ∙ pattern_back cs (zeros 2 ++ rest) r h

faces_back : (n : ℕ) (cs : List Float) (q r : ℕ) → length cs ≡ face_numbers * n → q < n → r < face_numbers
    → word_from (faces_of n cs) (face_bytes * q + (point_bytes + 4 * r)) ≡ pattern_of (get_or cs (face_numbers * q + r) nan)
unfolding faces_of
faces_back zero cs q r e h k = absurd (omega arith)
faces_back (suc n) cs zero r e h k =
    let l = first-nine cs n e in
    let p : 50 * 0 + (12 + 4 * r) ≡ 12 + 4 * r = omega arith in
    let g : r ≡ 9 * 0 + r = omega arith in
    ap (word_from (face_of (take 9 cs) ++ faces_of n (drop 9 cs))) p ∙ face-back (take 9 cs) (faces_of n (drop 9 cs)) r (omega arith)
    ∙ ap pattern_of (get_or-take 9 cs r nan k ∙ ap (λ (x : ℕ). get_or cs x nan) g)
faces_back (suc n) cs (suc q) r e h k =
    let a = face_of (take 9 cs) in
    let p : 50 * suc q + (12 + 4 * r) ≡ length a + (50 * q + (12 + 4 * r)) = omega (arith, length-face (take 9 cs) (first-nine cs n e)) in
    let g : 9 + (9 * q + r) ≡ 9 * suc q + r = omega arith in
    ap (word_from (a ++ faces_of n (drop 9 cs))) p ∙ word_after a (faces_of n (drop 9 cs)) (50 * q + (12 + 4 * r))
    ∙ faces_back n (drop 9 cs) q r (others cs n e) (omega arith) k
    ∙ ap pattern_of (get_or-drop 9 cs (9 * q + r) nan ∙ ap (λ (x : ℕ). get_or cs x nan) g)

-- ---- what is gathered

gather-is : (f : ℕ → Float) (cs : List Float) (a : ℕ) → ((k : ℕ) → k < length cs → f (a + k) ≡ get_or cs k nan) → gather f a (length cs) ≡ cs
unfolding gather
gather-is f [] a h = refl
gather-is f (c ∷ cs) a h =
    let z : f a ≡ c = let e : a ≡ a + 0 = omega arith in ap f e ∙ h 0 (omega arith) in
    rw (z, gather-is f cs (a + 1) (λ k l. let e : a + 1 + k ≡ a + suc k = omega arith in ap f e ∙ h (suc k) (omega arith)))

-- each is exactly an f32, and none is NaN
single_at : (cs : List Float) (k : ℕ) → all_single cs ≡ true → k < length cs → value_of (pattern_of (get_or cs k nan)) ≡ get_or cs k nan
unfolding all_single
single_at [] k h l = absurd (omega arith)
single_at (c ∷ cs) zero h l =
    let b = both (is_single c && not (is_nan c)) (all_single cs) h in
    let s = both (is_single c) (not (is_nan c)) b.0 in
    value_of_pattern c s.0 (subst T (sym s.1) tt)
single_at (c ∷ cs) (suc k) h l = single_at cs k (both (is_single c && not (is_nan c)) (all_single cs) h).1 (omega arith)

-- ---- the file of n faces
module _ (cs : List Float) (n : ℕ) (count : length cs ≡ face_numbers * n) where
  pub count-is : length cs / face_numbers ≡ n
  count-is = omega arith

  stl_is : stl_of cs ≡ zeros header_bytes ++ (bytes_of n ++ faces_of n cs)
  unfolding stl_of head_of
  stl_is = ap (λ (m : ℕ). head_of m ++ faces_of m cs) count-is ∙ append_assoc (zeros 80) (bytes_of n) (faces_of n cs)

  -- a word after the header
  word_is_lem : (i : ℕ) → word_from (stl_of cs) (header_bytes + i) ≡ word_from (bytes_of n ++ faces_of n cs) i
  word_is_lem i =
      ap (λ (l : List ℕ). word_from l (80 + i)) stl_is ∙ ap (λ (m : ℕ). word_from (zeros 80 ++ (bytes_of n ++ faces_of n cs)) (m + i)) (sym (length-zeros 80))
      ∙ word_after (zeros 80) (bytes_of n ++ faces_of n cs) i

  pub size_is : length (stl_of cs) ≡ size_of n
  size_is =
      let b = bytes_of n ++ faces_of n cs in
      omega (arith, ap length stl_is, length-append (zeros 80) b, length-append (bytes_of n) (faces_of n cs), length-zeros 80, length-word n, length-faces n cs count)

  pub faces_are : n < 2 ^ 32 → faces_in (stl_of cs) ≡ n
  faces_are h = word_is_lem 0 ∙ word_first n (faces_of n cs) h

  pub is_stl_lem : n < 2 ^ 32 → is_stl (stl_of cs) ≡ true
  unfolding is_stl
  is_stl_lem h = eq-eqb (length (stl_of cs)) (size_of (faces_in (stl_of cs))) (size_is ∙ ap size_of (sym (faces_are h)))

  coordinate_back : all_single cs ≡ true → (k : ℕ) → k < length cs → coordinate_in (stl_of cs) k ≡ get_or cs k nan
  coordinate_back s k h =
      let q = k / 9 in
      let r = k % 9 in
      let p : place_of k ≡ 80 + (4 + (50 * q + (12 + 4 * r))) = omega arith in
      let d : 9 * q + r ≡ k = omega arith in
      let w : word_from (stl_of cs) (place_of k) ≡ pattern_of (get_or cs k nan) =
      ap (word_from (stl_of cs)) p ∙ word_is_lem (4 + (50 * q + (12 + 4 * r)))
      ∙ ap (λ (m : ℕ). word_from (bytes_of n ++ faces_of n cs) (m + (50 * q + (12 + 4 * r)))) (sym (length-word n))
      ∙ word_after (bytes_of n) (faces_of n cs) (50 * q + (12 + 4 * r))
      ∙ faces_back n cs q r count (omega arith) (omega arith) ∙ ap (λ (x : ℕ). pattern_of (get_or cs x nan)) d in
      ap value_of w ∙ single_at cs k s h

  pub coordinates_are : n < 2 ^ 32 → all_single cs ≡ true → coordinates_in (stl_of cs) ≡ cs
  unfolding coordinates_in
  coordinates_are h s =
      ap (λ (m : ℕ). gather (coordinate_in (stl_of cs)) 0 (9 * m)) (faces_are h)
      ∙ ap (gather (coordinate_in (stl_of cs)) 0) (sym count)
      ∙ gather-is (coordinate_in (stl_of cs)) cs 0 (λ k l. let e : 0 + k ≡ k = omega arith in rw e (coordinate_back s k l))
