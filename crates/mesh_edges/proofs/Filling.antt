-- The sides written one after the other, and brought in the order of their pairs.
use mathlib.Core.Path.{◌≡◌, refl, sym, ap, ◌∙◌}
use mathlib.Core.Logic.{inl, inr}
use mathlib.Core.List.{List, [], ◌∷◌, ◌++◌, map}
use Prim.Native.Nat.{ℕ, ◌+◌, ◌-◌, ◌*◌, ◌<◌, ◌≤◌}
use native.Mathlib.Omega.{arith}
use lib.ListN.{length, get_or, set, replicate, length-append, length-replicate}
use Rattle.refusal.specs.Limits.{most_faces}
use Rattle.order.specs.Order.{order, word_key, pair_key}
use Rattle.order.specs.Regions.{region, put, Off}
use Rattle.order.specs.Sort.{sorted}
use Rattle.order.proofs.Parts.{length-put, length-region, region-put, region-off, put-put, put-comm, put-append, set-off, region-bound}
use Rattle.order.proofs.Sorted.{order-length}
use Rattle.order.proofs.Passes.{by_pairs_lem}
use Rattle.order.proofs.Sorting.{apart-before, apart-after, inside-for, cut-for, sorted-yes}
use Rattle.mesh_edges.specs.Edges.{low_of, high_of, pair_of, up_from, sides_of}
use Rattle.mesh_edges.specs.InnerSteps.{sides_to, by_pairs, plain_words}
use Rattle.mesh_edges.proofs.Ups.{up_length, up_more, up_agree, map_more, map-length, map_at}

put_one : (s : List ℕ) (j x : ℕ) → set s j x ≡ put s j (x ∷ [])
unfolding put
put_one s j x = refl

-- one more after a list that is laid over another
put-end : (s : List ℕ) (a : ℕ) (l : List ℕ) (j x : ℕ) → j ≡ a + length l → set (put s a l) j x ≡ put s a (l ++ (x ∷ []))
put-end s a l j x e = rw e (put_one (put s a l) (a + length l) x ∙ put-append s a l (x ∷ []))

-- the sides written up to k
pub fill_none : (s is : List ℕ) (n : ℕ) → s ≡ sides_to s is n 0
unfolding sides_to up_from put
fill_none s is n = refl

pub fill_more : (s is : List ℕ) (n k : ℕ) → k < n → set (set (set (sides_to s is n k) k (low_of is k)) (n + k) (high_of is k)) (2 * n + k) k ≡ sides_to s is n (k + 1)
unfolding sides_to
fill_more s is n k h =
    let A = map (low_of is) (up_from 0 k) in
    let B = map (high_of is) (up_from 0 k) in
    let C = up_from 0 k in
    let x = low_of is k in
    let y = high_of is k in
    let la : length A ≡ k = map-length (low_of is) k in
    let lb : length B ≡ k = map-length (high_of is) k in
    let lc : length C ≡ k = up_length 0 k in
    let e1 : set (put (put (put s 0 A) n B) (2 * n) C) k x ≡ put (put (put s 0 (A ++ (x ∷ []))) n B) (2 * n) C =
    set-off (put (put s 0 A) n B) (2 * n) C k x (inl (omega arith)) ∙ ap (λ (z : List ℕ). put z (2 * n) C) (set-off (put s 0 A) n B k x (inl (omega arith)) ∙ ap (λ (z : List ℕ). put z n B) (put-end s 0 A k x (omega arith))) in
    let A1 = A ++ (x ∷ []) in
    let e2 : set (put (put (put s 0 A1) n B) (2 * n) C) (n + k) y ≡ put (put (put s 0 A1) n (B ++ (y ∷ []))) (2 * n) C =
    set-off (put (put s 0 A1) n B) (2 * n) C (n + k) y (inl (omega arith)) ∙ ap (λ (z : List ℕ). put z (2 * n) C) (put-end (put s 0 A1) n B (n + k) y (omega arith)) in
    let B1 = B ++ (y ∷ []) in
    ap (λ (z : List ℕ). set (set z (n + k) y) (2 * n + k) k) e1 ∙ ap (λ (z : List ℕ). set z (2 * n + k) k) e2 ∙ put-end (put (put s 0 A1) n B1) (2 * n) C (2 * n + k) k (omega arith)
    ∙ ap (λ (z : List ℕ). put (put (put s 0 z) n B1) (2 * n) (C ++ (k ∷ []))) (sym (map_more (low_of is) k)) ∙ ap (λ (z : List ℕ). put (put (put s 0 (map (low_of is) (up_from 0 (k + 1)))) n z) (2 * n) (C ++ (k ∷ []))) (sym (map_more (high_of is) k))
    ∙ ap (put (put (put s 0 (map (low_of is) (up_from 0 (k + 1)))) n (map (high_of is) (up_from 0 (k + 1)))) (2 * n)) (sym (up_more k))

-- by the larger vertex, and then by the smaller
module _ (s : List ℕ) (n : ℕ) (H : 5 * n ≤ length s) (few : n ≤ 3 * most_faces) where
  abbrev Z : List ℕ
  Z = replicate n 0

  lz : length Z ≡ n
  lz = length-replicate {A = ℕ} n 0

  abbrev O : List ℕ
  O = order (word_key (region s n n)) (region s (2 * n) n)

  lo : length O ≡ n
  lo = order-length (word_key (region s n n)) (region s (2 * n) n) ∙ length-region s (2 * n) n (omega arith)

  first : (t : List ℕ) → t ≡ sorted s n (2 * n) (2 * n) (3 * n) n → t ≡ put (put s (3 * n) Z) (2 * n) O
  first t e =
      let k : 2 * n - n ≡ n = omega arith in
      e ∙ sym (sorted-yes s n (2 * n) (2 * n) (3 * n) n (cut-for (length s) n (2 * n) (2 * n) (3 * n) n (inside-for (length s) n (2 * n) (2 * n) (3 * n) n (omega arith) (omega arith) (omega arith) (omega arith) (omega arith)) (apart-before (2 * n) n (3 * n) n (omega arith)) (apart-after (2 * n) n n (2 * n - n) (omega arith) (omega arith)) (apart-after (3 * n) n n (2 * n - n) (omega arith) (omega arith))))
      ∙ ap (λ (z : ℕ). put (put s (3 * n) Z) (2 * n) (order (word_key (region s n z)) (region s (2 * n) n))) k

  second : (t u : List ℕ) → length t ≡ length s → u ≡ sorted t 0 n (2 * n) (3 * n) n → u ≡ put (put t (3 * n) Z) (2 * n) (order (word_key (region t 0 n)) (region t (2 * n) n))
  second t u l e =
      let k : n - 0 ≡ n = omega arith in
      e ∙ sym (sorted-yes t 0 n (2 * n) (3 * n) n (cut-for (length t) 0 n (2 * n) (3 * n) n (inside-for (length t) 0 n (2 * n) (3 * n) n (omega arith) (omega arith) (omega arith) (omega arith) (omega arith)) (apart-before (2 * n) n (3 * n) n (omega arith)) (apart-after (2 * n) n 0 (n - 0) (omega arith) (omega arith)) (apart-after (3 * n) n 0 (n - 0) (omega arith) (omega arith))))
      ∙ ap (λ (z : ℕ). put (put t (3 * n) Z) (2 * n) (order (word_key (region t 0 z)) (region t (2 * n) n))) k

  -- the second writes over what the first left
  over : (l : List ℕ) → length l ≡ n → put (put (put (put s (3 * n) Z) (2 * n) O) (3 * n) Z) (2 * n) l ≡ put (put s (3 * n) Z) (2 * n) l
  over l m =
      let o : Off (2 * n) (length O) (3 * n) (length Z) = inl (omega (arith, lo)) in
      ap (λ (z : List ℕ). put z (2 * n) l) (put-comm (put s (3 * n) Z) (2 * n) O (3 * n) Z o ∙ ap (λ (z : List ℕ). put z (2 * n) O) (put-put s (3 * n) Z Z refl)) ∙ put-put (put s (3 * n) Z) (2 * n) O l (lo ∙ sym m)

  pub sorted-twice : ((x : ℕ) → get_or s x 0 < 4294967296) → (t u : List ℕ) → t ≡ sorted s n (2 * n) (2 * n) (3 * n) n → u ≡ sorted t 0 n (2 * n) (3 * n) n → u ≡ by_pairs s n
  unfolding by_pairs
  sorted-twice wide t u p q =
      let e = first t p in
      let l : length t ≡ length s = ap length e ∙ length-put (put s (3 * n) Z) (2 * n) O ∙ length-put s (3 * n) Z in
      let r0 : region t 0 n ≡ region s 0 n =
      ap (λ (z : List ℕ). region z 0 n) e ∙ region-off (put s (3 * n) Z) (2 * n) O 0 n (inr (omega arith)) (rw length-put (omega arith)) ∙ region-off s (3 * n) Z 0 n (inr (omega arith)) (omega arith) in
      let r2 : region t (2 * n) n ≡ O = ap (λ (z : List ℕ). region z (2 * n) n) e ∙ region-put (put s (3 * n) Z) (2 * n) n O lo (rw length-put (omega arith)) in
      let k : order (word_key (region t 0 n)) (region t (2 * n) n) ≡ order (pair_key (region s 0 n) (region s n n)) (region s (2 * n) n) =
      ap (λ (z : List ℕ). order (word_key z) (region t (2 * n) n)) r0 ∙ ap (order (word_key (region s 0 n))) r2
      ∙ by_pairs_lem (region s 0 n) (region s n n) (region s (2 * n) n) (region-bound s n n 4294967296 (omega arith) wide) in
      let m : length (order (pair_key (region s 0 n) (region s n n)) (region s (2 * n) n)) ≡ n = order-length (pair_key (region s 0 n) (region s n n)) (region s (2 * n) n) ∙ length-region s (2 * n) n (omega arith) in
      second t u l q ∙ ap (put (put t (3 * n) Z) (2 * n)) k ∙ ap (λ (z : List ℕ). put (put z (3 * n) Z) (2 * n) (order (pair_key (region s 0 n) (region s n n)) (region s (2 * n) n))) e ∙ over (order (pair_key (region s 0 n) (region s n n)) (region s (2 * n) n)) m

-- all of it, and n words zero after it
module _ (s is : List ℕ) (H : 5 * length is ≤ length s) where
  abbrev n : ℕ
  n = length is

  abbrev A : List ℕ
  A = map (low_of is) (up_from 0 n)

  abbrev B : List ℕ
  B = map (high_of is) (up_from 0 n)

  la : length A ≡ n
  la = map-length (low_of is) n

  lb : length B ≡ n
  lb = map-length (high_of is) n

  lr : length (replicate {A = ℕ} n 0) ≡ n
  lr = length-replicate {A = ℕ} n 0

  three : (l : List ℕ) → put (put (put s 0 A) n B) (2 * n) l ≡ put s 0 (A ++ B ++ l)
  three l =
      let u : n ≡ 0 + length A = omega (arith, la) in
      let v : 2 * n ≡ 0 + length (A ++ B) = omega (arith, length-append A B, la, lb) in
      ap (λ (z : ℕ). put (put (put s 0 A) z B) (2 * n) l) u ∙ ap (λ (z : List ℕ). put z (2 * n) l) (put-append s 0 A B) ∙ ap (λ (z : ℕ). put (put s 0 (A ++ B)) z l) v ∙ put-append s 0 (A ++ B) l

  pub plain : (t u w : List ℕ) → t ≡ sides_to s is n n → u ≡ by_pairs t n → w ≡ put u (4 * n) (replicate n 0) → w ≡ put s 0 (plain_words is)
  unfolding sides_to by_pairs plain_words sides_of
  plain t u w p q r =
      let Z = replicate {A = ℕ} n 0 in
      let U = up_from 0 n in
      let lu : length U ≡ n = up_length 0 n in
      let l1 : length (put s 0 A) ≡ length s = length-put s 0 A in
      let l2 : length (put (put s 0 A) n B) ≡ length s = length-put (put s 0 A) n B ∙ l1 in
      let lt : length t ≡ length s = ap length p ∙ length-put (put (put s 0 A) n B) (2 * n) U ∙ l2 in
      let r0 : region t 0 n ≡ A =
      ap (λ (z : List ℕ). region z 0 n) p ∙ region-off (put (put s 0 A) n B) (2 * n) U 0 n (inr (omega arith)) (omega arith) ∙ region-off (put s 0 A) n B 0 n (inr (omega arith)) (omega arith) ∙ region-put s 0 n A la (omega arith) in
      let r1 : region t n n ≡ B = ap (λ (z : List ℕ). region z n n) p ∙ region-off (put (put s 0 A) n B) (2 * n) U n n (inr (omega arith)) (omega arith) ∙ region-put (put s 0 A) n n B lb (omega arith) in
      let r2 : region t (2 * n) n ≡ U = ap (λ (z : List ℕ). region z (2 * n) n) p ∙ region-put (put (put s 0 A) n B) (2 * n) n U lu (omega arith) in
      let S = order (pair_of is) U in
      let o : order (pair_key (region t 0 n) (region t n n)) (region t (2 * n) n) ≡ S =
      ap (λ (z : List ℕ). order (pair_key z (region t n n)) (region t (2 * n) n)) r0 ∙ ap (λ (z : List ℕ). order (pair_key A z) (region t (2 * n) n)) r1 ∙ ap (order (pair_key A B)) r2 ∙ up_agree (pair_key A B) (pair_of is) n (λ y h. rw (map_at (low_of is) n y h, map_at (high_of is) n y h)) in
      let lS : length S ≡ n = sides-is in
      let e2 : u ≡ put s 0 (A ++ B ++ S ++ Z) =
      q ∙ ap (put (put t (3 * n) Z) (2 * n)) o ∙ put-comm t (3 * n) Z (2 * n) S (inr (omega arith)) ∙ ap (λ (z : List ℕ). put z (3 * n) Z) (ap (λ (z : List ℕ). put z (2 * n) S) p ∙ put-put (put (put s 0 A) n B) (2 * n) U S (lu ∙ sym lS) ∙ three S)
      ∙ join (A ++ B ++ S) Z (3 * n) (omega (arith, length-append (A ++ B) S, length-append A B, la, lb)) in
      r ∙ ap (λ (z : List ℕ). put z (4 * n) Z) e2 ∙ join (A ++ B ++ S ++ Z) Z (4 * n) (omega (arith, length-append (A ++ B ++ S) Z, length-append (A ++ B) S, length-append A B, la, lb, lr))
    where
      sides-is : length (order (pair_of is) (up_from 0 n)) ≡ n
      sides-is = order-length (pair_of is) (up_from 0 n) ∙ up_length 0 n

      join : (l k : List ℕ) (at : ℕ) → at ≡ 0 + length l → put (put s 0 l) at k ≡ put s 0 (l ++ k)
      join l k at e = ap (λ (z : ℕ). put (put s 0 l) z k) e ∙ put-append s 0 l k

pub plain_of : (s is : List ℕ) (n : ℕ) → n ≡ length is → 5 * n ≤ length s → (t u w : List ℕ) → t ≡ sides_to s is n n → u ≡ by_pairs t n → w ≡ put u (4 * n) (replicate n 0) → w ≡ put s 0 (plain_words is)
plain_of s is n e h t u w p q r = plain s is (omega arith) t u w (rw (← e) p) (rw (← e) q) (rw (← e) r)
