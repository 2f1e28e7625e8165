-- Where the words of the edges lie, and what they say.
use mathlib.Core.Path.{◌≡◌, refl, sym, ap, ◌∙◌}
use mathlib.Core.Bool.{Bool, true, false, cond, ◌&&◌}
use mathlib.Core.Logic.{inr}
use mathlib.Core.List.{List, [], ◌∷◌, ◌++◌, map}
use Prim.Native.Nat.{ℕ, zero, suc, ◌+◌, ◌*◌, ◌<◌, ◌≤◌}
use native.Mathlib.Omega.{arith}
use lib.ListN.{length, get_or, take, drop, replicate, length-append, length-take, length-replicate, get_or-append}
use lib.Seq.{get_or-take, ext_get_or, get_or-append-add}
use borrow.Author.Tests.{le-leb}
use lib.Dec.{leb}
use Rattle.refusal.specs.Limits.{most_faces}
use Rattle.order.specs.Regions.{region, put}
use Rattle.order.proofs.Parts.{length-put, length-region, get_region, region-put}
use Rattle.order.proofs.Sorted.{In}
use Rattle.mesh_edges.specs.Edges.{low_of, high_of, pair_of, up_from, sides_of}
use Rattle.mesh_edges.specs.InnerWords.{flag_of, side_words, edges_in, pair_in, alike, end_in}
use Rattle.mesh_edges.proofs.Ups.{map_at, map-length, sides_length, side-below, sides_below}
use Rattle.mesh_edges.proofs.Groups.{alike-agree}
use Rattle.mesh_edges.proofs.Ends.{end_from}

-- a list that begins with five lists of n elements each
module _ (t : List ℕ) (n : ℕ) (a b c d f : List ℕ) (la : length a ≡ n) (lb : length b ≡ n) (lc : length c ≡ n) (ld : length d ≡ n) (lf : length f ≡ n)
    (e : take (5 * n) t ≡ a ++ b ++ c ++ d ++ f) where
  l2 : length (a ++ b) ≡ 2 * n
  l2 = omega (arith, length-append a b)

  l3 : length (a ++ b ++ c) ≡ 3 * n
  l3 = omega (arith, length-append (a ++ b) c, l2)

  l4 : length (a ++ b ++ c ++ d) ≡ 4 * n
  l4 = omega (arith, length-append (a ++ b ++ c) d, l3)

  l5 : length (a ++ b ++ c ++ d ++ f) ≡ 5 * n
  l5 = omega (arith, length-append (a ++ b ++ c ++ d) f, l4)

  pub five_long : 5 * n ≤ length t
  five_long = omega (arith, ap length e, l5, length-take (5 * n) t)

  get : (j : ℕ) → j < 5 * n → get_or t j 0 ≡ get_or (a ++ b ++ c ++ d ++ f) j 0
  get j h = sym (get_or-take (5 * n) t j 0 h) ∙ ap (λ (l : List ℕ). get_or l j 0) e

  pub get_0 : (k : ℕ) → k < n → get_or t k 0 ≡ get_or a k 0
  get_0 k h =
      get k (omega arith) ∙ get_or-append (a ++ b ++ c ++ d) f 0 k (omega (arith, l4)) ∙ get_or-append (a ++ b ++ c) d 0 k (omega (arith, l3)) ∙ get_or-append (a ++ b) c 0 k (omega (arith, l2))
      ∙ get_or-append a b 0 k (omega arith)

  pub get_1 : (k : ℕ) → k < n → get_or t (n + k) 0 ≡ get_or b k 0
  get_1 k h =
      get (n + k) (omega arith) ∙ get_or-append (a ++ b ++ c ++ d) f 0 (n + k) (omega (arith, l4)) ∙ get_or-append (a ++ b ++ c) d 0 (n + k) (omega (arith, l3)) ∙ get_or-append (a ++ b) c 0 (n + k) (omega (arith, l2))
      ∙ ap (λ (z : ℕ). get_or (a ++ b) (z + k) 0) (sym la) ∙ get_or-append-add a b k 0

  pub get_2 : (k : ℕ) → k < n → get_or t (2 * n + k) 0 ≡ get_or c k 0
  get_2 k h =
      get (2 * n + k) (omega arith) ∙ get_or-append (a ++ b ++ c ++ d) f 0 (2 * n + k) (omega (arith, l4)) ∙ get_or-append (a ++ b ++ c) d 0 (2 * n + k) (omega (arith, l3))
      ∙ ap (λ (z : ℕ). get_or (a ++ b ++ c) (z + k) 0) (sym l2) ∙ get_or-append-add (a ++ b) c k 0

  pub get_3 : (k : ℕ) → k < n → get_or t (3 * n + k) 0 ≡ get_or d k 0
  get_3 k h =
      get (3 * n + k) (omega arith) ∙ get_or-append (a ++ b ++ c ++ d) f 0 (3 * n + k) (omega (arith, l4)) ∙ ap (λ (z : ℕ). get_or (a ++ b ++ c ++ d) (z + k) 0) (sym l3) ∙ get_or-append-add (a ++ b ++ c) d k 0

  pub get_4 : (k : ℕ) → k < n → get_or t (4 * n + k) 0 ≡ get_or f k 0
  get_4 k h = get (4 * n + k) (omega arith) ∙ ap (λ (z : ℕ). get_or (a ++ b ++ c ++ d ++ f) (z + k) 0) (sym l4) ∙ get_or-append-add (a ++ b ++ c ++ d) f k 0

  -- a region of n elements that are those of a list
  as_region : (at : ℕ) (l : List ℕ) → at + n ≤ 5 * n → length l ≡ n → ((k : ℕ) → k < n → get_or t (at + k) 0 ≡ get_or l k 0) → region t at n ≡ l
  as_region at l r m g =
      let q = length-region t at n (omega (arith, five_long)) in
      ext_get_or 0 (region t at n) l (q ∙ sym m) (λ k h. get_region t at n k (omega arith) ∙ g k (omega arith))

  pub region-2 : region t (2 * n) n ≡ c
  region-2 = as_region (2 * n) c (omega arith) lc get_2

  pub region-3 : region t (3 * n) n ≡ d
  region-3 = as_region (3 * n) d (omega arith) ld get_3

  pub region-4 : region t (4 * n) n ≡ f
  region-4 = as_region (4 * n) f (omega arith) lf get_4

-- a list that begins with sides by their pairs
module _ (t is d f : List ℕ) (ld : length d ≡ length is) (lf : length f ≡ length is)
    (e : take (5 * length is) t ≡ map (low_of is) (up_from 0 (length is)) ++ map (high_of is) (up_from 0 (length is)) ++ sides_of is ++ d ++ f) where
  abbrev n : ℕ
  n = length is

  abbrev a : List ℕ
  a = map (low_of is) (up_from 0 n)

  abbrev b : List ℕ
  b = map (high_of is) (up_from 0 n)

  la : length a ≡ n
  la = map-length (low_of is) n

  lb : length b ≡ n
  lb = map-length (high_of is) n

  pub said-low : (k : ℕ) → k < length is → get_or t k 0 ≡ low_of is k
  said-low k h = get_0 t n a b (sides_of is) d f la lb (sides_length is) ld lf e k h ∙ map_at (low_of is) n k h

  pub said-high : (k : ℕ) → k < length is → get_or t (length is + k) 0 ≡ high_of is k
  said-high k h = get_1 t n a b (sides_of is) d f la lb (sides_length is) ld lf e k h ∙ map_at (high_of is) n k h

  pub said-pair : (k : ℕ) → k < length is → pair_in t (length is) k ≡ pair_of is k
  said-pair k h = rw (said-low k h, said-high k h)

  pub said-sides : region t (2 * length is) (length is) ≡ sides_of is
  said-sides = region-2 t n a b (sides_of is) d f la lb (sides_length is) ld lf e

  pub said-side : (p : ℕ) → p < length is → get_or t (2 * length is + p) 0 ≡ get_or (sides_of is) p 0
  said-side p h = get_2 t n a b (sides_of is) d f la lb (sides_length is) ld lf e p h

  pub said-mates : region t (3 * length is) (length is) ≡ d
  said-mates = region-3 t n a b (sides_of is) d f la lb (sides_length is) ld lf e

  pub said-flags : region t (4 * length is) (length is) ≡ f
  said-flags = region-4 t n a b (sides_of is) d f la lb (sides_length is) ld lf e

  pub said-flag : (k : ℕ) → k < length is → get_or t (4 * length is + k) 0 ≡ get_or f k 0
  said-flag k h = get_4 t n a b (sides_of is) d f la lb (sides_length is) ld lf e k h

  pub said-long : 5 * length is ≤ length t
  said-long = five_long t n a b (sides_of is) d f la lb (sides_length is) ld lf e

  in_drop : (q : ℕ) (l : List ℕ) (y : ℕ) → In y (drop q l) → In y l
  in_drop zero l y i = i
  in_drop (suc q) [] y i = i
  in_drop (suc q) (x ∷ l) y i = inr (in_drop q l y i)

  pub said-end : (p : ℕ) → p < length is → end_in t (length is) p ≡ p + 1 + alike (pair_of is) (get_or (sides_of is) p 0) (drop (p + 1) (sides_of is))
  said-end p h =
      let x = get_or (sides_of is) p 0 in
      end_from t n said-long p h ∙ ap (λ (z : ℕ). p + 1 + alike (pair_in t n) z (drop (p + 1) (region t (2 * n) n))) (said-side p h)
      ∙ ap (λ (l : List ℕ). p + 1 + alike (pair_in t n) x (drop (p + 1) l)) said-sides
      ∙ ap (λ (z : ℕ). p + 1 + z) (alike-agree (pair_in t n) (pair_of is) x (drop (p + 1) (sides_of is)) (said-pair x (side-below is p h)) (λ y i. said-pair y (sides_below is y (in_drop (p + 1) (sides_of is) y i))))

-- a list that begins with the words of the edges: for callers
module _ (t is flips : List ℕ) (e : take (5 * length is) t ≡ side_words is flips) where
  abbrev zeros : List ℕ
  zeros = replicate (length is) 0

  abbrev flags : List ℕ
  flags = map (flag_of is flips) (up_from 0 (length is))

  words : take (5 * length is) t ≡ map (low_of is) (up_from 0 (length is)) ++ map (high_of is) (up_from 0 (length is)) ++ sides_of is ++ replicate (length is) 0 ++ map (flag_of is flips) (up_from 0 (length is))
  unfolding side_words
  words = e

  lz : length zeros ≡ length is
  lz = length-replicate {A = ℕ} (length is) 0

  lg : length flags ≡ length is
  lg = map-length (flag_of is flips) (length is)

  pub words_low : (k : ℕ) → k < length is → get_or t k 0 ≡ low_of is k
  words_low = said-low t is zeros flags lz lg words

  pub words_high : (k : ℕ) → k < length is → get_or t (length is + k) 0 ≡ high_of is k
  words_high = said-high t is zeros flags lz lg words

  pub words_side : (p : ℕ) → p < length is → get_or t (2 * length is + p) 0 ≡ get_or (sides_of is) p 0
  words_side = said-side t is zeros flags lz lg words

  pub words_flag : (k : ℕ) → k < length is → get_or t (4 * length is + k) 0 ≡ flag_of is flips k
  words_flag k h = said-flag t is zeros flags lz lg words k h ∙ map_at (flag_of is flips) (length is) k h

  pub words_end : (p : ℕ) → p < length is → end_in t (length is) p ≡ p + 1 + alike (pair_of is) (get_or (sides_of is) p 0) (drop (p + 1) (sides_of is))
  words_end = said-end t is zeros flags lz lg words

pub words_length : (is flips : List ℕ) → length (side_words is flips) ≡ 5 * length is
unfolding side_words
words_length is flips =
    let n = length is in
    let a = map (low_of is) (up_from 0 n) in
    let b = map (high_of is) (up_from 0 n) in
    let g = map (flag_of is flips) (up_from 0 n) in
    omega (
      arith,
      length-append (a ++ b ++ sides_of is ++ replicate n 0) g,
      length-append (a ++ b ++ sides_of is) (replicate n 0),
      length-append (a ++ b) (sides_of is),
      length-append a b,
      map-length (low_of is) n,
      map-length (high_of is) n,
      sides_length is,
      length-replicate {A = ℕ} n 0,
      map-length (flag_of is flips) n,
    )

-- what `edges` leaves
module _ (s is flips : List ℕ) (few : length is ≤ 3 * most_faces) (room : 5 * length is ≤ length s) where
  pub edges_put : edges_in s is flips ≡ put s 0 (side_words is flips)
  unfolding edges_in
  edges_put = rw (le-leb (length is) (3 * most_faces) few, le-leb (5 * length is) (length s) room)

  pub edges_words : take (5 * length is) (edges_in s is flips) ≡ side_words is flips
  edges_words = ap (take (5 * length is)) edges_put ∙ region-put s 0 (5 * length is) (side_words is flips) (words_length is flips) (omega arith)

pub edges_length : (s is flips : List ℕ) → length (edges_in s is flips) ≡ length s
unfolding edges_in
edges_length s is flips = go (leb (length is) (3 * most_faces) && leb (5 * length is) (length s))
  where
    go : (b : Bool) → length (cond b (put s 0 (side_words is flips)) s) ≡ length s
    go true = length-put s 0 (side_words is flips)
    go false = refl
