-- The walk over the edges: what a turn of it writes.
use mathlib.Core.Path.{◌≡◌, refl, sym, ap, ◌∙◌, subst}
use mathlib.Core.Logic.{inr}
use mathlib.Core.Bool.{Bool, true, false, cond}
use mathlib.Core.List.{List, [], ◌∷◌, ◌++◌, map, append-nil, append_assoc}
use Prim.Native.Nat.{ℕ, zero, suc, ◌+◌, ◌-◌, ◌*◌, ◌<◌, ◌≤◌}
use native.Mathlib.Omega.{arith}
use native.Mathlib.Numerals.{add-one}
use lib.ListN.{length, get_or, set, take, drop, length-set, length-drop, drop_of_length-le}
use lib.Seq.{drop-cons, drop-drop, ext_get_or, get_or-drop, get_or-set_same, take-suc, take-set-le}
use lib.Dec.{eqb}
use lib.Ieee.{Float}
use Rattle.order.specs.Regions.{region, put}
use Rattle.order.proofs.Parts.{length-region, get_region, region-off}
use Rattle.path_splice.specs.InnerPairs.{pairs_of}
use Rattle.mesh_mode.specs.declared.Mode.{Mode}
use Rattle.mesh_mode.specs.declared.Mode.TheVariants.{Triangles, Polygonal, Silhouette}
use Rattle.mesh_edges.specs.Edges.{face_of, low_of, high_of, pair_of, sides_of, groups_of, edges_of}
use Rattle.mesh_edges.specs.InnerWords.{flag_of, side_words, alike, end_in}
use Rattle.mesh_edges.proofs.Groups.{edge_first, alike-le}
use Rattle.mesh_edges.proofs.Ups.{sides_length, side-below}
use Rattle.mesh_edges.proofs.Mates.{flag-two}
use Rattle.mesh_edges.proofs.Said.{words_low, words_high, words_side, words_flag, words_end}
use Rattle.mesh_keep.specs.Keep.{Seen, kept_by, faces_of}
use Rattle.mesh_strokes.specs.Draw.{flip_of, kept, strokes_by}
use Rattle.mesh_strokes.specs.InnerWalk.{Room, flip_at, with_pair, Written, written, edge_kept}

-- ---- pairs
pub pairs_more : (w : List ℕ) (m a b : ℕ) → length w ≡ 2 * m → pairs_of (w ++ (a ∷ b ∷ [])) ≡ pairs_of w ++ ((a ∷ b ∷ []) ∷ [])
unfolding pairs_of
pairs_more [] m a b h = refl
pairs_more (x ∷ []) m a b h = absurd (omega arith)
pairs_more (x ∷ y ∷ w) zero a b h = absurd (omega arith)
pairs_more (x ∷ y ∷ w) (suc m) a b h = ap (λ (l : List (List ℕ)). (x ∷ y ∷ []) ∷ l) (pairs_more w m a b (omega arith))

-- ---- whether an edge is flipped matters for two faces alone
pub flip_matters : (mode : Mode) (s : Seen) (tolerance : Float) (b c : Bool) (fs : List ℕ) → (length fs ≡ 2 → b ≡ c) → kept_by mode s b tolerance fs ≡ kept_by mode s c tolerance fs
unfolding kept_by
flip_matters Triangles s tolerance b c fs h = refl
flip_matters Polygonal s tolerance b c [] h = refl
flip_matters Polygonal s tolerance b c (f ∷ []) h = refl
flip_matters Polygonal s tolerance b c (f ∷ g ∷ fs) h = refl
flip_matters (Silhouette cosine) s tolerance b c [] h = refl
flip_matters (Silhouette cosine) s tolerance b c (f ∷ []) h = refl
flip_matters (Silhouette cosine) s tolerance b c (f ∷ g ∷ []) h = rw (h refl)
flip_matters (Silhouette cosine) s tolerance b c (f ∷ g ∷ k ∷ fs) h = refl

flag_bool : (b : Bool) → eqb (cond b 1 0) 1 ≡ b
flag_bool true = refl
flag_bool false = refl

-- ---- strokes of the kept edges, an edge at a time
module _ (keep : List ℕ → Bool) (is : List ℕ) (x : ℕ) (xs : List ℕ) (es : List (List ℕ)) where
  pub stroke_kept : keep (map face_of (x ∷ xs)) ≡ true → strokes_by keep is ((x ∷ xs) ∷ es) ≡ (low_of is x ∷ high_of is x ∷ []) ∷ strokes_by keep is es
  unfolding strokes_by
  stroke_kept h = rw h

  pub stroke_left : keep (map face_of (x ∷ xs)) ≡ false → strokes_by keep is ((x ∷ xs) ∷ es) ≡ strokes_by keep is es
  unfolding strokes_by
  stroke_left h = rw h

-- ---- a pair written
one_more : (s : List ℕ) (a m j x : ℕ) → j ≡ a + m → a + m < length s → region (set s j x) a (m + 1) ≡ region s a m ++ (x ∷ [])
unfolding put
one_more s a m j x e h =
    let u = set s j x in
    let l : m < length (drop a u) = omega (arith, length-drop a u, length-set s j x) in
    let g : get_or (drop a u) m 0 ≡ x = get_or-drop a u m 0 ∙ ap (λ (i : ℕ). get_or u i 0) (sym e) ∙ get_or-set_same s j x 0 (omega arith) in
    ap (λ (i : ℕ). take i (drop a u)) (add-one m) ∙ take-suc (drop a u) m 0 l ∙ ap (λ (y : ℕ). take m (drop a u) ++ (y ∷ [])) g
    ∙ ap (λ (z : List ℕ). z ++ (x ∷ [])) (region-off s j (x ∷ []) a m (inr (omega arith)) (omega arith))

module _ (s : List ℕ) (n k m : ℕ) (R : Room s n) (few : m < n) where
  pub pair_size : length (with_pair s n k m) ≡ length s
  unfolding with_pair
  pair_size = simp length-set refl

  pub pair_front : take (5 * n) (with_pair s n k m) ≡ take (5 * n) s
  unfolding with_pair
  pair_front = take-set-le (5 * n) _ (5 * n + 2 * m + 1) (get_or s (n + k) 0) (omega arith) ∙ take-set-le (5 * n) s (5 * n + 2 * m) (get_or s k 0) (omega arith)

  pub pair_more : region (with_pair s n k m) (5 * n) (2 * (m + 1)) ≡ region s (5 * n) (2 * m) ++ (get_or s k 0 ∷ get_or s (n + k) 0 ∷ [])
  unfolding with_pair
  pair_more =
      let low = get_or s k 0 in
      let high = get_or s (n + k) 0 in
      let t = set s (5 * n + 2 * m) low in
      let e : 2 * (m + 1) ≡ 2 * m + 1 + 1 = omega arith in
      ap (region (set t (5 * n + 2 * m + 1) high) (5 * n)) e
      ∙ one_more t (5 * n) (2 * m + 1) (5 * n + 2 * m + 1) high (omega arith) (omega (arith, R.long, length-set s (5 * n + 2 * m) low))
      ∙ ap (λ (z : List ℕ). z ++ (high ∷ [])) (one_more s (5 * n) (2 * m) (5 * n + 2 * m) low refl (omega (arith, R.long)))
      ∙ append_assoc (region s (5 * n) (2 * m)) (low ∷ []) (high ∷ [])

-- ---- the walk: w holds the pairs of the edges before place p
pub record Went (keep : List ℕ → Bool) (is w : List ℕ) (p : ℕ) : Type 0 where
  pub done : List (List ℕ)
  pub split : edges_of is ≡ done ++ groups_of (pair_of is) (drop p (sides_of is))
  pub pairs : pairs_of w ++ strokes_by keep is (groups_of (pair_of is) (drop p (sides_of is))) ≡ strokes_by keep is (edges_of is)

pub went_none : (keep : List ℕ → Bool) (is w : List ℕ) → length w ≡ 0 → Went keep is w 0
unfolding pairs_of edges_of
went_none keep is [] h = record { done = []; split = refl; pairs = refl }
went_none keep is (x ∷ w) h = absurd (omega arith)

pub went_all : (keep : List ℕ → Bool) (is w : List ℕ) (p : ℕ) → length is ≤ p → Went keep is w p → pairs_of w ≡ strokes_by keep is (edges_of is)
unfolding strokes_by groups_of
went_all keep is w p h W =
    let l : length (sides_of is) ≤ p = omega (arith, sides_length is) in
    let e : drop p (sides_of is) ≡ [] = drop_of_length-le (sides_of is) l in
    sym (append-nil (pairs_of w)) ∙ ap (λ (l : List ℕ). pairs_of w ++ strokes_by keep is (groups_of (pair_of is) l)) (sym e) ∙ W.pairs

-- the edge at place p ends at q
module _ (is : List ℕ) (p q : ℕ) (h : p < length is) (eq : q ≡ p + 1 + alike (pair_of is) (get_or (sides_of is) p 0) (drop (p + 1) (sides_of is))) where
  abbrev key : ℕ → ℕ
  key = pair_of is

  abbrev x : ℕ
  x = get_or (sides_of is) p 0

  abbrev xs : List ℕ
  xs = drop (p + 1) (sides_of is)

  pub edge_low : p < q
  edge_low = omega (arith, eq)

  pub edge_high : q ≤ length is
  edge_high = omega (arith, eq, alike-le key x xs, length-drop (p + 1) (sides_of is), sides_length is)

  here : drop p (sides_of is) ≡ x ∷ xs
  here = drop-cons (sides_of is) p 0 (omega (arith, sides_length is)) ∙ ap (λ (i : ℕ). x ∷ drop i (sides_of is)) (sym (add-one p))

  pub edge_splits : groups_of key (drop p (sides_of is)) ≡ (x ∷ take (alike key x xs) xs) ∷ groups_of key (drop q (sides_of is))
  edge_splits =
      ap (groups_of key) here ∙ edge_first key x xs
      ∙ ap (λ (l : List ℕ). (x ∷ take (alike key x xs) xs) ∷ groups_of key l) (drop-drop (alike key x xs) (p + 1) (sides_of is) ∙ ap (λ (i : ℕ). drop i (sides_of is)) (sym eq))

  -- it is what lies there in the list of sides
  pub edge_region : region (sides_of is) p (q - p) ≡ x ∷ take (alike key x xs) xs
  edge_region =
      let e : q - p ≡ suc (alike key x xs) = omega (arith, eq) in
      ap (λ (l : List ℕ). take (q - p) l) here ∙ ap (λ (i : ℕ). take i (x ∷ xs)) e

-- ---- a turn of the walk
module _ (mode : Mode) (seen : Seen) (tolerance : Float) (is s flips : List ℕ) (p q m : ℕ) (h : p < length is) (R : Room s (length is))
    (words : take (5 * length is) s ≡ side_words is flips) (eq : q ≡ end_in s (length is) p) (few : m ≤ p) where
  abbrev keep : List ℕ → Bool
  keep = kept mode seen flips tolerance

  abbrev first : ℕ
  first = get_or (sides_of is) p 0

  abbrev others : List ℕ
  others = take (alike (pair_of is) first (drop (p + 1) (sides_of is))) (drop (p + 1) (sides_of is))

  at-end : q ≡ p + 1 + alike (pair_of is) first (drop (p + 1) (sides_of is))
  at-end = eq ∙ words_end s is flips words p h

  pub turn_low : p < q
  turn_low = edge_low is p q h at-end

  pub turn_high : q ≤ length is
  turn_high = edge_high is p q h at-end

  pub turn_side : get_or s (2 * length is + p) 0 ≡ first
  turn_side = words_side s is flips words p h

  pub turn_below : get_or s (2 * length is + p) 0 < length is
  turn_below = rw turn_side (side-below is p h)

  -- the sides that lie there are those of the edge
  sides_here : region s (2 * length is + p) (q - p) ≡ first ∷ others
  sides_here =
      let a = length-region s (2 * length is + p) (q - p) (omega (arith, turn_low, turn_high, R.long)) in
      let b = length-region (sides_of is) p (q - p) (omega (arith, turn_low, turn_high, sides_length is)) in
      ext_get_or 0 (region s (2 * length is + p) (q - p)) (region (sides_of is) p (q - p)) (a ∙ sym b)
      (λ i l.
      let k : i < q - p = omega (arith, a) in
      let e : 2 * length is + p + i ≡ 2 * length is + (p + i) = omega arith in
      get_region s (2 * length is + p) (q - p) i k ∙ ap (λ (j : ℕ). get_or s j 0) e ∙ words_side s is flips words (p + i) (omega (arith, turn_high)) ∙ sym (get_region (sides_of is) p (q - p) i k))
      ∙ edge_region is p q h at-end

  -- the word that says whether the edge is flipped
  flag_here : flip_at s (length is) p ≡ eqb (flag_of is flips first) 1
  flag_here = ap (λ (k : ℕ). eqb (get_or s (4 * length is + k) 0) 1) turn_side ∙ ap (λ (w : ℕ). eqb w 1) (words_flag s is flips words first (side-below is p h))

  module _ (w : List ℕ) (W : Went keep is w p) where
    rest : List (List ℕ)
    rest = groups_of (pair_of is) (drop q (sides_of is))

    split-here : edges_of is ≡ W.done ++ ((first ∷ others) ∷ rest)
    unfolding rest
    split-here = W.split ∙ ap (λ (gs : List (List ℕ)). W.done ++ gs) (edge_splits is p q h at-end)

    flips-here : (os : List ℕ) → edges_of is ≡ W.done ++ ((first ∷ os) ∷ rest) → length (faces_of (first ∷ os)) ≡ 2 → eqb (flag_of is flips first) 1 ≡ flip_of flips (faces_of (first ∷ os))
    unfolding flip_of
    flips-here [] e l = absurd (omega arith)
    flips-here (b ∷ []) e l = ap (λ (x : ℕ). eqb x 1) (flag-two is W.done rest first b e flips) ∙ flag_bool _
    flips-here (b ∷ c ∷ os) e l = absurd (omega arith)

    -- the code's test is the rule
    pub test-here : kept_by mode seen (flip_at s (length is) p) tolerance (faces_of (region s (2 * length is + p) (q - p))) ≡ keep (faces_of (first ∷ others))
    unfolding kept
    test-here =
        ap (λ (l : List ℕ). kept_by mode seen (flip_at s (length is) p) tolerance (faces_of l)) sides_here
        ∙ flip_matters mode seen tolerance (flip_at s (length is) p) (flip_of flips (faces_of (first ∷ others))) (faces_of (first ∷ others)) (λ l. flag_here ∙ flips-here others split-here l)

    went_on : (w' : List ℕ) → pairs_of w' ++ strokes_by keep is rest ≡ pairs_of w ++ strokes_by keep is ((first ∷ others) ∷ rest) → Went keep is w' q
    unfolding rest
    went_on w' e = record {
      done = W.done ++ ((first ∷ others) ∷ []);
      split = split-here ∙ sym (append_assoc W.done ((first ∷ others) ∷ []) rest);
      pairs = e ∙ ap (λ (gs : List (List ℕ)). pairs_of w ++ strokes_by keep is gs) (sym (edge_splits is p q h at-end)) ∙ W.pairs;
    }

    pub turn-left : keep (faces_of (first ∷ others)) ≡ false → Went keep is w q
    turn-left n = went_on w (ap (λ (gs : List (List ℕ)). pairs_of w ++ gs) (sym (stroke_left keep is first others rest n)))

    pub turn-kept : keep (faces_of (first ∷ others)) ≡ true → length w ≡ 2 * m → Went keep is (w ++ (get_or s first 0 ∷ get_or s (length is + first) 0 ∷ [])) q
    turn-kept y l =
        let low = words_low s is flips words first (side-below is p h) in
        let high = words_high s is flips words first (side-below is p h) in
        went_on (w ++ (get_or s first 0 ∷ get_or s (length is + first) 0 ∷ []))
        (ap (λ (ps : List (List ℕ)). ps ++ strokes_by keep is rest) (pairs_more w m (get_or s first 0) (get_or s (length is + first) 0) l)
        ∙ append_assoc (pairs_of w) ((get_or s first 0 ∷ get_or s (length is + first) 0 ∷ []) ∷ []) (strokes_by keep is rest)
        ∙ ap (λ (ps : List (List ℕ)). pairs_of w ++ ps)
        (ap (λ (a : ℕ). (a ∷ get_or s (length is + first) 0 ∷ []) ∷ strokes_by keep is rest) low ∙ ap (λ (b : ℕ). (low_of is first ∷ b ∷ []) ∷ strokes_by keep is rest) high
        ∙ sym (stroke_kept keep is first others rest y)))

  -- what the next turn finds
  pub record Next (s' : List ℕ) (r : ℕ) : Type 0 where
    pub size : length s' ≡ length s
    pub front : take (5 * length is) s' ≡ take (5 * length is) s
    pub low : m ≤ r
    pub high : r ≤ m + 1
    pub went : Went keep is (region s (5 * length is) (2 * m)) p → Went keep is (region s' (5 * length is) (2 * r)) q

  next_left : (s' : List ℕ) (r : ℕ) → r ≡ m → s' ≡ s → (Went keep is (region s (5 * length is) (2 * m)) p → keep (faces_of (first ∷ others)) ≡ false) → Next s' r
  next_left s' r er es n = record {
    size = ap length es;
    front = ap (take (5 * length is)) es;
    low = omega arith;
    high = omega arith;
    went = λ W. rw (er, es) (turn-left (region s (5 * length is) (2 * m)) W (n W));
  }

  next_kept : (k : ℕ) → k ≡ first → (s' : List ℕ) (r : ℕ) → r ≡ m + 1 → s' ≡ with_pair s (length is) k m
      → (Went keep is (region s (5 * length is) (2 * m)) p → keep (faces_of (first ∷ others)) ≡ true) → Next s' r
  next_kept k ek s' r er es y =
      let l : m < length is = omega arith in
      record {
        size = ap length es ∙ pair_size s (length is) k m R l;
        front = ap (take (5 * length is)) es ∙ pair_front s (length is) k m R l;
        low = omega arith;
        high = omega arith;
        went = λ W.
            subst (λ (z : List ℕ). Went keep is z q)
            (sym (ap (λ (i : ℕ). region s' (5 * length is) (2 * i)) er ∙ ap (λ (z : List ℕ). region z (5 * length is) (2 * (m + 1))) es ∙ pair_more s (length is) k m R l
            ∙ ap (λ (i : ℕ). region s (5 * length is) (2 * m) ++ (get_or s i 0 ∷ get_or s (length is + i) 0 ∷ [])) ek))
            (turn-kept (region s (5 * length is) (2 * m)) W (y W) (length-region s (5 * length is) (2 * m) (omega (arith, R.long))));
      }

  pub next : (s' : List ℕ) (r : ℕ)
      → written r s' ≡ edge_kept (kept_by mode seen (flip_at s (length is) p) tolerance (faces_of (region s (2 * length is + p) (q - p)))) s (length is) (get_or s (2 * length is + p) 0) m → Next s' r
  unfolding edge_kept
  next s' r e = go (kept_by mode seen (flip_at s (length is) p) tolerance (faces_of (region s (2 * length is + p) (q - p)))) refl
    where
      go : (b : Bool) → kept_by mode seen (flip_at s (length is) p) tolerance (faces_of (region s (2 * length is + p) (q - p))) ≡ b → Next s' r
      go true t =
          let f : written r s' ≡ written (m + 1) (with_pair s (length is) (get_or s (2 * length is + p) 0) m) = e ∙ ap (λ (b : Bool). cond b (written (m + 1) (with_pair s (length is) (get_or s (2 * length is + p) 0) m)) (written m s)) t in
          next_kept (get_or s (2 * length is + p) 0) turn_side s' r (ap (λ (x : Written). x.count) f) (ap (λ (x : Written). x.words) f) (λ W. sym (test-here (region s (5 * length is) (2 * m)) W) ∙ t)
      go false t =
          let f : written r s' ≡ written m s = e ∙ ap (λ (b : Bool). cond b (written (m + 1) (with_pair s (length is) (get_or s (2 * length is + p) 0) m)) (written m s)) t in
          next_left s' r (ap (λ (x : Written). x.count) f) (ap (λ (x : Written). x.words) f) (λ W. sym (test-here (region s (5 * length is) (2 * m)) W) ∙ t)

-- ---- an edge written, or not
pub edge_yes : (b : Bool) (s t : List ℕ) (n k m : ℕ) → b ≡ true → t ≡ with_pair s n k m → written (m + 1) t ≡ edge_kept b s n k m
unfolding edge_kept
edge_yes b s t n k m e f = rw e (ap (written (m + 1)) f)

pub edge_no : (b : Bool) (s : List ℕ) (n k m : ℕ) → b ≡ false → written m s ≡ edge_kept b s n k m
unfolding edge_kept
edge_no b s n k m e = rw e

pub room_same : (s t : List ℕ) (n : ℕ) → Room s n → length t ≡ length s → Room t n
room_same s t n R e = record { few = R.few; long = omega (arith, R.long, e) }
