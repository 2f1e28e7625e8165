-- The least of what the vertices are worth is the vertex that the definition finds.
use Rattle.path.specs.Strokes.{point_at}
use mathlib.Core.Path.{◌≡◌, refl, sym, ap, ◌∙◌, subst}
use mathlib.Core.Bool.{Bool, true, false, cond, ◌&&◌, true≢false}
use mathlib.Core.List.{List}
use Prim.Native.Nat.{ℕ, zero, suc, ◌+◌, ◌-◌, ◌*◌, ◌%◌, ◌≤◌, ◌<◌}
use native.Mathlib.Omega.{arith}
use native.Mathlib.Numerals.{lt_of_le_of_ne}
use lib.Dec.{eqb, leb, ltb}
use lib.Ieee.{Float}
use borrow.Author.Tests.{eqb-true, eqb-false, eq-eqb, leb-true, leb-false, lt-ltb, le-ltb, ltb-true, ltb-false}
use Rattle.vector.specs.declared.Vector.{Vector}
use Rattle.mesh_weld.specs.declared.Cube.{Cube}
use Rattle.std.specs.Prelude.{Option, Some, None}
use Rattle.mesh_weld.specs.Weld.{near, or_else, oldest, find}
use Rattle.mesh_weld.specs.InnerTable.{key, cube_of, Counted, place_of, rank_of, score_of, top, score_at, Least, About}
use Rattle.mesh_weld.proofs.Finds.{hits, look_in, three_of, find-by}

-- the place of a cell among three
data Spot (w x n : ℕ) : Type 0 where
  beside : x ≤ w + 1 → w ≤ x + 1 → n + x ≡ w + 1 → Spot w x n
  off : (x ≤ w + 1 → w ≤ x + 1 → ⊥) → n ≡ 100 → Spot w x n

spot : (w x : ℕ) → Spot w x (place_of w x)
unfolding place_of
spot w x = go (leb x (w + 1)) refl (leb w (x + 1)) refl
  where
    go : (t : Bool) → leb x (w + 1) ≡ t → (u : Bool) → leb w (x + 1) ≡ u → Spot w x (cond t (cond u (w + 1 - x) 100) 100)
    go true t true u = let a = leb-true x (w + 1) t in beside a (leb-true w (x + 1) u) (omega arith)
    go true t false u = off (λ a b. omega (arith, leb-false w (x + 1) u)) refl
    go false t u d = off (λ a b. omega (arith, leb-false x (w + 1) t)) refl

-- what a vertex is worth
data Worth (p : Vector) (c : Cube) (v : Vector) (i n : ℕ) : Type 0 where
  far : near p v ≡ false → n ≡ top → Worth p c v i n
  close : near p v ≡ true → (x y z : ℕ) → Spot (key v.x) c.x x → Spot (key v.y) c.y y → Spot (key v.z) c.z z
      → n ≡ (x * 9 + y * 3 + z) * 1048576 + i → Worth p c v i n

worth : (p : Vector) (c : Cube) (v : Vector) (i : ℕ) → Worth p c v i (score_of p c v i)
unfolding score_of rank_of
worth p c v i = go (near p v) refl
  where
    go : (t : Bool) → near p v ≡ t
        → Worth p c v i (cond t ((place_of (key v.x) c.x * 9 + place_of (key v.y) c.y * 3 + place_of (key v.z) c.z) * 1048576 + i) top)
    go true t = close t _ _ _ (spot (key v.x) c.x) (spot (key v.y) c.y) (spot (key v.z) c.z) refl
    go false t = far t refl

-- ---- the first found among places from a to b, of k numbers with scores s
module _ (s : ℕ → ℕ) where
  abbrev Among : ℕ → ℕ → ℕ → Option ℕ → Type 0
  Among k a b (Some i) = (i < k) × (a ≤ s i) × (s i < b) × ((j : ℕ) → j < k → a ≤ s j → s i ≤ s j)
  Among k a b None = (j : ℕ) → j < k → a ≤ s j → b ≤ s j

  among_or : (k a b d : ℕ) (f g : Option ℕ) → a ≤ b → b ≤ d → Among k a b f → Among k b d g → Among k a d (or_else f g)
  unfolding or_else
  among_or k a b d (Some i) g ab bd h l = (h.0, h.1, omega (arith, h.2), h.3)
  among_or k a b d None (Some i) ab bd h l = (l.0, omega (arith, l.1), l.2, λ j m e. l.3 j m (h j m e))
  among_or k a b d None None ab bd h l = λ j m e. l j m (h j m e)

  -- one place, whose numbers are those of q
  module _ (q : ℕ → Bool) (a b : ℕ) where
    more : (k : ℕ) (f : Option ℕ) → (q k ≡ true → s k ≡ a + k) → (q k ≡ false → a ≤ s k → b ≤ s k)
        → ((i : ℕ) → i < k → q i ≡ true → s i ≡ a + i) → ((i : ℕ) → i < k → q i ≡ false → a ≤ s i → b ≤ s i)
        → a + k < b → Among k a b f → (t : Bool) → q k ≡ t → Among (suc k) a b (or_else f (cond t (Some k) None))
    unfolding or_else
    more k (Some i) y n ys ns l h t e = (omega (arith, h.0), h.1, h.2, λ j m d. go j d (eqb j k) refl m)
      where
        is : s i ≡ a + i
        is = at (q i) refl
          where
            at : (u : Bool) → q i ≡ u → s i ≡ a + i
            at true u = ys i h.0 u
            at false u = let z = ns i h.0 u h.1 in absurd (omega (arith, h.2))

        last : (u : Bool) → q k ≡ u → a ≤ s k → s i ≤ s k
        last true u d = omega (arith, y u, is, h.0)
        last false u d = omega (arith, n u d, h.2)

        go : (j : ℕ) → a ≤ s j → (u : Bool) → eqb j k ≡ u → j < suc k → s i ≤ s j
        go j d true u m = let o = eqb-true j k u in rw o (last (q k) refl (rw o at d))
        go j d false u m = h.3 j (lt_of_le_of_ne (omega arith) (eqb-false j k u)) d
    more k None y n ys ns l h true e = (omega arith, omega (arith, y e), omega (arith, y e), λ j m d. go j d (eqb j k) refl m)
      where
        go : (j : ℕ) → a ≤ s j → (u : Bool) → eqb j k ≡ u → j < suc k → s k ≤ s j
        go j d true u m = rw (eqb-true j k u) (omega arith)
        go j d false u m = let z = h j (lt_of_le_of_ne (omega arith) (eqb-false j k u)) d in omega (arith, y e)
    more k None y n ys ns l h false e = λ j m d. go j d (eqb j k) refl m
      where
        go : (j : ℕ) → a ≤ s j → (u : Bool) → eqb j k ≡ u → j < suc k → b ≤ s j
        go j d true u m = let o = eqb-true j k u in rw o (n e (rw o at d))
        go j d false u m = h j (lt_of_le_of_ne (omega arith) (eqb-false j k u)) d

    among-oldest : (k : ℕ) → ((i : ℕ) → i < k → q i ≡ true → s i ≡ a + i) → ((i : ℕ) → i < k → q i ≡ false → a ≤ s i → b ≤ s i)
        → a + k ≤ b → Among k a b (oldest q k)
    unfolding oldest
    among-oldest zero y n l = λ j m d. absurd (omega arith)
    among-oldest (suc k) y n l =
        more k (oldest q k) (y k (omega arith)) (n k (omega arith)) (λ i m. y i (omega arith)) (λ i m. n i (omega arith)) (omega arith)
        (among-oldest k (λ i m. y i (omega arith)) (λ i m. n i (omega arith)) (omega arith)) (q k) refl

  among_three : (k a w : ℕ) (f : ℕ → Option ℕ) (z : ℕ) → Among k a (a + w) (f (z - 1)) → Among k (a + w) (a + w + w) (f z) → Among k (a + w + w) (a + w + w + w) (f (z + 1))
      → Among k a (a + w + w + w) (three_of f z)
  unfolding three_of
  among_three k a w f z h l m =
      among_or k a (a + w) (a + w + w + w) (f (z - 1)) (or_else (f z) (f (z + 1))) (omega arith) (omega arith) h
      (among_or k (a + w) (a + w + w) (a + w + w + w) (f z) (f (z + 1)) (omega arith) (omega arith) l m)

-- ---- the test of one cell, taken apart and put together
both : (a b : Bool) → a && b ≡ true → (a ≡ true) × (b ≡ true)
both true b h = (refl, h)
both false b h = (h, absurd (true≢false (sym h)))

pub hits_all : (p : Vector) (x y z : ℕ) (v : Vector) → hits p x y z v ≡ true → (near p v ≡ true) × (key v.x ≡ x) × (key v.y ≡ y) × (key v.z ≡ z)
unfolding hits
hits_all p x y z v h =
    let tx = eqb (key v.x) x in
    let ty = eqb (key v.y) y in
    let tz = eqb (key v.z) z in
    let a = both (near p v) (tx && (ty && tz)) h in
    let b = both tx (ty && tz) a.1 in
    let d = both ty tz b.1 in
    (a.0, eqb-true (key v.x) x b.0, eqb-true (key v.y) y d.0, eqb-true (key v.z) z d.1)

pub hits_make : (p : Vector) (x y z : ℕ) (v : Vector) → near p v ≡ true → key v.x ≡ x → key v.y ≡ y → key v.z ≡ z → hits p x y z v ≡ true
unfolding hits
hits_make p x y z v n ex ey ez = rw (n, eq-eqb _ _ ex, eq-eqb _ _ ey, eq-eqb _ _ ez)

-- ---- one cell of the 27, at the places a, b, d
module _ (p : Vector) (c : Cube) (x y z a b d : ℕ) (ex : x + 1 ≡ c.x + a) (ey : y + 1 ≡ c.y + b) (ez : z + 1 ≡ c.z + d) (la : a ≤ 2) (lb : b ≤ 2) (ld : d ≤ 2) where
  yes : (i : ℕ) (v : Vector) {n : ℕ} → Worth p c v i n → near p v ≡ true → key v.x ≡ x → key v.y ≡ y → key v.z ≡ z → n ≡ (a * 9 + b * 3 + d) * 1048576 + i
  yes i v (far e o) n hx hy hz = absurd (true≢false (sym n ∙ e))
  yes i v (close e r s t (off f g) sy sz o) n hx hy hz = absurd (f (omega arith) (omega arith))
  yes i v (close e r s t (beside f1 f2 f3) (off f g) sz o) n hx hy hz = absurd (f (omega arith) (omega arith))
  yes i v (close e r s t (beside f1 f2 f3) (beside g1 g2 g3) (off f g) o) n hx hy hz = absurd (f (omega arith) (omega arith))
  yes i v (close e r s t (beside f1 f2 f3) (beside g1 g2 g3) (beside h1 h2 h3) o) n hx hy hz = omega arith

  no : (i : ℕ) (v : Vector) {n : ℕ} → i < 1048576 → Worth p c v i n → hits p x y z v ≡ false → (a * 9 + b * 3 + d) * 1048576 ≤ n
      → (a * 9 + b * 3 + d) * 1048576 + 1048576 ≤ n
  no i v m (far e o) h l = omega arith
  no i v m (close e r s t (off f g) sy sz o) h l = omega arith
  no i v m (close e r s t (beside f1 f2 f3) (off f g) sz o) h l = omega arith
  no i v m (close e r s t (beside f1 f2 f3) (beside g1 g2 g3) (off f g) o) h l = omega arith
  no i v {n} m (close e r s t (beside f1 f2 f3) (beside g1 g2 g3) (beside h1 h2 h3) o) h l = go (eqb (r * 9 + s * 3 + t) (a * 9 + b * 3 + d)) refl
    where
      go : (u : Bool) → eqb (r * 9 + s * 3 + t) (a * 9 + b * 3 + d) ≡ u → (a * 9 + b * 3 + d) * 1048576 + 1048576 ≤ n
      go true u =
          let w : r * 9 + s * 3 + t ≡ a * 9 + b * 3 + d = eqb-true _ _ u in
          absurd (true≢false (sym (hits_make p x y z v e (omega arith) (omega arith) (omega arith)) ∙ h))
      go false u = let w = eqb-false (r * 9 + s * 3 + t) (a * 9 + b * 3 + d) u in
          let j : r * 9 + s * 3 + t < a * 9 + b * 3 + d + 1 → ⊥ = λ g. w (omega arith) in at (leb (a * 9 + b * 3 + d + 1) (r * 9 + s * 3 + t)) refl j
        where
          at : (u : Bool) → leb (a * 9 + b * 3 + d + 1) (r * 9 + s * 3 + t) ≡ u → (r * 9 + s * 3 + t < a * 9 + b * 3 + d + 1 → ⊥) → (a * 9 + b * 3 + d) * 1048576 + 1048576 ≤ n
          at true u j = let g = leb-true (a * 9 + b * 3 + d + 1) (r * 9 + s * 3 + t) u in omega arith
          at false u j = absurd (j (leb-false (a * 9 + b * 3 + d + 1) (r * 9 + s * 3 + t) u))

  in_cell_lem : (vs : List Float) (k : ℕ) → k ≤ 1048576
      → Among (score_at vs p c) k ((a * 9 + b * 3 + d) * 1048576) ((a * 9 + b * 3 + d) * 1048576 + 1048576) (look_in vs k p x y z)
  unfolding look_in score_at
  in_cell_lem vs k small =
      among-oldest (λ i. score_of p c (point_at vs i) i) (λ i. hits p x y z (point_at vs i)) ((a * 9 + b * 3 + d) * 1048576) ((a * 9 + b * 3 + d) * 1048576 + 1048576) k
      (λ i m t. let h = hits_all p x y z (point_at vs i) t in yes i (point_at vs i) (worth p c (point_at vs i) i) h.0 h.1 h.2 h.3)
      (λ i m t. no i (point_at vs i) (omega arith) (worth p c (point_at vs i) i) t)
      (omega arith)

-- ---- the 27 cells
module _ (vs : List Float) (k : ℕ) (p : Vector) (c : Cube) (small : k ≤ 1048576) (counted : Counted c) where
  line : (x y a b : ℕ) → x + 1 ≡ c.x + a → y + 1 ≡ c.y + b → a ≤ 2 → b ≤ 2
      → Among (score_at vs p c) k ((a * 9 + b * 3) * 1048576) ((a * 9 + b * 3) * 1048576 + 1048576 + 1048576 + 1048576) (three_of (λ z. look_in vs k p x y z) c.z)
  line x y a b ex ey la lb =
      let e1 : (a * 9 + b * 3 + 0) * 1048576 ≡ (a * 9 + b * 3) * 1048576 = omega arith in
      let e2 : (a * 9 + b * 3 + 1) * 1048576 ≡ (a * 9 + b * 3) * 1048576 + 1048576 = omega arith in
      let e3 : (a * 9 + b * 3 + 2) * 1048576 ≡ (a * 9 + b * 3) * 1048576 + 1048576 + 1048576 = omega arith in
      let at : (d : ℕ) (z : ℕ) → z + 1 ≡ c.z + d → d ≤ 2 → (l : ℕ) → (a * 9 + b * 3 + d) * 1048576 ≡ l → Among (score_at vs p c) k l (l + 1048576) (look_in vs k p x y z) =
      λ d z ez ld l e. subst (λ (l : ℕ). Among (score_at vs p c) k l (l + 1048576) (look_in vs k p x y z)) e (in_cell_lem p c x y z a b d ex ey ez la lb ld vs k small) in
      among_three (score_at vs p c) k ((a * 9 + b * 3) * 1048576) 1048576 (λ z. look_in vs k p x y z) c.z
      (at 0 (c.z - 1) (omega (arith, counted.z_low)) (omega arith) _ e1) (at 1 c.z (omega arith) (omega arith) _ e2) (at 2 (c.z + 1) (omega arith) (omega arith) _ e3)

  layer : (x a : ℕ) → x + 1 ≡ c.x + a → a ≤ 2
      → Among (score_at vs p c) k (a * 9437184) (a * 9437184 + 3145728 + 3145728 + 3145728) (three_of (λ y. three_of (λ z. look_in vs k p x y z) c.z) c.y)
  layer x a ex la =
      let at : (b : ℕ) (y : ℕ) → y + 1 ≡ c.y + b → b ≤ 2 → (l : ℕ) → (a * 9 + b * 3) * 1048576 ≡ l
      → Among (score_at vs p c) k l (l + 3145728) (three_of (λ z. look_in vs k p x y z) c.z) =
      λ b y ey lb l e. let w : l + 1048576 + 1048576 + 1048576 ≡ l + 3145728 = omega arith in
      subst (λ (u : ℕ). Among (score_at vs p c) k l u (three_of (λ z. look_in vs k p x y z) c.z)) w
      (subst (λ (l : ℕ). Among (score_at vs p c) k l (l + 1048576 + 1048576 + 1048576) (three_of (λ z. look_in vs k p x y z) c.z)) e (line x y a b ex ey la lb)) in
      among_three (score_at vs p c) k (a * 9437184) 3145728 (λ y. three_of (λ z. look_in vs k p x y z) c.z) c.y
      (at 0 (c.y - 1) (omega (arith, counted.y_low)) (omega arith) _ (omega arith)) (at 1 c.y (omega arith) (omega arith) _ (omega arith)) (at 2 (c.y + 1) (omega arith) (omega arith) _ (omega arith))

  pub among_all : Among (score_at vs p c) k 0 top (three_of (λ x. three_of (λ y. three_of (λ z. look_in vs k p x y z) c.z) c.y) c.x)
  among_all =
      let at : (a : ℕ) (x : ℕ) → x + 1 ≡ c.x + a → a ≤ 2 → (l : ℕ) → a * 9437184 ≡ l
      → Among (score_at vs p c) k l (l + 9437184) (three_of (λ y. three_of (λ z. look_in vs k p x y z) c.z) c.y) =
      λ a x ex la l e. let w : l + 3145728 + 3145728 + 3145728 ≡ l + 9437184 = omega arith in
      subst (λ (u : ℕ). Among (score_at vs p c) k l u (three_of (λ y. three_of (λ z. look_in vs k p x y z) c.z) c.y)) w
      (subst (λ (l : ℕ). Among (score_at vs p c) k l (l + 3145728 + 3145728 + 3145728) (three_of (λ y. three_of (λ z. look_in vs k p x y z) c.z) c.y)) e (layer x a ex la)) in
      among_three (score_at vs p c) k 0 9437184 (λ x. three_of (λ y. three_of (λ z. look_in vs k p x y z) c.z) c.y) c.x
      (at 0 (c.x - 1) (omega (arith, counted.x_low)) (omega arith) _ (omega arith)) (at 1 c.x (omega arith) (omega arith) _ (omega arith)) (at 2 (c.x + 1) (omega arith) (omega arith) _ (omega arith))

-- ---- the least score is the vertex found
unfoldable pub found_at : ℕ → Option ℕ
found_at r = cond (ltb r top) (Some (r % 1048576)) None

about : (vs : List Float) (p : Vector) (c : Cube) (i : ℕ) → score_at vs p c i < top → About vs c i
unfolding score_at
about vs p c i l = go (worth p c (point_at vs i) i) l
  where
    go : {n : ℕ} → Worth p c (point_at vs i) i n → n < top → About vs c i
    go (far e o) l = absurd (omega arith)
    go (close e r s t (off f g) sy sz o) l = absurd (omega arith)
    go (close e r s t (beside f1 f2 f3) (off f g) sz o) l = absurd (omega arith)
    go (close e r s t (beside f1 f2 f3) (beside g1 g2 g3) (off f g) o) l = absurd (omega arith)
    go (close e r s t (beside f1 f2 f3) (beside g1 g2 g3) (beside h1 h2 h3) o) l =
        record { x = record { low = f1; high = f2 }; y = record { low = g1; high = g2 }; z = record { low = h1; high = h2 } }

number : (vs : List Float) (p : Vector) (c : Cube) (i : ℕ) → i < 1048576 → score_at vs p c i < top → score_at vs p c i % 1048576 ≡ i
unfolding score_at
number vs p c i m l = go (worth p c (point_at vs i) i) l
  where
    go : {n : ℕ} → Worth p c (point_at vs i) i n → n < top → n % 1048576 ≡ i
    go (far e o) l = absurd (omega arith)
    go (close e r s t sx sy sz o) l = omega arith

module _ (vs : List Float) (p : Vector) (c : Cube) (k r : ℕ) (small : k ≤ 1048576) (w : Least (About vs c) (score_at vs p c) k top r) where
  under : (i : ℕ) → i < k → r ≤ score_at vs p c i
  under i m = go (ltb (score_at vs p c i) top) refl
    where
      go : (t : Bool) → ltb (score_at vs p c i) top ≡ t → r ≤ score_at vs p c i
      go true t = w.all i m (about vs p c i (ltb-true _ _ t))
      go false t = omega (arith, ltb-false (score_at vs p c i) top t, w.below)

  least-is : (f : Option ℕ) → Among (score_at vs p c) k 0 top f → found_at r ≡ f
  unfolding found_at
  least-is (Some i) h =
      let low = under i h.0 in
      let high = w.to (score_at vs p c i) (omega (arith, h.2)) (λ j m. h.3 j m (omega arith)) in
      let e : r ≡ score_at vs p c i = omega arith in
      let n = number vs p c i (omega (arith, h.0)) h.2 in
      rw (lt-ltb r top (omega (arith, h.2)), e, n)
  least-is None h =
      let high = w.to top (omega arith) (λ j m. h j m (omega arith)) in
      rw (le-ltb r top high)

pub found : (vs : List Float) (p : Vector) (c : Cube) (k r : ℕ) → k ≤ 1048576 → c ≡ cube_of p → Counted c → Least (About vs c) (score_at vs p c) k top r
    → found_at r ≡ find vs k p
unfolding cube_of
found vs p c k r small e counted w =
    least-is vs p c k r small w _ (among_all vs k p c small counted)
    ∙ find-by vs k p c.x c.y c.z (ap (λ (q : Cube). q.x) e) (ap (λ (q : Cube). q.y) e) (ap (λ (q : Cube). q.z) e)

pub found_at_lem : (r : ℕ) → r < top → Some (r % 1048576) ≡ found_at r
unfolding found_at
found_at_lem r l = rw (lt-ltb r top l)

pub found_none : (r : ℕ) → top ≤ r → None ≡ found_at r
unfolding found_at
found_none r l = rw (le-ltb r top l)

-- ---- the tests of the code
module _ (p : Vector) (c : Cube) (v : Vector) (i : ℕ) where
  pub score_near : near p v ≡ true → rank_of c v * 1048576 + i ≡ score_of p c v i
  unfolding score_of
  score_near n = rw n
