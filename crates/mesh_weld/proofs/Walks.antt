-- The way of a coarse cell passes all that are in it, and ends.
use mathlib.Core.Path.{◌≡◌, refl, sym, ap, ◌∙◌, subst}
use mathlib.Core.Bool.{Bool, true, false, cond}
use mathlib.Core.List.{List, [], ◌∷◌, map}
use Prim.Native.Nat.{ℕ, zero, suc, ◌+◌, ◌-◌, ◌*◌, ◌/◌, ◌%◌, ◌≤◌, ◌<◌}
use native.Mathlib.Omega.{arith}
use lib.ListN.{get_or}
use lib.Dec.{eqb, ltb}
use borrow.Author.Tests.{eqb-true, eqb-false, eq-eqb, ne_eqb, ltb-true, ltb-false, le-ltb}
use Rattle.refusal.specs.Each.{Each}
use lib.Ieee.{Float}
use Rattle.mesh_weld.specs.declared.Cube.{Cube}
use Rattle.mesh_weld.specs.declared.Way.{Way}
use Rattle.mesh_weld.specs.declared.Ways.{Ways}
use Rattle.vector.specs.declared.Vector.{Vector}
use Rattle.path.specs.Strokes.{point_at}
use Rattle.mesh_weld.specs.Weld.{near}
use Rattle.mesh_weld.proofs.Coarse.{Among, here, after}
use Rattle.mesh_weld.specs.InnerTable.{coarse_at, bucket_of, turned_of, link_of, On, Ends, Older, Table, way_at, way_of, onward_of, lesser_of, worth_of, all_worth, close_of, all_close, all_ways, nexts, NoMore, Least, top, rank_of, score_of, score_at}

-- a link is a slot further on than the vertex's own, and one of the table's
module _ (s : List ℕ) (m k at next : ℕ) (o : Older s m k) (e : next ≡ get_or s at 0) (some : next ≡ 0 → ⊥) where
  pub full : get_or s at 0 ≡ next - 1 + 1
  full = let r : next ≡ next - 1 + 1 = omega arith in sym e ∙ r

  pub number : next - 1 < k
  number = o.below at (next - 1) full

  pub further : (q : Cube) → at < link_of (next - 1) q m
  further q = omega (arith, o.before at (next - 1) full)

  pub within : (q : Cube) → link_of (next - 1) q m < m + k * 2
  within q = omega (arith, number)

-- what a slot holds is the number plus 1 of one of the k vertices, or 0
pub few : (s : List ℕ) (m k at : ℕ) → Older s m k → get_or s at 0 ≤ k
few s m k at o = go (get_or s at 0) refl
  where
    go : (n : ℕ) → get_or s at 0 ≡ n → n ≤ k
    go zero e = omega arith
    go (suc v) e = let l = o.below at v (let r : suc v ≡ v + 1 = omega arith in e ∙ r) in omega arith

-- the lesser of two numbers
module _ (a b : ℕ) where
  pub data Lesser (r : ℕ) : Type 0 where
    one : a < b → r ≡ a → Lesser r
    other : b ≤ a → r ≡ b → Lesser r

  pub lesser : Lesser (lesser_of a b)
  unfolding lesser_of
  lesser = go (ltb a b) refl
    where
      go : (t : Bool) → ltb a b ≡ t → Lesser (cond t a b)
      go true t = one (ltb-true a b t) refl
      go false t = other (ltb-false a b t) refl

  pub lesser-most : lesser_of a b ≤ b
  lesser-most = go (lesser_of a b) lesser
    where
      go : (r : ℕ) → Lesser r → r ≤ b
      go r (one l e) = omega arith
      go r (other l e) = omega arith

-- what the code does by its tests
module _ (s : List ℕ) (m : ℕ) (w : Way) where
  pub on-ended : w.next ≡ 0 → w ≡ onward_of s m w
  unfolding onward_of
  on-ended e = rw (eq-eqb w.next 0 e)

  pub on-met : (w.next ≡ 0 → ⊥) → (at : ℕ) (q : Cube) → at ≡ link_of (w.next - 1) w.q m → q ≡ turned_of w.q → way_at (get_or s at 0) q ≡ onward_of s m w
  unfolding onward_of
  on-met some at q e g = rw (ne_eqb w.next 0 some, e, g)

module _ (f : ℕ → ℕ) (best : ℕ) (w : Way) where
  pub worth_met : (w.next ≡ 0 → ⊥) → lesser_of (f (w.next - 1)) best ≡ worth_of f best w
  unfolding worth_of
  worth_met some = rw (ne_eqb w.next 0 some)

module _ (vs : List Float) (p : Vector) (w : Way) where
  pub close_ended : w.next ≡ 0 → 0 ≡ close_of vs p w
  unfolding close_of
  close_ended e = rw (eq-eqb w.next 0 e)

  pub close_met : (w.next ≡ 0 → ⊥) → (t : Bool) → near p (point_at vs (w.next - 1)) ≡ t → cond t 1 0 ≡ close_of vs p w
  unfolding close_of
  close_met some t e = rw (ne_eqb w.next 0 some, e)

  pub close_most : close_of vs p w ≤ 1
  unfolding close_of
  close_most = go (eqb w.next 0) (near p (point_at vs (w.next - 1)))
    where
      go : (t u : Bool) → cond t 0 (cond u 1 0) ≤ 1
      go true u = omega arith
      go false true = omega arith
      go false false = omega arith

  -- a way that is close is at a vertex that is near
  pub close_some : (close_of vs p w ≡ 0 → ⊥) → (0 < w.next) × (near p (point_at vs (w.next - 1)) ≡ true)
  unfolding close_of
  close_some h = go (eqb w.next 0) refl (near p (point_at vs (w.next - 1))) refl h
    where
      go : (t : Bool) → eqb w.next 0 ≡ t → (u : Bool) → near p (point_at vs (w.next - 1)) ≡ u → (◌≡◌ {A = ℕ} (cond t 0 (cond u 1 0)) 0 → ⊥) → (0 < w.next) × (near p (point_at vs (w.next - 1)) ≡ true)
      go true t u e h = absurd (h refl)
      go false t true e h = let n = eqb-false w.next 0 t in (omega arith, e)
      go false t false e h = absurd (h refl)

-- the bits of eight ways, taken apart
module _ (n a b c d e f g h : ℕ) (s : n ≡ a + 2 * (b + 2 * (c + 2 * (d + 2 * (e + 2 * (f + 2 * (g + 2 * (h + 0))))))))
    (ka : a ≤ 1) (kb : b ≤ 1) (kc : c ≤ 1) (kd : d ≤ 1) (ke : e ≤ 1) (kf : f ≤ 1) (kg : g ≤ 1) (kh : h ≤ 1) where
  bits : (n % 2 ≡ a) × (n / 2 % 2 ≡ b) × (n / 4 % 2 ≡ c) × (n / 8 % 2 ≡ d) × (n / 16 % 2 ≡ e) × (n / 32 % 2 ≡ f) × (n / 64 % 2 ≡ g) × (n / 128 % 2 ≡ h)
  bits = (omega arith, omega arith, omega arith, omega arith, omega arith, omega arith, omega arith, omega arith)

pub way_bits : (vs : List Float) (p : Vector) (w : Ways) (n : ℕ) → n ≡ all_close vs p (all_ways w)
    → (n % 2 ≡ close_of vs p w.a) × (n / 2 % 2 ≡ close_of vs p w.b) × (n / 4 % 2 ≡ close_of vs p w.c) × (n / 8 % 2 ≡ close_of vs p w.d)
    × (n / 16 % 2 ≡ close_of vs p w.e) × (n / 32 % 2 ≡ close_of vs p w.f) × (n / 64 % 2 ≡ close_of vs p w.g) × (n / 128 % 2 ≡ close_of vs p w.h)
way_bits vs p w n s =
    bits n (close_of vs p w.a) (close_of vs p w.b) (close_of vs p w.c) (close_of vs p w.d) (close_of vs p w.e) (close_of vs p w.f) (close_of vs p w.g) (close_of vs p w.h) s
    (close_most vs p w.a) (close_most vs p w.b) (close_most vs p w.c) (close_most vs p w.d) (close_most vs p w.e) (close_most vs p w.f) (close_most vs p w.g) (close_most vs p w.h)

-- where no vertex ahead is near, the least stays
module _ (vs : List Float) (p : Vector) (c : Cube) (best : ℕ) (l : best ≤ top) where
  pub far_one : (w : Way) → close_of vs p w ≡ 0 → worth_of (score_at vs p c) best w ≡ best
  unfolding close_of worth_of score_at score_of lesser_of
  far_one w = go (eqb w.next 0) (near p (point_at vs (w.next - 1)))
    where
      go : (t u : Bool) → ◌≡◌ {A = ℕ} (cond t 0 (cond u 1 0)) 0
          → cond t best (cond (ltb (cond u (rank_of c (point_at vs (w.next - 1)) * 1048576 + (w.next - 1)) top) best) (cond u (rank_of c (point_at vs (w.next - 1)) * 1048576 + (w.next - 1)) top) best) ≡ best
      go true u e = refl
      go false true e = absurd (omega arith)
      go false false e = rw (le-ltb top best l)

  pub all_far : (ws : List Way) → all_close vs p ws ≡ 0 → best ≡ all_worth (score_at vs p c) best ws
  all_far [] e = refl
  all_far (w ∷ ws) e = all_far ws (omega arith) ∙ ap (λ (b : ℕ). all_worth (score_at vs p c) b ws) (sym (far_one w (omega arith)))

pub no_more : (k n : ℕ) → k ≤ n → (ws : List Way) → Each (NoMore k) ws → Each (NoMore n) ws
no_more k n l [] h = tt
no_more k n l (w ∷ ws) h = (omega (arith, h.0), no_more k n l ws h.1)

-- what a way has before it and what it does: an end, or a vertex
module _ (s : List ℕ) (f : ℕ → ℕ) (m best : ℕ) (w : Way) where
  pub data Step (r : ℕ) (v : Way) : Type 0 where
    ended : w.next ≡ 0 → r ≡ best → v ≡ w → Step r v
    met : (w.next ≡ 0 → ⊥) → r ≤ f (w.next - 1) → r ≤ best → ((c : ℕ) → c ≤ f (w.next - 1) → c ≤ best → c ≤ r)
        → v ≡ way_at (get_or s (link_of (w.next - 1) w.q m) 0) (turned_of w.q) → Step r v

  pub step : Step (worth_of f best w) (onward_of s m w)
  unfolding worth_of onward_of
  step = go (eqb w.next 0) refl (lesser (f (w.next - 1)) best)
    where
      go : (t : Bool) → eqb w.next 0 ≡ t → Lesser (f (w.next - 1)) best (lesser_of (f (w.next - 1)) best)
          → Step (cond t best (lesser_of (f (w.next - 1)) best)) (cond t w (way_at (get_or s (link_of (w.next - 1) w.q m) 0) (turned_of w.q)))
      go true t l = ended (eqb-true w.next 0 t) refl refl
      go false t (one l e) = met (eqb-false w.next 0 t) (omega arith) (omega arith) (λ c p q. omega arith) refl
      go false t (other l e) = met (eqb-false w.next 0 t) (omega arith) (omega arith) (λ c p q. omega arith) refl

module _ (vs : List Float) (s : List ℕ) (f : ℕ → ℕ) (m k : ℕ) where
  -- vertex i is passed, or ahead
  pub data Met (best at : ℕ) (q : Cube) (i : ℕ) : Type 0 where
    passed : best ≤ f i → Met best at q i
    ahead : On s m i at q → Met best at q i

  -- the way of a coarse cell as far as it is walked: what is in that cell is passed, or ahead
  pub record Walk (home : Cube) (best : ℕ) (w : Way) : Type 0 where
    pub at : ℕ
    pub slot : w.next ≡ get_or s at 0
    pub all : (i : ℕ) → i < k → coarse_at vs i ≡ home → Met best at w.q i

  walk_start : (home : Cube) (best : ℕ) → Table s (coarse_at vs) m k → Walk home best (way_of s m home)
  unfolding way_of
  walk_start home best t =
      record { at = bucket_of home m; slot = refl; all = λ i h d. ahead (subst (λ (q : Cube). On s m i (bucket_of q m) q) d (t.held i h)) }

  -- less is known to be passed
  lower : {best now at : ℕ} {q : Cube} {i : ℕ} → now ≤ best → Met best at q i → Met now at q i
  lower l (passed h) = passed (omega arith)
  lower l (ahead h) = ahead h

  walk-lower : (home : Cube) (best now : ℕ) (w : Way) → now ≤ best → Walk home best w → Walk home now w
  walk-lower home best now w l h = record { at = h.at; slot = h.slot; all = λ i d e. lower l (h.all i d e) }

  walk-on : (home : Cube) (best now : ℕ) (w : Way) → Walk home best w → Step s f m best w now (onward_of s m w) → Walk home now (onward_of s m w)
  walk-on home best now w h (ended e r v) = rw (v, r) h
  walk-on home best now w h (met some low le to v) =
      rw v (record { at = link_of (w.next - 1) w.q m; slot = refl; all = λ i d e. go i (h.all i d e) })
    where
      go : (i : ℕ) → Met best h.at w.q i → Met now (link_of (w.next - 1) w.q m) (turned_of w.q) i
      go i (passed d) = passed (omega arith)
      go i (ahead (On.here d)) =
          let e : w.next - 1 ≡ i = omega (arith, h.slot) in
          passed (subst (λ (x : ℕ). now ≤ f x) e low)
      go i (ahead (On.past u d r)) =
          let e : u ≡ w.next - 1 = omega (arith, h.slot) in
          ahead (subst (λ (x : ℕ). On s m i (link_of x w.q m) (turned_of w.q)) e r)

  walk_end : (home : Cube) (best : ℕ) (w : Way) → Walk home best w → w.next ≡ 0 → (i : ℕ) → i < k → coarse_at vs i ≡ home → best ≤ f i
  walk_end home best w h e i d c = go (h.all i d c)
    where
      go : Met best h.at w.q i → best ≤ f i
      go (passed d) = d
      go (ahead (On.here d)) = absurd (omega (arith, h.slot))
      go (ahead (On.past u d r)) = absurd (omega (arith, h.slot))

  -- how many vertices may still come: those younger than the one ahead, and that one
  unfoldable pub left : Way → ℕ
  left w = cond (eqb w.next 0) 0 (k + 1 - w.next)

  left_ended : (w : Way) → w.next ≡ 0 → left w ≡ 0
  unfolding left
  left_ended w e = rw e

  left_le : (w : Way) → left w ≤ k + 1 - w.next
  unfolding left
  left_le w = go (eqb w.next 0)
    where
      go : (t : Bool) → cond t 0 (k + 1 - w.next) ≤ k + 1 - w.next
      go true = omega arith
      go false = omega arith

  left-met : (w : Way) → (w.next ≡ 0 → ⊥) → left w ≡ k + 1 - w.next
  unfolding left
  left-met w some = rw (ne_eqb w.next 0 some)

  -- the measure
  abbrev pub lefts : List Way → ℕ
  lefts [] = 0
  lefts (w ∷ ws) = left w + lefts ws

  -- several ways side by side
  pub data Walks (best : ℕ) : List Cube → List Way → Type 0 where
    none : Walks best [] []
    more : {home : Cube} {homes : List Cube} {w : Way} {ws : List Way} → Walk home best w → Walks best homes ws → Walks best (home ∷ homes) (w ∷ ws)

  pub walks_start : (best : ℕ) → Table s (coarse_at vs) m k → (homes : List Cube) → Walks best homes (map (way_of s m) homes)
  walks_start best t [] = none
  walks_start best t (home ∷ homes) = more (walk_start home best t) (walks_start best t homes)

  walks_lower : (best now : ℕ) {homes : List Cube} {ws : List Way} → now ≤ best → Walks best homes ws → Walks now homes ws
  walks_lower best now l none = none
  walks_lower best now l (more {home} {homes} {w} {ws} h r) = more (walk-lower home best now w l h) (walks_lower best now l r)

  step_le : {best r : ℕ} {w v : Way} → Step s f m best w r v → r ≤ best
  step_le (ended e r v) = omega arith
  step_le (met some low le to v) = le

  pub all_le : (ws : List Way) (best : ℕ) → all_worth f best ws ≤ best
  all_le [] best = omega arith
  all_le (w ∷ ws) best = omega (arith, all_le ws (worth_of f best w), step_le (step s f m best w))

  pub walks_on : (homes : List Cube) (ws : List Way) (best : ℕ) → Walks best homes ws → Walks (all_worth f best ws) homes (map (onward_of s m) ws)
  walks_on [] [] best none = none
  walks_on [] (w ∷ ws) best h = elim h [ ]
  walks_on (home ∷ homes) [] best h = elim h [ ]
  walks_on (home ∷ homes) (w ∷ ws) best (more h r) =
      let now = worth_of f best w in
      more (walk-lower home now (all_worth f now ws) (onward_of s m w) (all_le ws now) (walk-on home best now w h (step s f m best w)))
      (walks_on homes ws now (walks_lower best now (step_le (step s f m best w)) r))

  -- where all have ended, all that is in one of the coarse cells is passed
  pub walks_end : (best : ℕ) {homes : List Cube} {ws : List Way} → Walks best homes ws → nexts ws ≡ 0 → (i : ℕ) → i < k → Among (coarse_at vs i) homes → best ≤ f i
  walks_end best none e i l h = elim h [ ]
  walks_end best (more {home} {homes} {w} h r) e i l (here q) = walk_end home best w h (omega arith) i l q
  walks_end best (more h r) e i l (after a) = walks_end best r (omega arith) i l a

  module _ (o : Older s m k) where
    walk-few : (home : Cube) (best : ℕ) (w : Way) → Walk home best w → w.next ≤ k
    walk-few home best w h = omega (arith, h.slot, few s m k h.at o)

    -- on goes a way to a younger vertex, or to its end
    left_less : (home : Cube) (best : ℕ) (w : Way) → Walk home best w → (w.next ≡ 0 → ⊥) → left (onward_of s m w) < left w
    left_less home best w h some = go (step s f m best w)
      where
        on : (v : Way) (n : ℕ) → v ≡ way_at (get_or s (link_of (w.next - 1) w.q m) 0) (turned_of w.q) → get_or s (link_of (w.next - 1) w.q m) 0 ≡ n → left v < left w
        on v zero e z =
            let a = left_ended v (rw e z) in
            let b = left-met w some in
            omega (arith, walk-few home best w h)
        on v (suc u) e z =
            let a = left_le v in
            let r : get_or s (link_of (w.next - 1) w.q m) 0 ≡ u + 1 = let g : suc u ≡ u + 1 = omega arith in z ∙ g in
            let n : v.next ≡ u + 1 = rw e r in
            let b = left-met w some in
            omega (arith, o.before (link_of (w.next - 1) w.q m) u r, o.below (link_of (w.next - 1) w.q m) u r)

        go : {r : ℕ} {v : Way} → Step s f m best w r v → left v < left w
        go (ended e r v) = absurd (some e)
        go {r} {v} (met d low le to e) = on v _ e refl

    left-on : (home : Cube) (best : ℕ) (w : Way) → Walk home best w → (left (onward_of s m w) ≤ left w) × ((w.next ≡ 0 → ⊥) → left (onward_of s m w) < left w)
    left-on home best w h = (go (step s f m best w), left_less home best w h)
      where
        go : {n : ℕ} → Step s f m best w n (onward_of s m w) → left (onward_of s m w) ≤ left w
        go (ended e d v) = let a = ap left v in omega arith
        go (met some low le to v) = omega (arith, left_less home best w h some)

    lefts-le : (best : ℕ) {homes : List Cube} {ws : List Way} → Walks best homes ws → lefts (map (onward_of s m) ws) ≤ lefts ws
    lefts-le best none = omega arith
    lefts-le best (more {home} {homes} {w} h r) = omega (arith, lefts-le best r, (left-on home best w h).0)

    pub lefts-less : (best : ℕ) {homes : List Cube} {ws : List Way} → Walks best homes ws → (nexts ws ≡ 0 → ⊥) → lefts (map (onward_of s m) ws) < lefts ws
    lefts-less best none some = absurd (some refl)
    lefts-less best (more {home} {homes} {w} {ws} h r) some =
        go (eqb w.next 0) refl (left-on home best w h) (lefts-le best r) (lefts-less best r)
      where
        go : (t : Bool) → eqb w.next 0 ≡ t → (left (onward_of s m w) ≤ left w) × ((w.next ≡ 0 → ⊥) → left (onward_of s m w) < left w)
            → lefts (map (onward_of s m) ws) ≤ lefts ws → ((nexts ws ≡ 0 → ⊥) → lefts (map (onward_of s m) ws) < lefts ws)
            → left (onward_of s m w) + lefts (map (onward_of s m) ws) < left w + lefts ws
        go true t a b rest = let e = eqb-true w.next 0 t in omega (arith, a.0, rest (λ z. some (omega arith)))
        go false t a b rest = omega (arith, a.1 (eqb-false w.next 0 t))

    pub all-to : (homes : List Cube) (ws : List Way) (best now c : ℕ) → Walks now homes ws → c ≤ best → ((i : ℕ) → i < k → c ≤ f i) → c ≤ all_worth f best ws
    all-to [] [] best now c none l g = l
    all-to [] (w ∷ ws) best now c h l g = elim h [ ]
    all-to (home ∷ homes) [] best now c h l g = elim h [ ]
    all-to (home ∷ homes) (w ∷ ws) best now c (more h r) l g = all-to homes ws (worth_of f best w) now c r (go (step s f m best w)) g
      where
        go : {r : ℕ} {v : Way} → Step s f m best w r v → c ≤ r
        go (ended e d v) = omega arith
        go (met some low le to v) = to c (g (w.next - 1) (omega (arith, walk-few home now w h))) l

    pub walks-few : (n : ℕ) → k ≤ n → {best : ℕ} {homes : List Cube} {ws : List Way} → Walks best homes ws → Each (NoMore n) ws
    walks-few n l none = tt
    walks-few n l {best = best} (more {home} {homes} {w} h r) = (omega (arith, walk-few home best w h), walks-few n l r)

  -- what `look` keeps: the ways as far as they are walked, and the least of all that is passed
  pub record Looked (homes : List Cube) (first best : ℕ) (ws : List Way) : Type 0 where
    pub walks : Walks best homes ws
    pub below : best ≤ first
    pub to : (c : ℕ) → c ≤ first → ((i : ℕ) → i < k → c ≤ f i) → c ≤ best

  pub looked_start : Table s (coarse_at vs) m k → (homes : List Cube) (first : ℕ) → Looked homes first first (map (way_of s m) homes)
  looked_start t homes first = record { walks = walks_start first t homes; below = omega arith; to = λ c l g. l }

  pub looked_on : Older s m k → (homes : List Cube) (first best : ℕ) (ws : List Way) → Looked homes first best ws
      → Looked homes first (all_worth f best ws) (map (onward_of s m) ws)
  looked_on o homes first best ws h =
      record {
        walks = walks_on homes ws best h.walks;
        below = omega (arith, all_le ws best, h.below);
        to = λ c l g. all-to o homes ws best best c h.walks (h.to c l g) g;
      }

  pub looked_end : (homes : List Cube) (first best : ℕ) (ws : List Way) → Looked homes first best ws → nexts ws ≡ 0
      → (q : ℕ → Type 0) → ((i : ℕ) → q i → Among (coarse_at vs i) homes) → Least q f k first best
  looked_end homes first best ws h e q g = record { below = h.below; all = λ i l d. walks_end best h.walks e i l (g i d); to = h.to }

-- the same way, only to its end
module _ (s : List ℕ) (m k : ℕ) (home : Cube) where
  pub record Seek (at next : ℕ) (q : Cube) : Type 0 where
    pub slot : next ≡ get_or s at 0
    pub inside : at < m + k * 2
    pub from : (e : ℕ) → Ends s m e at q → Ends s m e (bucket_of home m) home

  pub seek_start : (at next : ℕ) → at ≡ bucket_of home m → at < m → next ≡ get_or s at 0 → Seek at next home
  seek_start at next e l o = record { slot = o; inside = omega arith; from = λ a h. rw e at h }

  pub seek_turn : (at next : ℕ) (q : Cube) → Seek at next q → Older s m k → (next ≡ 0 → ⊥) → (at' : ℕ) → at' ≡ link_of (next - 1) q m → (q' : Cube)
      → q' ≡ turned_of q → Seek at' (get_or s at' 0) q'
  seek_turn at next q w o some at' ea q' eq =
      record {
        slot = refl;
        inside = omega (arith, within s m k at next o w.slot some q);
        from = λ e h. w.from e (Ends.past (next - 1) (full s m k at next o w.slot some) (rw (ea, eq) at h));
      }

  pub seek_end : (at next : ℕ) (q : Cube) → Seek at next q → next ≡ 0 → Ends s m at (bucket_of home m) home × (at < m + k * 2)
  seek_end at next q w e = (w.from at (Ends.stop refl (sym w.slot ∙ e)), w.inside)
