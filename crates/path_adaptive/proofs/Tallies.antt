-- Laws of what a walk meets first.
use mathlib.Core.Path.{◌≡◌, refl, sym, ap, subst⁻¹, ◌∙◌}
use mathlib.Core.Bool.{Bool, true, false, cond, true≢false}
use mathlib.Core.List.{List, [], ◌∷◌, ◌++◌, append-nil, map}
use Prim.Native.Nat.{ℕ, zero, suc, ◌+◌, ◌-◌, ◌/◌, ◌≤◌, ◌<◌}
use native.Mathlib.Omega.{arith}
use lib.ListN.{length, get_or, drop, length-append}
use lib.Dec.{leb, eqb}
use lib.Ieee.{Float}
use borrow.Author.Tests.{le-leb, lt-leb, leb-true, leb-false, ne_eqb}
use Rattle.refusal.specs.declared.Refusal.{Refusal}
use Rattle.refusal.specs.declared.Refusal.TheVariants.{Room, Deep}
use Rattle.vector.specs.declared.Vector.{Vector}
use Rattle.path.specs.Strokes.{point_at, gather}
use Rattle.path.specs.Laid.{joined, non_empty}
use Rattle.path.proofs.Gathers.{strokes_more, strokes_none}
use Rattle.path.proofs.Pushes.{some_kept}
use Rattle.path_adaptive.specs.declared.View.{View}
use Rattle.path_adaptive.specs.declared.Budget.{Budget}
use Rattle.path_adaptive.specs.Tally.{Tally, room_left}
use Rattle.std.specs.Prelude.{Ok, Err}
use Rattle.path_adaptive.specs.Walk.{Walk, none, one_point, stuck, followed_by, halved, stroke_walked, adapted, halvings_of, walk_from, walks_of, shown_of}
use Rattle.path_adaptive.specs.InnerWrite.{Calm}
use Rattle.path_adaptive.specs.Tally.{spent, begun, spent_stroke, spent_all}
use Rattle.path_adaptive.specs.InnerMeasure.{pointed, stopped_of, points_of}
use Rattle.path_adaptive.proofs.Walks.{stroke_count_lem}

-- ---- one walk

pub spent-stop : (t : Tally) (w : Walk) → stopped_of t ≡ true → t ≡ spent t w
unfolding spent
spent-stop (Ok b) w h = absurd (true≢false (sym h))
spent-stop (Err r) w h = refl

pub spent-stuck : (t : Tally) (w : Walk) → w ≡ stuck → stopped_of t ≡ false → Err Deep ≡ spent t w
unfolding spent
spent-stuck (Ok b) w e h = rw (e, le-leb 0 b.points (omega arith))
spent-stuck (Err r) w e h = absurd (true≢false h)

pub spent-none : (t : Tally) → spent t none ≡ t
unfolding spent
spent-none (Ok b) = let z : b.points - 0 ≡ b.points = omega arith in rw (le-leb 0 b.points (omega arith), z)
spent-none (Err r) = refl

pub spent-one : (t : Tally) (v : Vector) (w : Walk) → w ≡ one_point v → pointed t ≡ spent t w
unfolding spent pointed
spent-one (Ok b) v w e = rw e
spent-one (Err r) v w e = refl

pub spent-halved : (t : Tally) (w : Walk) → spent t (halved w) ≡ spent t w
unfolding spent
spent-halved (Ok b) w = refl
spent-halved (Err r) w = refl

module _ (p s : ℕ) (l : Walk) where
  spent-cases : (P : Tally → Type 0) → (p < length l.points → P (Err Room)) → (length l.points ≤ p → l.deep ≡ true → P (Err Deep))
      → (length l.points ≤ p → l.deep ≡ false → P (room_left (p - length l.points) s)) → P (spent (room_left p s) l)
  unfolding spent
  spent-cases P full deep fine = go (leb (length l.points) p) l.deep refl refl
    where
      go : (x y : Bool) → leb (length l.points) p ≡ x → l.deep ≡ y → P (cond x (cond y (Err Deep) (room_left (p - length l.points) s)) (Err Room))
      go false y e f = full (leb-false (length l.points) p e)
      go true true e f = deep (leb-true (length l.points) p e) f
      go true false e f = fine (leb-true (length l.points) p e) f

  full_join : (r : Walk) → p < length l.points → Err Room ≡ spent (room_left p s) (followed_by l r)
  unfolding spent followed_by
  full_join r h =
      let x = cond l.deep [] r.points in
      rw (lt-leb (length (l.points ++ x)) p (omega (arith, length-append l.points x)))

  deep_join : (r : Walk) → length l.points ≤ p → l.deep ≡ true → Err Deep ≡ spent (room_left p s) (followed_by l r)
  unfolding spent followed_by
  deep_join r h d = rw (d, append-nil, le-leb (length l.points) p h)

  leb-shift : (n k : ℕ) → n ≤ p → leb (n + k) p ≡ leb k (p - n)
  leb-shift n k h = go (leb k (p - n)) refl
    where
      go : (x : Bool) → leb k (p - n) ≡ x → leb (n + k) p ≡ x
      go true e = le-leb (n + k) p (let b = leb-true k (p - n) e in omega arith)
      go false e = lt-leb (n + k) p (let b = leb-false k (p - n) e in omega arith)

  fine-join : (r : Walk) → length l.points ≤ p → l.deep ≡ false → spent (room_left (p - length l.points) s) r ≡ spent (room_left p s) (followed_by l r)
  unfolding spent followed_by
  fine-join r h d =
      let n = length l.points in
      let k = length r.points in
      let e : p - (n + k) ≡ p - n - k = omega arith in
      rw (d, length-append l.points r.points, leb-shift n k h, e)

-- one walk after the other
pub spent-join : (t : Tally) (l r w : Walk) → w ≡ followed_by l r → spent (spent t l) r ≡ spent t w
unfolding spent
spent-join (Err q) l r w e = refl
spent-join (Ok b) l r w e =
    let p = b.points in let s = b.starts in
    rw e (spent-cases p s l (λ t. spent t r ≡ spent (room_left p s) (followed_by l r)) (full_join p s l r) (deep_join p s l r) (fine-join p s l r))

-- ---- a stroke

pub stroke_empty : (t : Tally) (w : Walk) → w ≡ none → t ≡ spent_stroke t w
unfolding spent_stroke
stroke_empty t w e = rw e

first_some : (v : Vector) (r w : Walk) → w ≡ followed_by (one_point v) r → length w.points ≡ 0 → ⊥
unfolding followed_by
first_some v r w e z = let k = ap (λ (x : Walk). length x.points) e in omega arith

spent_some : (t : Tally) (w : Walk) → (length w.points ≡ 0 → ⊥) → spent_stroke t w ≡ spent (begun t) w
unfolding spent_stroke
spent_some t w z = rw (ne_eqb (length w.points) 0 z)

pub stroke_first : (t : Tally) (v : Vector) (r w : Walk) → w ≡ followed_by (one_point v) r → spent (spent (begun t) (one_point v)) r ≡ spent_stroke t w
stroke_first t v r w e = spent-join (begun t) (one_point v) r w e ∙ sym (spent_some t w (first_some v r w e))

-- the first point of a stroke, and what follows it
pub stroke_goes : (t s : Tally) (v : Vector) (r w : Walk) → w ≡ followed_by (one_point v) r → s ≡ pointed (begun t) → spent s r ≡ spent_stroke t w
stroke_goes t s v r w e f = ap (λ (x : Tally). spent x r) (f ∙ spent-one (begun t) v (one_point v) refl) ∙ stroke_first t v r w e

-- or neither, where its start or its first point is refused
pub stroke_met : (t : Tally) (q : Refusal) (v : Vector) (r w : Walk) → w ≡ followed_by (one_point v) r → Err q ≡ pointed (begun t) → Err q ≡ spent_stroke t w
stroke_met t q v r w e f = spent-stop (Err q) r refl ∙ stroke_goes t (Err q) v r w e f

-- ---- the room for points never grows

begun-cases : (p s : ℕ) (P : Tally → Type 0) → (s < 1 → P (Err Room)) → (1 ≤ s → P (room_left p (s - 1))) → P (begun (room_left p s))
unfolding begun
begun-cases p s P f g = go (leb 1 s) refl
  where
    go : (x : Bool) → leb 1 s ≡ x → P (cond x (room_left p (s - 1)) (Err Room))
    go true e = g (leb-true 1 s e)
    go false e = f (leb-false 1 s e)

spent-less : (t : Tally) (w : Walk) → points_of (spent t w) ≤ points_of t
unfolding spent
spent-less (Ok b) w = spent-cases b.points b.starts w (λ t. points_of t ≤ b.points) (λ h. omega arith) (λ h d. omega arith) (λ h d. omega arith)
spent-less (Err r) w = omega arith

begun-less : (t : Tally) → points_of (begun t) ≤ points_of t
unfolding begun
begun-less (Ok b) = begun-cases b.points b.starts (λ t. points_of t ≤ b.points) (λ h. omega arith) (λ h. omega arith)
begun-less (Err r) = omega arith

stroke_less : (t : Tally) (w : Walk) → points_of (spent_stroke t w) ≤ points_of t
unfolding spent_stroke
stroke_less t w = go (eqb (length w.points) 0)
  where
    go : (x : Bool) → points_of (cond x t (spent (begun t) w)) ≤ points_of t
    go true = omega arith
    go false = omega (arith, spent-less (begun t) w, begun-less t)

pub first-less : (t s : Tally) (v : Vector) {b : Budget} → s ≡ pointed (begun t) → s ≡ Ok b → b.points ≤ points_of t
first-less t s v f e =
    let a = ap points_of (sym e ∙ f ∙ spent-one (begun t) v (one_point v) refl) in
    omega (arith, spent-less (begun t) (one_point v), begun-less t)

-- ---- all strokes

pub met_all : (q : Refusal) (ws : List Walk) → spent_all (Err q) ws ≡ Err q
unfolding spent_all spent_stroke begun spent
met_all q [] = refl
met_all q (w ∷ ws) = rw (same (eqb (length w.points) 0)) (met_all q ws)
  where
    same : (x : Bool) → cond {A = Tally} x (Err q) (Err q) ≡ Err q
    same true = refl
    same false = refl

pub record Fine (p s : ℕ) (ws : List Walk) : Type 0 where
  pub calm : Calm ws
  pub few : length (joined (adapted ws)) ≤ p
  pub few_starts : length (non_empty (adapted ws)) ≤ s

fine-empty : (p s : ℕ) (ws : List Walk) → Fine p s ws → Fine p s (none ∷ ws)
unfolding joined non_empty Calm
fine-empty p s ws f = record { calm = (refl, f.calm); few = f.few; few_starts = f.few_starts }

fine_more : (p s : ℕ) (w : Walk) (ws : List Walk) → length w.points ≤ p → w.deep ≡ false → (length w.points ≡ 0 → ⊥) → 1 ≤ s
    → Fine (p - length w.points) (s - 1) ws → Fine p s (w ∷ ws)
unfolding joined Calm
fine_more p s w ws h d z k f =
    record {
      calm = (d, f.calm);
      few = omega (arith, f.few, length-append w.points (joined (adapted ws)));
      few_starts = omega (arith, f.few_starts, some_kept w.points (adapted ws) (not_none (length w.points) z));
    }
  where
    not_none : (n : ℕ) → (n ≡ 0 → ⊥) → 0 < n
    not_none zero z = absurd (z refl)
    not_none (suc n) z = omega arith

stop_not : {A : Type 0} (q : Refusal) (ws : List Walk) → stopped_of (spent_all (Err q) ws) ≡ false → A
stop_not q ws h = absurd (true≢false (sym (ap stopped_of (met_all q ws)) ∙ h))

-- a walk that is not stopped came to every end, with room for all
pub all_fine : (view : View) (ss : List (List Vector)) (p s : ℕ) → stopped_of (spent_all (room_left p s) (map (stroke_walked view) ss)) ≡ false → Fine p s (map (stroke_walked view) ss)
unfolding spent_all spent_stroke spent stroke_walked joined non_empty Calm
all_fine view [] p s h = record { calm = tt; few = omega arith; few_starts = omega arith }
all_fine view ([] ∷ ss) p s h = fine-empty p s (map (stroke_walked view) ss) (all_fine view ss p s h)
all_fine view ((v ∷ vs) ∷ ss) p s h =
    let w = stroke_walked view (v ∷ vs) in
    let ws = map (stroke_walked view) ss in
    let z = first_some v (walk_from view (shown_of view v) vs) w refl in
    let k : stopped_of (spent_all (spent (begun (room_left p s)) w) ws) ≡ false = ap (λ (t : Tally). stopped_of (spent_all t ws)) (sym (spent_some (room_left p s) w z)) ∙ h in
    begun-cases p s (λ t. stopped_of (spent_all (spent t w) ws) ≡ false → Fine p s (w ∷ ws))
    (λ l g. stop_not Room ws g)
    (λ l g. spent-cases p (s - 1) w (λ t. stopped_of (spent_all t ws) ≡ false → Fine p s (w ∷ ws))
    (λ a b. stop_not Room ws b) (λ a d b. stop_not Deep ws b) (λ a d b. fine_more p s w ws a d z l (all_fine view ss (p - length w.points) (s - 1) b)) g)
    k

-- ---- points and halvings of all strokes

-- points written equal points read plus halvings
pub points_and_halvings : (view : View) (ss : List (List Vector)) → Calm (map (stroke_walked view) ss)
    → length (joined (adapted (map (stroke_walked view) ss))) ≡ length (joined ss) + halvings_of (map (stroke_walked view) ss)
unfolding joined halvings_of Calm
points_and_halvings view [] h = refl
points_and_halvings view (s ∷ ss) h =
    let a = stroke_count_lem view s h.0 in
    let b = points_and_halvings view ss h.1 in
    omega
    (arith, length-append (stroke_walked view s).points (joined (adapted (map (stroke_walked view) ss))), length-append s (joined ss))

-- ---- the strokes from the i-th on

module _ (view : View) (ps : List Float) (ss : List ℕ) (i : ℕ) where
  pub walks_more : (e : ℕ) → i < length ss → e ≡ get_or ss (i + 1) (length ps / 3)
      → walks_of view ps (drop i ss) ≡ stroke_walked view (gather (point_at ps) (get_or ss i 0) (e - get_or ss i 0)) ∷ walks_of view ps (drop (i + 1) ss)
  unfolding walks_of
  walks_more = strokes_more (stroke_walked view) (point_at ps) (length ps / 3) ss i

  pub walks_none : length ss ≤ i → walks_of view ps (drop i ss) ≡ []
  unfolding walks_of
  walks_none = strokes_none (stroke_walked view) (point_at ps) (length ps / 3) ss i

module _ {w : Walk} {ws all : List Walk} (e : all ≡ w ∷ ws) where
  pub more-points : adapted all ≡ w.points ∷ adapted ws
  more-points = rw e

  pub more-calm : Calm all → (w.deep ≡ false) × Calm ws
  unfolding Calm
  more-calm h = rw e at h

  pub more-halvings : halvings_of all ≡ w.halvings + halvings_of ws
  unfolding halvings_of
  more-halvings = rw e

  pub more-spent : (t q : Tally) → q ≡ spent_stroke t w → spent_all q ws ≡ spent_all t all
  unfolding spent_all
  more-spent t q g = rw (e, g)

  pub more-less : (t q : Tally) → q ≡ spent_stroke t w → points_of q ≤ points_of t
  more-less t q g = subst⁻¹ (λ (x : Tally). points_of x ≤ points_of t) g (stroke_less t w)
