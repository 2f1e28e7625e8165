-- Laws of what the measuring walk hands on.
use mathlib.Core.Path.{◌≡◌, refl, sym, ap, ◌∙◌}
use mathlib.Core.Bool.{Bool, true, false, cond}
use Prim.Native.Nat.{ℕ, ◌-◌, ◌≤◌, ◌<◌}
use native.Mathlib.Omega.{arith}
use lib.Dec.{eqb}
use borrow.Author.Tests.{le-leb, lt-leb}
use Rattle.refusal.specs.Limits.{most_points}
use Rattle.refusal.specs.declared.Refusal.TheVariants.{Room, Deep}
use Rattle.vector.specs.declared.Vector.{Vector}
use Rattle.path_adaptive.specs.Tally.{Tally, room_left}
use Rattle.std.specs.Prelude.{Err}
use Rattle.path_adaptive.specs.Walk.{Walk, one_point, stuck, followed_by, halved}
use Rattle.path_adaptive.specs.Tally.{spent}
use Rattle.path_adaptive.specs.InnerMeasure.{pointed, stopped_of, no_room, too_deep, tally_of, Takes, Meets}
use Rattle.path_adaptive.proofs.Tallies.{spent-stop, spent-stuck, spent-one, spent-halved, spent-join}

-- ---- a tally by its word

stops : (n s : ℕ) → most_points < n → stopped_of (tally_of n s) ≡ true
unfolding tally_of
stops n s h = rw (lt-leb n most_points h) (go (eqb n no_room))
  where
    go : (x : Bool) → stopped_of (cond x (Err Room) (Err Deep)) ≡ true
    go true = refl
    go false = refl

pub points_left_lem : (n s : ℕ) → n ≤ most_points → tally_of n s ≡ room_left n s
unfolding tally_of
points_left_lem n s h = rw (le-leb n most_points h)

-- a point takes the room of one, or lacks it
pub takes_one : (n : ℕ) → n ≤ most_points → (n ≡ 0 → ⊥) → Takes n (n - 1)
unfolding pointed
takes_one n h z s = rw (points_left_lem n s h, points_left_lem (n - 1) s (omega arith), le-leb 1 n (omega arith))

pub takes_none : (n : ℕ) → n ≡ 0 → Takes n no_room
unfolding tally_of pointed
takes_none n z s = rw z

-- ---- what a walk meets

pub meets_stop : (n : ℕ) (w : Walk) → most_points < n → Meets n w n
meets_stop n w h s = spent-stop (tally_of n s) w (stops n s h)

pub meets_one : (n r : ℕ) (v : Vector) (w : Walk) → Takes n r → w ≡ one_point v → Meets n w r
meets_one n r v w h e s = h s ∙ spent-one (tally_of n s) v w e

pub meets_stuck : (n : ℕ) (w : Walk) → n ≤ most_points → w ≡ stuck → Meets n w too_deep
unfolding tally_of
meets_stuck n w h e s = spent-stuck (tally_of n s) w e (ap stopped_of (points_left_lem n s h))

pub meets_join : (n k j : ℕ) (l r w : Walk) → w ≡ followed_by l r → Meets n l k → Meets k r j → Meets n w j
meets_join n k j l r w e f g s = g s ∙ ap (λ (t : Tally). spent t r) (f s) ∙ spent-join (tally_of n s) l r w e

pub meets_halves : (n k j : ℕ) (l r w : Walk) → w ≡ halved (followed_by l r) → Meets n l k → Meets k r j → Meets n w j
meets_halves n k j l r w e f g s =
    meets_join n k j l r (followed_by l r) refl f g s ∙ sym (spent-halved (tally_of n s) (followed_by l r)) ∙ ap (spent (tally_of n s)) (sym e)
