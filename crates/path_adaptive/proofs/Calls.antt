-- What an accepted chop_adaptive has been tested for, and what then holds.
use Rattle.std.specs.Prelude.{Ok}
use mathlib.Core.Path.{◌≡◌, refl, subst⁻¹}
use mathlib.Core.Bool.{false}
use mathlib.Core.List.{List}
use Prim.Native.Nat.{ℕ, ◌*◌, ◌/◌, ◌≤◌, min}
use native.Mathlib.Omega.{arith}
use native.Mathlib.Nat.{min-le_left, min-le_right}
use lib.ListN.{length}
use lib.Ieee.{Float}
use Rattle.refusal.specs.Limits.{most_points, most_strokes}
use Rattle.vector.specs.declared.matrix.Matrix.{Matrix}
use Rattle.path.specs.Strokes.{point_at, strokes_of}
use Rattle.path.specs.Laid.{joined, non_empty}
use Rattle.path.proofs.Tests.{passed, few_strokes}
use Rattle.path_adaptive.specs.declared.View.{View}
use Rattle.path_adaptive.specs.Tally.{Tally, room_left}
use Rattle.std.specs.Prelude.{Ok, Err}
use Rattle.path_adaptive.specs.Walk.{view_of, walks_of, adapted, halvings_of}
use Rattle.path_adaptive.specs.InnerWrite.{Calm}
use Rattle.path_adaptive.specs.Tally.{spent_all, verdict_by}
use Rattle.path_adaptive.specs.InnerMeasure.{stopped_of}
use Rattle.path_adaptive.specs.Call.{point_room, verdict_of}
use Rattle.path_adaptive.proofs.Tallies.{all_fine, points_and_halvings}

accepted-runs : (t : Tally) → verdict_by t ≡ (Ok tt) → stopped_of t ≡ false
accepted-runs (Ok b) h = refl
accepted-runs (Err r) h = absurd (let z : ◌≡◌ {A = ℕ} 0 1 = cc in omega arith)

pub record Good (view : View) (ps : List Float) (ss : List ℕ) (room start_room : ℕ) : Type 0 where
  pub calm : Calm (walks_of view ps ss)
  pub few : length (joined (adapted (walks_of view ps ss))) ≤ most_points
  pub strokes : length ss ≤ most_strokes
  pub fit : length (joined (adapted (walks_of view ps ss))) * 3 ≤ room
  pub start_fit : length (non_empty (adapted (walks_of view ps ss))) ≤ start_room
  pub halvings : halvings_of (walks_of view ps ss) ≤ most_points

good : (view : View) (ps : List Float) (ss : List ℕ) (room start_room : ℕ) → length ss ≤ most_strokes
    → stopped_of (spent_all (room_left (point_room room) start_room) (walks_of view ps ss)) ≡ false → Good view ps ss room start_room
unfolding walks_of point_room
good view ps ss room start_room few h =
    let strokes = strokes_of (point_at ps) (length ps / 3) ss in
    let f = all_fine view strokes (min (room / 3) most_points) start_room h in
    let n = points_and_halvings view strokes f.calm in
    let a = min-le_left (room / 3) most_points in
    let b = min-le_right (room / 3) most_points in
    record {
      calm = f.calm;
      few = omega (arith, f.few);
      strokes = few;
      fit = omega (arith, f.few);
      start_fit = f.few_starts;
      halvings = omega (arith, f.few);
    }

pub adaptive_accepted : (ps : List Float) (ss : List ℕ) (m : Matrix) (width height step tolerance : Float) (room start_room : ℕ)
    → verdict_of ps ss m width height step tolerance room start_room ≡ (Ok tt) → Good (view_of m width height step tolerance) ps ss room start_room
unfolding verdict_of
adaptive_accepted ps ss m width height step tolerance room start_room h =
    let shape = passed _ _ _ h in
    let count = passed _ _ _ shape.1 in
    let number = passed _ _ _ count.1 in
    let numbers = passed _ _ _ number.1 in
    good (view_of m width height step tolerance) ps ss room start_room (few_strokes (length ps / 3) (length ss) count.0) (accepted-runs (spent_all (room_left (point_room room) start_room) (walks_of (view_of m width height step tolerance) ps ss)) numbers.1)

pub accepted-at : (ps : List Float) (ss : List ℕ) (m : Matrix) (width height step tolerance : Float) (room start_room : ℕ) {v : View} → v ≡ view_of m width height step tolerance
    → verdict_of ps ss m width height step tolerance room start_room ≡ (Ok tt) → Good v ps ss room start_room
accepted-at ps ss m width height step tolerance room start_room e h =
    subst⁻¹ (λ (v : View). Good v ps ss room start_room) e (adaptive_accepted ps ss m width height step tolerance room start_room h)
