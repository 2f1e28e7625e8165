-- What an accepted simplify has been tested for, and what then holds.
use Rattle.std.specs.Prelude.{Ok}
use mathlib.Core.Path.{◌≡◌}
use mathlib.Core.Bool.{true}
use mathlib.Core.List.{List}
use Prim.Native.Nat.{ℕ, ◌*◌, ◌/◌, ◌%◌, ◌≤◌}
use native.Mathlib.Omega.{arith}
use lib.ListN.{length}
use lib.Dec.{leb, eqb}
use lib.Ieee.{Float}
use borrow.Author.Tests.{leb-true}
use Rattle.refusal.specs.Limits.{most_points, most_strokes}
use Rattle.path.specs.Strokes.{good_starts, point_at}
use Rattle.path.specs.Laid.{joined, non_empty}
use Rattle.path.specs.Tests.{shaped_of}
use Rattle.path.proofs.Tests.{passed, both, few_strokes, few_points}
use Rattle.path.proofs.Pushes.{no_more_kept}
use Rattle.path_simplify.specs.Simplify.{simplified, distances, simplified_of}
use Rattle.path_simplify.specs.Call.{short_of, room_for, verdict_of}
use Rattle.path_simplify.proofs.Totals.{all_most, all_strokes}

pub record Good (ps : List Float) (ss : List ℕ) (t : Float) (room start_room : ℕ) : Type 0 where
  pub few : length (joined (simplified (simplified_of t ps ss))) ≤ most_points
  pub strokes : length ss ≤ most_strokes
  pub fit : length (joined (simplified (simplified_of t ps ss))) * 3 ≤ room
  pub start_fit : length (non_empty (simplified (simplified_of t ps ss))) ≤ start_room
  pub quick : distances (simplified_of t ps ss) ≤ 4294967296
  pub table : good_starts (length ps / 3) ss ≡ true
  pub short : short_of (length ps / 3) ss ≡ true

module _ (ps : List Float) (ss : List ℕ) (t : Float) (room start_room : ℕ) where
  pub simplify_accepted : verdict_of ps ss t room start_room ≡ (Ok tt) → Good ps ss t room start_room
  unfolding verdict_of shaped_of room_for
  simplify_accepted h =
      let shape = passed _ _ _ h in
      let count = passed _ _ _ shape.1 in
      let short = passed _ _ _ count.1 in
      let number = passed _ _ _ short.1 in
      let good = passed _ _ _ number.1 in
      let fits = both (leb (length ps) room) (leb (length ss) start_room) (passed _ _ _ good.1).0 in
      let table = both (eqb (length ps % 3) 0) (good_starts (length ps / 3) ss) shape.0 in
      let most = all_most t (point_at ps) (length ps / 3) ss table.1 short.0 in
      let points = few_points (length ps / 3) (length ss) count.0 in
      let wide = leb-true (length ps) room fits.0 in
      let long = leb-true (length ss) start_room fits.1 in
      record {
        few = omega arith;
        strokes = few_strokes (length ps / 3) (length ss) count.0;
        fit = omega arith;
        start_fit = omega (arith, no_more_kept (simplified (simplified_of t ps ss)), all_strokes t (point_at ps) (length ps / 3) ss);
        quick = omega arith;
        table = table.1;
        short = short.0;
      }
