-- The call: when welding is refused, what it answers, and what it leaves.
use Rattle.std.specs.Prelude.{Result, Ok, List, [], ◌∷◌, ℕ, ◌*◌, ◌/◌, ◌%◌, length, replicate, leb, eqb, Float}
use Rattle.refusal.specs.declared.Refusal.TheVariants.{Shape, Count, Number, Scratch, Room}
use Rattle.refusal.specs.declared.Refusal.{Refusal}
use Rattle.refusal.specs.Refusals.{Verdict, unless}
use Rattle.refusal.specs.Limits.{most_faces}
use Rattle.refusal.specs.Said.{Said, accepted, said_by}
use Rattle.refusal.specs.Outcome.{Outcome, leaves, outcome}
use Rattle.path.specs.Laid.{over}
use Rattle.path.specs.Tests.{coordinates_good}
use Rattle.mesh_weld.specs.declared.Welded.{Welded}
use Rattle.mesh_weld.specs.Weld.{weld_of}

-- the answer as the paper reads it
abbrev pub said : Result Welded Refusal → Said ℕ
said r = said_by (λ w. w.vertices ∷ w.indices ∷ []) r

-- what is lent for so many faces: 12 words of scratch, room for 3 vertices and 3 indices each
unfoldable pub lent_verdict : ℕ → ℕ → ℕ → ℕ → Verdict
lent_verdict faces words room numbers =
    unless (leb (faces * 12) words) Scratch
    (unless (leb (faces * 9) room) Room
    (unless (leb (faces * 3) numbers) Room
    (Ok tt)))

-- nine coordinates a face
unfoldable pub verdict_of : List Float → ℕ → ℕ → ℕ → Verdict
verdict_of cs words room numbers =
    unless (eqb (length cs % 9) 0) Shape
    (unless (leb (length cs / 9) most_faces) Count
    (unless (coordinates_good cs) Number
    (lent_verdict (length cs / 9) words room numbers)))

pub record Lent : Type 0 where
  pub scratch : List ℕ
  pub vertices : List Float
  pub indices : List ℕ

abbrev pub lent : List ℕ → List Float → List ℕ → Lent
lent s vs is = record { scratch = s; vertices = vs; indices = is }

abbrev pub left : Said ℕ → List ℕ → List Float → List ℕ → Outcome Lent
left a s vs is = leaves a (lent s vs is)

-- accepted: vertices and indices, the rest of both lists as it was, and scratch all zero
unfoldable pub welded : List Float → List ℕ → List Float → List ℕ → Outcome Lent
welded cs s vs is =
    left (accepted ((weld_of cs).count ∷ length (weld_of cs).indices ∷ [])) (replicate (length s) 0) (over vs (weld_of cs).vertices) (over is (weld_of cs).indices)

unfoldable pub weld_left : List Float → List ℕ → List Float → List ℕ → Outcome Lent
weld_left cs s vs is = outcome (verdict_of cs (length s) (length vs) (length is)) (lent s vs is) (welded cs s vs is)
