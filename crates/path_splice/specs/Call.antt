-- The call: when it is refused, what it answers, and what it leaves in what it was lent.
use Rattle.std.specs.Prelude.{Ok}
use Rattle.std.specs.Prelude.{◌&&◌, List, [], ◌∷◌, ℕ, ◌*◌, length, replicate, leb, eqb}
use Rattle.refusal.specs.declared.Refusal.TheVariants.{Shape, Count, Scratch, Room}
use Rattle.refusal.specs.Refusals.{Verdict}
use Rattle.refusal.specs.Refusals.{unless}
use Rattle.refusal.specs.Said.{Said, accepted}
use Rattle.refusal.specs.Outcome.{Outcome, leaves, outcome}
use Rattle.path.specs.Strokes.{good_starts, strokes_in}
use Rattle.path.specs.Laid.{over, joined, starts_from}
use Rattle.path.specs.Tests.{counted_of}
use Rattle.path_splice_rule.specs.Splice.{splice}

-- the lowest refusal that applies: a table of starts, the limits, 8 words of scratch a stroke, room for as many points and starts as the input
unfoldable pub verdict_of : List ℕ → List ℕ → ℕ → ℕ → ℕ → Verdict
verdict_of ps ss words room starts =
    unless (good_starts (length ps) ss) Shape
    (unless (counted_of (length ps) (length ss)) Count
    (unless (leb (8 * length ss) words) Scratch
    (unless (leb (length ps) room && leb (length ss) starts) Room
    (Ok tt))))

pub record Lent : Type 0 where
  pub scratch : List ℕ
  pub points : List ℕ
  pub starts : List ℕ

abbrev pub lent : List ℕ → List ℕ → List ℕ → Lent
lent s op os = record { scratch = s; points = op; starts = os }

abbrev pub left : Said ℕ → List ℕ → List ℕ → List ℕ → Outcome Lent
left a s op os = leaves a (lent s op os)

-- strokes written: their points in a row, the start of each, and the rest of both lists as it was
unfoldable pub laid : List (List ℕ) → List ℕ → List ℕ → List ℕ → Outcome Lent
laid ss s op os = left (accepted (length (joined ss) ∷ length ss ∷ [])) s (over op (joined ss)) (over os (starts_from 0 ss))

-- accepted: the spliced strokes written, and scratch all zero
unfoldable pub splice_left : List ℕ → List ℕ → List ℕ → List ℕ → List ℕ → Outcome Lent
splice_left ps ss s op os =
    outcome (verdict_of ps ss (length s) (length op) (length os)) (lent s op os) (laid (splice 0 eqb (strokes_in ps ss)) (replicate (length s) 0) op os)
