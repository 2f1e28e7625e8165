-- What a call of chop_adaptive answers and leaves in the two lists lent to it.
use Rattle.std.specs.Prelude.{Bool, ◌&&◌, List, [], ◌∷◌, ℕ, ◌/◌, min, length, Float, Result}
use Rattle.refusal.specs.Limits.{most_points}
use Rattle.refusal.specs.Refusals.{unless}
use Rattle.refusal.specs.Said.{Said, said_by}
use Rattle.refusal.specs.Outcome.{Outcome, outcome}
use Rattle.refusal.specs.declared.Refusal.{Refusal}
use Rattle.refusal.specs.declared.Refusal.TheVariants.{Shape, Count, Number}
use Rattle.refusal.specs.Refusals.{Verdict}
use Rattle.vector.specs.declared.matrix.Matrix.{Matrix}
use Rattle.path.specs.Tests.{shaped_of, counted_of, coordinates_good, entries_good, step_good, size_good, tolerance_good}
use Rattle.path.specs.Call.{Lent, lent, laid}
use Rattle.path_adaptive.specs.declared.Adapted.{Adapted}
use Rattle.path_adaptive.specs.Walk.{view_of, walks_of, adapted, halvings_of}
use Rattle.path_adaptive.specs.Tally.{room_left, spent_all, verdict_by}

-- the answer's number and values
abbrev pub said : Result Adapted Refusal → Said ℕ
said r = said_by (λ p. p.points ∷ p.starts ∷ p.halvings ∷ []) r

abbrev pub entries_of : Matrix → List Float
entries_of m =
    m.x00 ∷ m.x01 ∷ m.x02 ∷ m.x03 ∷ m.x10 ∷ m.x11 ∷ m.x12 ∷ m.x13 ∷ m.x20 ∷ m.x21 ∷ m.x22 ∷ m.x23 ∷ m.x30 ∷ m.x31 ∷ m.x32 ∷ m.x33 ∷ []

-- the numbers of the call beside its points
unfoldable pub numbers_good : Matrix → Float → Float → Float → Float → Bool
numbers_good m width height step tolerance = entries_good (entries_of m) && size_good width && size_good height && step_good step && tolerance_good tolerance

-- how many points may be written into so many numbers
unfoldable pub point_room : ℕ → ℕ
point_room room = min (room / 3) most_points

unfoldable pub verdict_of : List Float → List ℕ → Matrix → Float → Float → Float → Float → ℕ → ℕ → Verdict
verdict_of ps ss m width height step tolerance room start_room =
    unless (shaped_of ps ss) Shape
    (unless (counted_of (length ps / 3) (length ss)) Count
    (unless (coordinates_good ps) Number
    (unless (numbers_good m width height step tolerance) Number
    (verdict_by (spent_all (room_left (point_room room) start_room) (walks_of (view_of m width height step tolerance) ps ss))))))

unfoldable pub adaptive_left : List Float → List ℕ → Matrix → Float → Float → Float → Float → List Float → List ℕ → Outcome Lent
adaptive_left ps ss m width height step tolerance op os =
    let ws = walks_of (view_of m width height step tolerance) ps ss in
    outcome (verdict_of ps ss m width height step tolerance (length op) (length os)) (lent op os) (laid (halvings_of ws ∷ []) (adapted ws) op os)
