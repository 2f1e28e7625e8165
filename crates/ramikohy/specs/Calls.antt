-- What a C function over a call on lent lists leaves: its status, the places of its counts, and what was lent to it.
use Rattle.std.specs.Prelude.{List, [], ◌∷◌, ℕ, get_or}
use Rattle.refusal.specs.Outcome.{Outcome}

pub record Called (L : Type 0) : Type 0 where
  pub status : ℕ
  pub counts : List ℕ
  pub lent : L

abbrev pub called : {L : Type 0} → ℕ → List ℕ → L → Called L
called s ns l = record { status = s; counts = ns; lent = l }

-- the counts of an answer; the places are as they were where there is none
abbrev pub counts_of : List ℕ → List ℕ → List ℕ
counts_of [] old = old
counts_of (n ∷ ns) old = n ∷ ns

abbrev pub called_by : {L : Type 0} → Outcome L → List ℕ → Called L
called_by o old = called o.answer.number (counts_of o.answer.values old) o.lent

-- draw has one place more, for the face that a refusal carries; it is as it was where none is carried
pub record Faced (L : Type 0) : Type 0 where
  pub call : Called L
  pub face : ℕ

abbrev pub faced : {L : Type 0} → Called L → ℕ → Faced L
faced c f = record { call = c; face = f }

abbrev pub faced_by : {L : Type 0} → Outcome L → List ℕ → ℕ → Faced L
faced_by o old face = faced (called_by o old) (get_or o.answer.carried 0 face)
