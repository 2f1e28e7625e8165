-- What a call leaves: its answer, and all that was lent to it. A refusal changes nothing: said here, once for all calls.
use Rattle.std.specs.Prelude.{ℕ, Ok, Err}
use Rattle.refusal.specs.Refusals.{Verdict}
use Rattle.refusal.specs.Said.{Said, refused}

pub record Outcome (L : Type 0) : Type 0 where
  pub answer : Said ℕ
  pub lent : L

abbrev pub leaves : {L : Type 0} → Said ℕ → L → Outcome L
leaves a l = record { answer = a; lent = l }

-- by the verdict: what the work leaves, or the refusal and everything as it was
-- A refusal that is found late, in the work, is part of `done`, which has an answer of its own.
unfoldable pub outcome : {L : Type 0} → Verdict → L → Outcome L → Outcome L
outcome (Ok _) old done = done
outcome (Err r) old done = leaves (refused r) old
