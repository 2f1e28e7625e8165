-- An answer as the paper reads it: a number, 0 where the call was accepted, the values of an accepted call, and what a refusal carries.
use Rattle.std.specs.Prelude.{List, [], ◌∷◌, ℕ, Option, Some, None, Result, Ok, Err}
use Rattle.refusal.specs.declared.Refusal.{Refusal}
use Rattle.refusal.specs.Refusals.{number_of, carried_by, Verdict}

pub record Said (A : Type 0) : Type 0 where
  pub number : ℕ
  pub values : List A
  pub carried : List ℕ

abbrev pub accepted : {A : Type 0} → List A → Said A
accepted vs = record { number = 0; values = vs; carried = [] }

abbrev pub refused : {A : Type 0} → Refusal → Said A
refused r = record { number = number_of r; values = []; carried = carried_by r }

-- a number alone: what a function below the calls says where it knows no face to carry
abbrev pub numbered : {A : Type 0} → ℕ → Said A
numbered n = record { number = n; values = []; carried = [] }

-- an answer whose values are read by `values`, or the refusal
abbrev pub said_by : {A B : Type 0} → (A → List B) → Result A Refusal → Said B
said_by values (Ok a) = accepted (values a)
said_by values (Err r) = refused r

-- an answer of one value, or the refusal
abbrev pub value_said : {A : Type 0} → Result A Refusal → Said A
value_said r = said_by (λ v. v ∷ []) r

-- a value that may be none, which is no refusal
abbrev pub option_said : {A : Type 0} → Option A → Said A
option_said (Some v) = accepted (v ∷ [])
option_said None = accepted []

-- a verdict: no value where all tests are passed
abbrev pub verdict_said : Verdict → Said ℕ
verdict_said v = said_by (λ _. []) v
