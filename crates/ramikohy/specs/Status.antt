-- What a C function leaves: its status, and what the place of its value holds.
use Rattle.std.specs.Prelude.{List, [], ◌∷◌, ℕ, get_or}
use Rattle.refusal.specs.Said.{Said}

pub record Valued (A : Type 0) : Type 0 where
  pub status : ℕ
  pub value : A

abbrev pub valued : {A : Type 0} → ℕ → A → Valued A
valued s v = record { status = s; value = v }

-- the number of the answer and its one value; the place is as it was where there is none
abbrev pub valued_by : {A : Type 0} → Said A → A → Valued A
valued_by answer old = valued answer.number (get_or answer.values 0 old)

-- the status where the answer is that there is none
abbrev pub none_status : {A : Type 0} → List A → ℕ
none_status [] = 255
none_status (v ∷ vs) = 0

abbrev pub valued_by_unit : {A : Type 0} → Said A → A → Valued A
valued_by_unit answer old = valued (none_status answer.values) (get_or answer.values 0 old)
