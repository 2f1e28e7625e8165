-- A contract that permits one outcome: any two that it permits are equal. The theorem of every public call has this form.
-- An outcome is the answer and all that is lent, as the call leaves them.
use Rattle.std.specs.Prelude.{◌≡◌}

abbrev pub One : (A : Type 0) → (A → Type 0) → Type 0
One A permits = (x y : A) → permits x → permits y → x ≡ y
