-- `all_worth` meets its contract: eight calls, each from what the last gave, by the bit of its way.
use mathlib.Core.Path.{◌≡◌, ap, ◌∙◌}
use Prim.Native.Nat.{ℕ}
use Rattle.mesh_weld.specs.declared.Way.{Way}
use Rattle.mesh_weld.specs.InnerTable.{worth_of}
use Rattle.mesh_weld.proofs.Walks.{way_bits}
use Rattle.mesh_weld.proofs.all_worth.Goals as goal

-- from what the last gave
then : (f : ℕ → ℕ) (w : Way) {r b a : ℕ} → r ≡ worth_of f b w → b ≡ a → r ≡ worth_of f a w
then f w e g = e ∙ ap (λ (x : ℕ). worth_of f x w) g

pub worth-one-requires : goal.worth-one-requires
worth-one-requires c = record { c_value = (c.requires.c_value.0, c.requires.c_value.1.0); is_close_value = ((way_bits c.args.vertices.now c.args.p c.args.w c.args.bits c.requires.bits_value.0).0, c.requires.bits_value.1) }

pub worth-two-requires : goal.worth-two-requires
worth-two-requires c = record { c_value = (c.requires.c_value.0, c.requires.c_value.1.1.0); is_close_value = ((way_bits c.args.vertices.now c.args.p c.args.w c.args.bits c.requires.bits_value.0).1, c.worth-one.ensures.1) }

pub worth-three-requires : goal.worth-three-requires
worth-three-requires c = record { c_value = (c.requires.c_value.0, c.requires.c_value.1.1.1.0); is_close_value = ((way_bits c.args.vertices.now c.args.p c.args.w c.args.bits c.requires.bits_value.0).2, c.worth-two.ensures.1) }

pub worth-four-requires : goal.worth-four-requires
worth-four-requires c = record { c_value = (c.requires.c_value.0, c.requires.c_value.1.1.1.1.0); is_close_value = ((way_bits c.args.vertices.now c.args.p c.args.w c.args.bits c.requires.bits_value.0).3, c.worth-three.ensures.1) }

pub worth-five-requires : goal.worth-five-requires
worth-five-requires c = record { c_value = (c.requires.c_value.0, c.requires.c_value.1.1.1.1.1.0); is_close_value = ((way_bits c.args.vertices.now c.args.p c.args.w c.args.bits c.requires.bits_value.0).4, c.worth-four.ensures.1) }

pub worth-six-requires : goal.worth-six-requires
worth-six-requires c = record { c_value = (c.requires.c_value.0, c.requires.c_value.1.1.1.1.1.1.0); is_close_value = ((way_bits c.args.vertices.now c.args.p c.args.w c.args.bits c.requires.bits_value.0).5, c.worth-five.ensures.1) }

pub worth-seven-requires : goal.worth-seven-requires
worth-seven-requires c = record { c_value = (c.requires.c_value.0, c.requires.c_value.1.1.1.1.1.1.1.0); is_close_value = ((way_bits c.args.vertices.now c.args.p c.args.w c.args.bits c.requires.bits_value.0).6, c.worth-six.ensures.1) }

pub worth-requires : goal.worth-requires
worth-requires c = record { c_value = (c.requires.c_value.0, c.requires.c_value.1.1.1.1.1.1.1.1.0); is_close_value = ((way_bits c.args.vertices.now c.args.p c.args.w c.args.bits c.requires.bits_value.0).7, c.worth-seven.ensures.1) }
