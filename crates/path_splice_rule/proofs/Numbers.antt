-- Demand 3 of strokes of vertex numbers.
use mathlib.Core.List.{List}
use Prim.Native.Nat.{ℕ}
use lib.Dec.{eqb}
use Rattle.order.proofs.Tests.{eqb-true, eqb-self}
use Rattle.path_splice_rule.specs.Splice.{splice}
use Rattle.path_splice_rule.specs.Demand.{Law, Demand3}
use Rattle.path_splice_rule.proofs.Spliced.{demand3}

pub numbers : Law eqb
numbers = record { eq = eqb-true; self = eqb-self }

pub on-numbers : (ss : List (List ℕ)) → Demand3 eqb ss (splice 0 eqb ss)
on-numbers ss = demand3 0 eqb numbers ss
