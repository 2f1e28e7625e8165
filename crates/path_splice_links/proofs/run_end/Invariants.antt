-- `run_end` meets its contract. The places from p up to q have the value of p.
use mathlib.Core.Path.{◌≡◌}
use Prim.Native.Nat.{ℕ, ◌<◌, ◌≤◌}
use Rattle.path_splice_links.specs.Runs.{end_value}
use Rattle.path_splice_links.proofs.run_end.Given as goal

abbrev pub invariant-loop-q : goal.invariant-loop-q
invariant-loop-q l = (l.p < l.q) × (l.v ≡ end_value l.values l.s l.p) × ((z : ℕ) → l.p ≤ z → z < l.q → end_value l.values l.s z ≡ end_value l.values l.s l.p)
