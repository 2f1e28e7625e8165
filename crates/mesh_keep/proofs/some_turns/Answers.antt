use borrow.Author.Rules.{rules}
use mathlib.Core.Path.{sym, ◌∙◌}
use native.Mathlib.Omega.{arith}
use Rattle.mesh_keep.specs.Keep.{seen_in}
use Rattle.mesh_keep.proofs.Keeps.{turns_none, turns_more, turns-found}
use Rattle.mesh_keep.proofs.some_turns.Goals as goal

pub returns-then-turn-tolerance : goal.returns-then-turn-tolerance
returns-then-turn-tolerance c = turns-found (seen_in c.args.seen.now) c.args.tolerance c.args.f c.args.sides.now c.loop-side.side-index (omega arith) _ c.turn.ensures c.if-turn-tolerance.true ∙ c.loop-side.invariant

pub loop-side-preserved : goal.loop-side-preserved
loop-side-preserved c =
    turns_more (seen_in c.args.seen.now) c.args.tolerance c.args.f c.args.sides.now c.loop-side.side-index (omega arith) _ c.turn.ensures (search rules) ∙ c.loop-side.invariant

pub returns : goal.returns
returns c = sym (turns_none (seen_in c.args.seen.now) c.args.tolerance c.args.f c.args.sides.now c.loop-side.side-index (omega arith)) ∙ c.loop-side.invariant
