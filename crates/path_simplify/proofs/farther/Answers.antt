-- `farther` meets its contract.
use Rattle.path_simplify.proofs.Squares.{not_farther, is_farther}
use Rattle.path_simplify.proofs.farther.Goals as goal

pub returns-then-square-first : goal.returns-then-square-first
returns-then-square-first c = is_farther c.args.r c.requires c.args.i c.args.p c.args.a c.args.b _ c.segment_square-square.ensures c.if-square-first.true

pub returns : goal.returns
returns c = not_farther c.args.r c.requires c.args.i c.args.p c.args.a c.args.b _ c.segment_square-square.ensures c.if-square-first.false
