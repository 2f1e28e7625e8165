-- `join_in` meets its contract.
use Rattle.path_segments.proofs.Joins.{asks, gives}
use Rattle.path_segments.proofs.join_in.Goals as goal

pub read_out-requires : goal.read_out-requires
read_out-requires c = asks c.args.points.now c.args.n c.thread-c.result c.args.s.now c.number_points.new.s c.fill_todo.new.s c.thread-c.new.s c.requires.0 c.requires.1 c.number_points.ensures c.fill_todo.ensures c.thread-c.auto.s c.thread-c.ensures.s_after c.thread-c.ensures.upper_bound

pub returns : goal.returns
returns c = gives c.args.points.now c.args.n c.thread-c.result c.args.s.now c.number_points.new.s c.fill_todo.new.s c.thread-c.new.s c.requires.0 c.requires.1 c.number_points.ensures c.fill_todo.ensures c.thread-c.auto.s c.thread-c.ensures.s_after c.thread-c.ensures.upper_bound c.args.out_points.now c.args.out_starts.now _ _ _ _ c.requires.2 c.requires.3 c.read_out.ensures
