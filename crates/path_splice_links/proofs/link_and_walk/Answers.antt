-- `link_and_walk` meets its contract.
use Rattle.path_splice_links.proofs.Threads.{ready_first, ready-second, woven}
use Rattle.path_splice_links.proofs.link_and_walk.Goals as goal

pub walk_pass-k-requires : goal.walk_pass-k-requires
walk_pass-k-requires c = ready_first c.args.s.now c.args.n c.requires.0 c.requires.1 c.link_ends.new.s c.link_ends.auto.s c.link_ends.ensures

pub walk_pass-requires : goal.walk_pass-requires
walk_pass-requires c = ready-second c.args.s.now c.args.n c.requires.0 c.requires.1 c.link_ends.new.s c.link_ends.auto.s c.link_ends.ensures c.walk_pass-k.new.s c.walk_pass-k.result c.walk_pass-k.ensures

pub returns : goal.returns
returns c = woven c.args.s.now c.args.n c.requires.0 c.requires.1 c.link_ends.new.s c.link_ends.auto.s c.link_ends.ensures c.walk_pass-k.new.s c.walk_pass-k.result c.walk_pass-k.ensures c.walk_pass.new.s c.walk_pass.result c.walk_pass.ensures
