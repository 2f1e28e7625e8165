use Rattle.std.proofs.Common.{◌*◌, ◌≤◌, length, arith}
use Rattle.path_classes.proofs.Words.{words_none, words_more}
use Rattle.path_classes.proofs.by_words.Goals as goal

pub loop-j-init : goal.loop-j-init
loop-j-init c = words_none c.args.points.now c.args.s.now c.count_up.new.s c.args.m c.requires.1 c.count_up.ensures.0 c.count_up.ensures.1

pub loop-j-preserved : goal.loop-j-preserved
loop-j-preserved c =
    let h : 6 * c.args.m ≤ length c.count_up.new.s = omega (arith, c.count_up.ensures.0.size, c.requires.1) in
    words_more c.args.points.now c.count_up.new.s c.loop-j.s c.fill_words.new.s c.sort_words.new.s c.args.m c.loop-j.j h c.requires.0 c.loop-j.invariant c.fill_words.ensures.0 c.fill_words.ensures.1 c.sort_words.ensures
