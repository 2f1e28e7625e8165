use borrow.Author.Rules.{rules}
use Rattle.path.proofs.Starts.{good_none, good-first, good_start, good-end, good-fall, good-past, good_turn}
use mathlib.Core.Path.{sym}
use native.Mathlib.Omega.{arith}
use Rattle.path.proofs.rising.Goals as goal

pub returns-then-starts-eq0 : goal.returns-then-starts-eq0
returns-then-starts-eq0 c = sym (good_none _ _ c.if-starts-eq0.true)

pub returns-then-starts-ne0 : goal.returns-then-starts-ne0
returns-then-starts-ne0 c = sym (good-first _ _ (omega arith) c.if-starts-ne0.true)

pub loop-i-init : goal.loop-i-init
loop-i-init c = (omega arith, good_start _ _ (omega arith) (search rules))

pub returns-then-s-prev : goal.returns-then-s-prev
returns-then-s-prev c = cc (good-fall c.args.n c.loop-i.prev c.args.starts.now c.loop-i.i (search rules) (search rules))

pub overflow_cast-s : goal.overflow_cast-s
overflow_cast-s c = omega (arith, c.shared_slice_known-in-loop-i-1.given c.loop-i.i)

pub returns-then-n-s : goal.returns-then-n-s
returns-then-n-s c = cc (good-past c.args.n c.loop-i.prev c.args.starts.now c.loop-i.i (search rules) (search rules) (search rules))

pub loop-i-preserved : goal.loop-i-preserved
loop-i-preserved c = (omega arith, cc (good_turn c.args.n c.loop-i.prev c.args.starts.now c.loop-i.i (search rules) (search rules) (search rules)))

pub returns : goal.returns
returns c = cc (good-end c.args.n c.loop-i.prev c.args.starts.now c.loop-i.i (search rules))
