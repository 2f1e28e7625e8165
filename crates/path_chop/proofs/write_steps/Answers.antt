use borrow.Author.Rules.{rules}
use Rattle.vector.specs.Vectors.{add_of}
use Rattle.path_chop.proofs.Chops.{steps_turn, steps_room, steps_halt, steps_end}
use Rattle.path.specs.Courses.{course}
use Rattle.path_chop.specs.Chop.{too_many, along, steps_of}
use native.Mathlib.Omega.{arith}
use mathlib.Core.Path.{sym, ap, ◌∙◌}
use Rattle.path_chop.proofs.write_steps.Goals as goal

pub overflow_add-o : goal.overflow_add-o
overflow_add-o c = omega (arith, steps_room (along c.args.a c.args.v c.args.l) c.loop-n.n too_many c.args.l c.args.step c.loop-n.d c.loop-n.out c.loop-n.o (search rules) (search rules) (course c.args.out.now c.args.at) (steps_of too_many c.args.l c.args.step c.args.step) c.loop-n.invariant.2)

pub loop-n-preserved : goal.loop-n-preserved
loop-n-preserved c =
    let w = c.add.ensures ∙ ap (add_of c.args.a) c.mul_scalar.ensures in
    (omega arith, cc, steps_turn (along c.args.a c.args.v c.args.l) c.loop-n.n too_many c.args.l c.args.step c.loop-n.d c.loop-n.out c.loop-n.o (search rules) (search rules) _ w c.put_point.ensures ∙ c.loop-n.invariant.2)

pub returns-else-d-l : goal.returns-else-d-l
returns-else-d-l c = sym (steps_halt (along c.args.a c.args.v c.args.l) c.loop-n.n too_many c.args.l c.args.step c.loop-n.d c.loop-n.out c.loop-n.o (search rules)) ∙ c.loop-n.invariant.2

pub returns : goal.returns
returns c = sym (steps_end (along c.args.a c.args.v c.args.l) c.loop-n.n too_many c.args.l c.args.step c.loop-n.d c.loop-n.out c.loop-n.o (search rules)) ∙ c.loop-n.invariant.2
