-- `write_span` meets its contract.
use Rattle.path_chop.proofs.Chops.{span-length, span-at, span-ink}
use Rattle.path.specs.Courses.{course}
use native.Mathlib.Omega.{arith}
use Rattle.path_chop.proofs.write_span.Goals as goal

pub write_steps-o-requires : goal.write_steps-o-requires
write_steps-o-requires c = omega (arith, c.requires.2, span-length c.args.step c.args.a c.args.b c.args.v c.args.l c.requires.0 c.requires.1)

pub overflow_add-result : goal.overflow_add-result
overflow_add-result c =
    let e = span-at c.args.step c.args.a c.args.b c.args.v c.args.l c.requires.0 c.requires.1 (course c.args.out.now c.args.at) _ _ c.write_steps-o.ensures in
    omega (arith, c.requires.2)

pub returns : goal.returns
returns c = span-ink c.args.step c.args.a c.args.b c.args.v c.args.l c.requires.0 c.requires.1 (course c.args.out.now c.args.at) _ _ c.write_steps-o.ensures c.put_point.ensures
