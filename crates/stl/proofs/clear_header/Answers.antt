use mathlib.Core.Path.{sym, ◌∙◌}
use Rattle.stl.specs.Files.{header_bytes}
use Rattle.stl.proofs.Puts.{zeros-turn, zeros-end}
use Rattle.stl.proofs.clear_header.Goals as goal

pub loop-i-preserved : goal.loop-i-preserved
loop-i-preserved c = zeros-turn header_bytes c.loop-i.i c.loop-i-test.true c.loop-i.out _ c.put_byte.ensures ∙ c.loop-i.invariant

pub returns : goal.returns
returns c = sym (zeros-end header_bytes c.loop-i.i c.loop-i-test.false c.loop-i.out) ∙ c.loop-i.invariant
