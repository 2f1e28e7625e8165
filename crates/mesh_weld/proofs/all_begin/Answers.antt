-- `all_begin` meets its contract: eight calls.
use Rattle.mesh_weld.proofs.all_begin.Goals as goal

pub returns : goal.returns
returns c =
    rw (
      c.begin.ensures,
      c.begin-2.ensures,
      c.begin-3.ensures,
      c.begin-4.ensures,
      c.begin-5.ensures,
      c.begin-6.ensures,
      c.begin-7.ensures,
      c.begin-8.ensures,
    )
