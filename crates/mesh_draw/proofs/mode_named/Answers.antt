-- `mode_named` meets its contract.
use Rattle.mesh_draw.proofs.Modes.{mode_known, mode_unnamed}
use Rattle.mesh_draw.proofs.mode_named.Goals as goal

pub returns-in-Ok : goal.returns-in-Ok
returns-in-Ok c = mode_known c.args.number c.args.cos_theta _ c.mode_of.ensures _ c.in-Ok.is

pub returns-in-Err : goal.returns-in-Err
returns-in-Err c = mode_unnamed c.args.number c.args.cos_theta _ c.mode_of.ensures _ c.in-Err.is
