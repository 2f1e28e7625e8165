-- `put_face` meets its contract.
use Rattle.stl.specs.Files.{size_of}
use Rattle.stl.proofs.Puts.{face-put}
use Rattle.stl.proofs.put_face.Goals as goal

pub returns : goal.returns
returns c =
    face-put c.args.out.now (size_of c.args.f) c.args.a c.args.b c.args.c _ _ _ _ _ _ c.put_three.ensures
    c.put_corner.ensures c.put_corner-2.ensures c.put_corner-3.ensures
    c.put_byte.ensures c.put_byte-2.ensures
