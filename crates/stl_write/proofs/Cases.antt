-- The worked cases, by computation.
use mathlib.Core.Path.{refl}
use lib.Ieee.{of_bits, to_bits, fits, is_nan, lt, eq, le}
use Rattle.refusal.specs.Each.{Each}
use Rattle.refusal.specs.Refusals.{unless}
use Rattle.refusal.specs.Outcome.{outcome}
use Rattle.vector.specs.Abs.{abs_of}
use Rattle.byte_words.specs.Bytes.{bytes_of, bytes_all}
use Rattle.single.specs.Singles.{pattern_of}
use Rattle.path.specs.Strokes.{point_at}
use Rattle.path.specs.Tests.{coordinates_good}
use Rattle.path.specs.Laid.{over}
use Rattle.mesh.specs.Meshes.{gathered, shaped_of, counted_of, all_below}
use Rattle.stl.specs.Files.{zeros, face_of, faces_of, head_of, stl_of, all_single}
use Rattle.stl_write.specs.Call.{numbers_good, verdict_of, laid, write_left}
use Rattle.stl_write.specs.Cases.{Holds, worked}

pub cases : Each Holds worked
unfolding worked write_left outcome laid verdict_of unless numbers_good shaped_of counted_of all_below coordinates_good all_single gathered point_at abs_of over stl_of head_of faces_of face_of zeros bytes_of bytes_all pattern_of of_bits to_bits fits is_nan lt eq le
cases = (refl, (refl, (refl, (refl, (refl, (refl, (refl, (refl, (refl, (refl, tt))))))))))
