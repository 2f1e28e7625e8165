-- Points and matrices as C has them: three numbers, and sixteen, row by row.
use Rattle.std.specs.Prelude.{List, get_or, Float}
use Rattle.std.specs.Float.{nan}
use Rattle.vector.specs.declared.Vector.{Vector}
use Rattle.vector.specs.declared.matrix.Matrix.{Matrix}
use Rattle.vector.specs.Vectors.{vec}

abbrev pub point_of : List Float → Vector
point_of l = vec (get_or l 0 nan) (get_or l 1 nan) (get_or l 2 nan)

abbrev pub matrix_of : List Float → Matrix
matrix_of l =
    record {
      x00 = get_or l 0 nan;
      x01 = get_or l 1 nan;
      x02 = get_or l 2 nan;
      x03 = get_or l 3 nan;
      x10 = get_or l 4 nan;
      x11 = get_or l 5 nan;
      x12 = get_or l 6 nan;
      x13 = get_or l 7 nan;
      x20 = get_or l 8 nan;
      x21 = get_or l 9 nan;
      x22 = get_or l 10 nan;
      x23 = get_or l 11 nan;
      x30 = get_or l 12 nan;
      x31 = get_or l 13 nan;
      x32 = get_or l 14 nan;
      x33 = get_or l 15 nan;
    }
