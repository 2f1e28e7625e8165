-- All cases that the paper marks as proved: floors, roots, welds, splices, drawings, cuts, simplified strokes, sheets and listings.
use Rattle.std.specs.Prelude.{List, ◌++◌, map}
use Rattle.vector.specs.Cases as N
use Rattle.path_chop.specs.Cases as C
use Rattle.path_adaptive.specs.Cases as A
use Rattle.path_simplify.specs.Cases as S
use Rattle.path_splice.specs.Cases as P
use Rattle.mesh_weld.specs.Cases as W
use Rattle.mesh_strokes.specs.Cases as D
use Rattle.sheet_write.specs.Cases as B
use Rattle.sheet_list.specs.Cases as L

pub data Case : Type 0 where
  arithmetic : N.Case → Case
  cut : C.Case → Case
  halved : A.Case → Case
  simplified : S.Case → Case
  spliced : P.Case → Case
  welded : W.Case → Case
  drawing : D.Case → Case
  written : B.Case → Case
  listed : L.Case → Case

abbrev pub Holds : Case → Type 0
Holds (arithmetic c) = N.Holds c
Holds (cut c) = C.Holds c
Holds (halved c) = A.Holds c
Holds (simplified c) = S.Holds c
Holds (spliced c) = P.Holds c
Holds (welded c) = W.Holds c
Holds (drawing c) = D.Holds c
Holds (written c) = B.Holds c
Holds (listed c) = L.Holds c

unfoldable pub paper : List Case
paper =
    map arithmetic N.paper ++ (map welded W.paper ++ (map spliced P.paper ++ (map drawing D.paper ++ (map cut C.paper ++ (map halved A.paper ++ (map simplified S.paper ++ (map written B.paper ++ map listed L.paper)))))))
