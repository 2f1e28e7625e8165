-- All of them hold, each by computation in its own crate.
use mathlib.Core.List.{List, [], ◌∷◌, ◌++◌, map}
use Rattle.refusal.specs.Each.{Each}
use Rattle.paper.specs.Paper.{Case, arithmetic, cut, halved, simplified, spliced, welded, drawing, written, listed, Holds, paper}
use Rattle.vector.specs.Cases as N
use Rattle.vector.proofs.Cases as vectors
use Rattle.path_chop.specs.Cases as C
use Rattle.path_chop.proofs.Cases as cuts
use Rattle.path_adaptive.specs.Cases as A
use Rattle.path_adaptive.proofs.Cases as halves
use Rattle.path_simplify.specs.Cases as S
use Rattle.path_simplify.proofs.Cases as simples
use Rattle.path_splice.specs.Cases as P
use Rattle.path_splice.proofs.Cases as splices
use Rattle.mesh_weld.specs.Cases as W
use Rattle.mesh_weld.proofs.Cases as welds
use Rattle.mesh_strokes.specs.Cases as D
use Rattle.mesh_strokes.proofs.Cases as draws
use Rattle.sheet_write.specs.Cases as B
use Rattle.sheet_write.proofs.Cases as sheets
use Rattle.sheet_list.specs.Cases as L
use Rattle.sheet_list.proofs.Cases as lists

-- some cases, all of which hold
record Held : Type 0 where
  list : List Case
  hold : Each Holds list

-- the cases of one crate are cases of the paper
among : {A : Type 0} {P : A → Type 0} (of : A → Case) → ((c : A) → P c → Holds (of c)) → (l : List A) → Each P l → Each Holds (map of l)
among of h [] p = tt
among of h (c ∷ l) p = (h c p.0, among of h l p.1)

also : (a b : List Case) → Each Holds a → Each Holds b → Each Holds (a ++ b)
also [] b p q = q
also (c ∷ a) b p q = (p.0, also a b p.1 q)

abbrev and : Held → Held → Held
and a b = record { list = a.list ++ b.list; hold = also a.list b.list a.hold b.hold }

abbrev all : Held
all =
    and (record { list = map arithmetic N.paper; hold = among arithmetic (λ c p. p) N.paper vectors.cases })
    (and (record { list = map welded W.paper; hold = among welded (λ c p. p) W.paper welds.cases })
    (and (record { list = map spliced P.paper; hold = among spliced (λ c p. p) P.paper splices.cases })
    (and (record { list = map drawing D.paper; hold = among drawing (λ c p. p) D.paper draws.cases })
    (and (record { list = map cut C.paper; hold = among cut (λ c p. p) C.paper cuts.cases })
    (and (record { list = map halved A.paper; hold = among halved (λ c p. p) A.paper halves.cases })
    (and (record { list = map simplified S.paper; hold = among simplified (λ c p. p) S.paper simples.cases })
    (and (record { list = map written B.paper; hold = among written (λ c p. p) B.paper sheets.cases })
    (record { list = map listed L.paper; hold = among listed (λ c p. p) L.paper lists.cases }))))))))

pub cases : Each Holds paper
unfolding paper
cases = all.hold
