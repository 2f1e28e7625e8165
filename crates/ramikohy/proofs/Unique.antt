-- What the contract of each C function permits is one outcome: the status, and every element of what is lent.
use mathlib.Core.Path.{◌≡◌, sym, ap, ◌∙◌}
use mathlib.Core.List.{List, [], ◌∷◌}
use Prim.Native.Nat.{ℕ}
use native.Mathlib.Omega.{arith}
use lib.ListN.{length}
use lib.Ieee.{Float}
use Rattle.refusal.specs.One.{One}
use Rattle.refusal.proofs.Unique.{one-read}
use Rattle.vector.specs.declared.Vector.{Vector}
use Rattle.path.specs.Call as P
use Rattle.path_splice.specs.Call as S
use Rattle.mesh_weld.specs.Call as W
use Rattle.mesh_contour.specs.Call as C
use Rattle.mesh_strokes.specs.Call as D
use Rattle.sheet_write.specs.Call as O
use Rattle.stl_write.specs.Call as F
use Rattle.sheet_read.specs.Call as R
use Rattle.ramikohy.specs.Points.{point_of}
use Rattle.ramikohy.specs.Status.{Valued, valued}
use Rattle.ramikohy.specs.Calls.{Called, called, Faced, faced}

no : {A : Type 0} → ⊥ → A
no = elim [ ]

-- an array of three has three numbers, and its point has them all
same_point_lem : (l m : List Float) → length l ≡ 3 → length m ≡ 3 → point_of l ≡ point_of m → l ≡ m
same_point_lem (a ∷ b ∷ c ∷ []) (x ∷ y ∷ z ∷ []) e f p =
    let first : a ≡ x = ap (λ (v : Vector). v.x) p in
    let second : b ≡ y = ap (λ (v : Vector). v.y) p in
    let third : c ≡ z = ap (λ (v : Vector). v.z) p in
    cc
same_point_lem [] m e f p = no (omega arith)
same_point_lem (a ∷ []) m e f p = no (omega arith)
same_point_lem (a ∷ b ∷ []) m e f p = no (omega arith)
same_point_lem (a ∷ b ∷ c ∷ d ∷ rest) m e f p = no (omega arith)
same_point_lem (a ∷ b ∷ c ∷ []) [] e f p = no (omega arith)
same_point_lem (a ∷ b ∷ c ∷ []) (x ∷ []) e f p = no (omega arith)
same_point_lem (a ∷ b ∷ c ∷ []) (x ∷ y ∷ []) e f p = no (omega arith)
same_point_lem (a ∷ b ∷ c ∷ []) (x ∷ y ∷ z ∷ w ∷ rest) e f p = no (omega arith)

-- cross, add, sub, mul, div, the four with a scalar, mul_position_w: an array of three is fixed by its point
pub one-point : (v : Vector) → One (List Float) (λ l. (length l ≡ 3) × (point_of l ≡ v))
one-point v l m p q = same_point_lem l m p.0 q.0 (p.1 ∙ sym q.1)

-- normalize: a status and an array of three
pub one-normalize : (x : Valued Vector) → One (ℕ × List Float) (λ o. (length o.1 ≡ 3) × (valued o.0 (point_of o.1) ≡ x))
one-normalize x r t p q =
    let e = p.1 ∙ sym q.1 in
    let a = same_point_lem r.1 t.1 p.0 q.0 (ap (λ (l : Valued Vector). l.value) e) in
    λ i. ((e i).status, a i)

-- floor and sqrt: a status and a value
pub one_value : {A : Type 0} (x : Valued A) → One (ℕ × A) (λ o. valued o.0 o.1 ≡ x)
one_value = one-read (λ o. valued o.0 o.1) (λ r t e i. ((e i).status, (e i).value))

-- every call on lent lists: a status, counts, and what is lent
one-called : {L : Type 0} (x : Called L) → One (ℕ × List ℕ × L) (λ o. called o.0 o.1 o.2 ≡ x)
one-called = one-read (λ o. called o.0 o.1 o.2) (λ r t e i. ((e i).status, (e i).counts, (e i).lent))

-- chop, chop_adaptive, simplify, section
pub one-strokes : (x : Called P.Lent) → One (ℕ × List ℕ × List Float × List ℕ) (λ o. called o.0 o.1 (P.lent o.2 o.3) ≡ x)
one-strokes x r t p q =
    let e = one-called x (r.0, r.1, P.lent r.2 r.3) (t.0, t.1, P.lent t.2 t.3) p q in
    λ i. ((e i).0, (e i).1, (e i).2.points, (e i).2.starts)

pub one-splice : (x : Called S.Lent) → One (ℕ × List ℕ × List ℕ × List ℕ × List ℕ) (λ o. called o.0 o.1 (S.lent o.2 o.3 o.4) ≡ x)
one-splice x r t p q =
    let e = one-called x (r.0, r.1, S.lent r.2 r.3 r.4) (t.0, t.1, S.lent t.2 t.3 t.4) p q in
    λ i. ((e i).0, (e i).1, (e i).2.scratch, (e i).2.points, (e i).2.starts)

pub one-weld : (x : Called W.Lent) → One (ℕ × List ℕ × List ℕ × List Float × List ℕ) (λ o. called o.0 o.1 (W.lent o.2 o.3 o.4) ≡ x)
one-weld x r t p q =
    let e = one-called x (r.0, r.1, W.lent r.2 r.3 r.4) (t.0, t.1, W.lent t.2 t.3 t.4) p q in
    λ i. ((e i).0, (e i).1, (e i).2.scratch, (e i).2.vertices, (e i).2.indices)

pub one-contour : (x : Called C.Lent) → One (ℕ × List ℕ × List ℕ × List Float × List Float × List ℕ) (λ o. called o.0 o.1 (C.lent o.2 o.3 o.4 o.5) ≡ x)
one-contour x r t p q =
    let e = one-called x (r.0, r.1, C.lent r.2 r.3 r.4 r.5) (t.0, t.1, C.lent t.2 t.3 t.4 t.5) p q in
    λ i. ((e i).0, (e i).1, (e i).2.words, (e i).2.numbers, (e i).2.points, (e i).2.starts)

-- draw has a place for a face besides
one-faced : {L : Type 0} (x : Faced L) → One (ℕ × List ℕ × L × ℕ) (λ o. faced (called o.0 o.1 o.2) o.3 ≡ x)
one-faced = one-read (λ o. faced (called o.0 o.1 o.2) o.3) (λ r t e i. ((e i).call.status, (e i).call.counts, (e i).call.lent, (e i).face))

pub one-draw : (x : Faced D.Lent) → One (ℕ × List ℕ × List ℕ × List Float × List ℕ × List ℕ × ℕ) (λ o. faced (called o.0 o.1 (D.lent o.2 o.3 o.4 o.5)) o.6 ≡ x)
one-draw x r t p q =
    let e = one-faced x (r.0, r.1, D.lent r.2 r.3 r.4 r.5, r.6) (t.0, t.1, D.lent t.2 t.3 t.4 t.5, t.6) p q in
    λ i. ((e i).0, (e i).1, (e i).2.words, (e i).2.seen, (e i).2.points, (e i).2.starts, (e i).3)

pub one-writing : (x : Called O.Lent) → One (ℕ × List ℕ × List ℕ) (λ o. called o.0 o.1 (O.lent o.2) ≡ x)
one-writing x r t p q = let e = one-called x (r.0, r.1, O.lent r.2) (t.0, t.1, O.lent t.2) p q in λ i. ((e i).0, (e i).1, (e i).2.bytes)

pub one-write_stl : (x : Called F.Lent) → One (ℕ × List ℕ × List ℕ) (λ o. called o.0 o.1 (F.lent o.2) ≡ x)
one-write_stl x r t p q = let e = one-called x (r.0, r.1, F.lent r.2) (t.0, t.1, F.lent t.2) p q in λ i. ((e i).0, (e i).1, (e i).2.bytes)

pub one-reading : (x : Called R.Lent) → One (ℕ × List ℕ × List ℕ × List ℕ) (λ o. called o.0 o.1 (R.lent o.2 o.3) ≡ x)
one-reading x r t p q =
    let e = one-called x (r.0, r.1, R.lent r.2 r.3) (t.0, t.1, R.lent t.2 t.3) p q in
    λ i. ((e i).0, (e i).1, (e i).2.numbers, (e i).2.starts)
