-- Laws of walks that are written.
use mathlib.Core.Path.{◌≡◌, sym, ap, subst⁻¹, ◌∙◌}
use mathlib.Core.List.{List, []}
use Prim.Native.Nat.{ℕ, ◌+◌}
use native.Mathlib.Omega.{arith}
use lib.ListN.{length}
use lib.Ieee.{Float}
use Rattle.vector.specs.declared.Vector.{Vector}
use Rattle.path.specs.InnerPushes.{put_point, put_points}
use Rattle.path.specs.Courses.{course, advanced}
use Rattle.path.proofs.Pushes.{ink_none, ink_append, ink_place}
use Rattle.path.proofs.Points.{points_lie, ink_more}
use Rattle.path_adaptive.specs.declared.write.Mark.{Mark}
use Rattle.path_adaptive.specs.Walk.{Walk, none, one_point}
use Rattle.path_adaptive.specs.InnerWrite.{Fits, Inks}
use Rattle.path_adaptive.proofs.Walks.{Both}

-- a walk by its other name
pub inks_are : {w u : Walk} {a b : List Float} {m k : Mark} → w ≡ u → Inks u a m b k → Inks w a m b k
inks_are {w} {u} {a} {b} {m} {k} e f = subst⁻¹ (λ (x : Walk). Inks x a m b k) e f

pub one-inks : (v : Vector) (a b : List Float) (m : Mark) → b ≡ put_point a m.points v → Inks (one_point v) a m b (record { points = m.points + 1; halvings = m.halvings })
one-inks v a b m g =
    record {
      ink = rw g (sym (ink_none points_lie (course (put_point a m.points v) (m.points + 1))) ∙ ink_more a m.points v []);
      count = omega arith;
    }

-- ---- l and then r are w, with n halvings more: from the mark m, or from k where those n are counted

module _ {n : ℕ} {m k : Mark} {l r w : Walk} (b : Both n l r w) (p : k.points ≡ m.points) (e : k.halvings ≡ m.halvings + n) where
  -- l fits
  pub left-fits : Fits w m → Fits l k
  left-fits f = record { calm = b.calm; few = omega (arith, f.few, b.length_is); few_halvings = omega (arith, f.few_halvings, b.halvings_are) }

  -- and r after it
  pub right_fits : Fits w m → {x y : List Float} {j : Mark} → Inks l x k y j → Fits r j
  right_fits f {x} {y} {j} t =
      let q : j.points ≡ k.points + length l.points = ink_place put_points (course x k.points) l.points t.ink in
      record { calm = b.calm_after; few = omega (arith, f.few, b.length_is); few_halvings = omega (arith, f.few_halvings, b.halvings_are, t.count) }

  -- both are written, one after the other
  pub both_inks : {x y z : List Float} {j i : Mark} → Inks l x k y j → Inks r y j z i → Inks w x m z i
  both_inks {x} f g =
      record {
        ink = g.ink ∙ rw (f.ink, b.points_are, p) (ink_append points_lie (course x m.points) l.points r.points);
        count = omega (arith, b.halvings_are, f.count, g.count);
      }

-- ---- spans that are written in turn

-- writing w from here, b and the mark n, leaves what writing all from the start, a and the mark m, leaves
pub record Rest (all : Walk) (a : List Float) (m : Mark) (w : Walk) (b : List Float) (n : Mark) : Type 0 where
  pub ink : advanced put_points (course b n.points) w.points ≡ advanced put_points (course a m.points) all.points
  pub count : n.halvings + w.halvings ≡ m.halvings + all.halvings

-- l is written, and r is left
pub rest_turn : {l r w all : Walk} {a b d : List Float} {m n k : Mark} → Both 0 l r w → Inks l b n d k → Rest all a m w b n → Rest all a m r d k
rest_turn {l} {r} {w} {all} {a} {b} {d} {m} {n} {k} t f g =
    record {
      ink = rw f.ink (ink_append points_lie (course b n.points) l.points r.points ∙ ap (advanced put_points (course b n.points)) (sym t.points_are) ∙ g.ink);
      count = omega (arith, t.halvings_are, f.count, g.count);
    }

-- nothing is left
pub rest_end : {w all : Walk} {a b : List Float} {m n : Mark} → w ≡ none → Rest all a m w b n → Inks all a m b n
rest_end {w} {all} {a} {b} {m} {n} e g =
    let z = ap (λ (y : Walk). y.halvings) e in
    record {
      ink = sym (ap (λ (y : Walk). advanced put_points (course b n.points) y.points) e ∙ ink_none points_lie (course b n.points)) ∙ g.ink;
      count = omega (arith, g.count);
    }
