-- One corner: what stands where in the flat lists.
use Rattle.path.specs.Strokes.{point_at}
use Rattle.path.specs.InnerPushes.{put_point}
use mathlib.Core.Path.{◌≡◌, sym, ◌∙◌, subst}
use mathlib.Core.List.{List}
use Prim.Native.Nat.{ℕ, ◌+◌, ◌*◌, ◌<◌}
use native.Mathlib.Omega.{arith}
use lib.ListN.{length, get_or, set, length-set}
use lib.Seq.{get_or-set_same, get_or-set_other}
use lib.Ieee.{Float, nan}
use Rattle.vector.specs.declared.Vector.{Vector}
use Rattle.mesh_weld.specs.declared.Cube.{Cube}
use Rattle.std.specs.Prelude.{Option, Some, None}
use Rattle.mesh_weld.specs.Weld.{find}
use Rattle.mesh_weld.specs.InnerTable.{cube_of, coarse_of, coarse_at, Hung, Ready, Placed}
use Rattle.mesh_weld.proofs.Trees.{table_more}

module _ (vs : List Float) (k : ℕ) (p : Vector) (h : k * 3 + 2 < length vs) where
  abbrev pub put : List Float
  put = set (set (set vs (k * 3) p.x) (k * 3 + 1) p.y) (k * 3 + 2) p.z

  put_other : (j : ℕ) → (j ≡ k * 3 → ⊥) → (j ≡ k * 3 + 1 → ⊥) → (j ≡ k * 3 + 2 → ⊥) → get_or put j nan ≡ get_or vs j nan
  put_other j a b c =
      get_or-set_other (set (set vs (k * 3) p.x) (k * 3 + 1) p.y) (k * 3 + 2) j p.z nan c
      ∙ get_or-set_other (set vs (k * 3) p.x) (k * 3 + 1) j p.y nan b ∙ get_or-set_other vs (k * 3) j p.x nan a

  pub put-before : (v : ℕ) → v < k → point_at put v ≡ point_at vs v
  unfolding point_at
  put-before v l =
      rw (
        put_other (v * 3) (λ e. omega arith) (λ e. omega arith) (λ e. omega arith),
        put_other (v * 3 + 1) (λ e. omega arith) (λ e. omega arith) (λ e. omega arith),
        put_other (v * 3 + 2) (λ e. omega arith) (λ e. omega arith) (λ e. omega arith),
      )

  pub put-at : point_at put k ≡ p
  unfolding point_at
  put-at =
      let s1 = set vs (k * 3) p.x in
      let s2 = set s1 (k * 3 + 1) p.y in
      let l1 : length s1 ≡ length vs = length-set vs (k * 3) p.x in
      let l2 : length s2 ≡ length s1 = length-set s1 (k * 3 + 1) p.y in
      let z : get_or put (k * 3 + 2) nan ≡ p.z = get_or-set_same s2 (k * 3 + 2) p.z nan (omega arith) in
      let y : get_or put (k * 3 + 1) nan ≡ p.y = get_or-set_other s2 (k * 3 + 2) (k * 3 + 1) p.z nan (λ e. omega arith) ∙ get_or-set_same s1 (k * 3 + 1) p.y nan (omega arith) in
      let x : get_or put (k * 3) nan ≡ p.x =
      get_or-set_other s2 (k * 3 + 2) (k * 3) p.z nan (λ e. omega arith) ∙ get_or-set_other s1 (k * 3 + 1) (k * 3) p.y nan (λ e. omega arith) ∙ get_or-set_same vs (k * 3) p.x nan (omega arith) in
      rw (x, y, z)

  pub coarse_before : (v : ℕ) → v < k → coarse_at vs v ≡ coarse_at put v
  unfolding coarse_at
  coarse_before v l = rw (put-before v l)

  pub coarse_at_lem : coarse_at put k ≡ coarse_of (cube_of p)
  unfolding coarse_at
  coarse_at_lem = rw put-at

-- a corner that is found, and one that is new
module _ (s : List ℕ) (vs : List Float) (is : List ℕ) (m k i : ℕ) (p : Vector) (r : Ready s vs m k) where
  pub old : (v : ℕ) (f : Option ℕ) → f ≡ Some v → f ≡ find vs k p → Placed vs is m k i p s vs (set is i v) k
  old v f e d = let o : find vs k p ≡ Some v = sym d ∙ e in record { vertices = rw o; indices = rw o; count = rw o; table = r.table }

  pub new : (f : Option ℕ) → f ≡ None → f ≡ find vs k p → (q : Cube) → q ≡ coarse_of (cube_of p) → (h : k * 3 + 2 < length vs) → (s' : List ℕ) → Hung s m k q s'
      → (vs' : List Float) → vs' ≡ put_point vs k p
      → Placed vs is m k i p s' vs' (set is i k) (k + 1)
  unfolding put_point
  new f e d q eq h s' hung vs' ev =
      let o : find vs k p ≡ None = sym d ∙ e in
      let a : q ≡ coarse_at (put vs k p h) k = eq ∙ sym (coarse_at_lem vs k p h) in
      record {
        vertices = rw o ev;
        indices = rw o;
        count = rw o;
        table = rw ev (table_more s (coarse_at vs) (coarse_at (put vs k p h)) m k r.table (coarse_before vs k p h) r.room s' (subst (λ (q : Cube). Hung s m k q s') a hung));
      }
