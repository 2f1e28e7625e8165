-- The trees of the table.
use mathlib.Core.Path.{◌≡◌, refl, sym, ap, ◌∙◌, subst}
use mathlib.Core.Bool.{Bool, true, false}
use mathlib.Core.List.{List}
use Prim.Native.Nat.{ℕ, ◌+◌, ◌*◌, ◌≤◌, ◌<◌}
use native.Mathlib.Omega.{arith}
use native.Mathlib.Numerals.{lt_of_le_of_ne}
use lib.ListN.{length, get_or, set}
use lib.Seq.{get_or-set_same, get_or-set_other}
use lib.Dec.{eqb}
use borrow.Author.Tests.{eqb-true, eqb-false}
use Rattle.mesh_weld.specs.declared.Cube.{Cube}
use Rattle.mesh_weld.specs.InnerTable.{bucket_of, On, Ends, Table, Hung}

pub ends_empty : {s : List ℕ} {m e at : ℕ} {q : Cube} → Ends s m e at q → get_or s e 0 ≡ 0
ends_empty {s} (Ends.stop o z) = ap (λ (a : ℕ). get_or s a 0) o ∙ z
ends_empty (Ends.past u h r) = ends_empty r

-- a store to an empty slot
module _ (s : List ℕ) (m e n : ℕ) (z : get_or s e 0 ≡ 0) where
  full_kept : (at u : ℕ) → get_or s at 0 ≡ u + 1 → get_or (set s e n) at 0 ≡ u + 1
  full_kept at u h = get_or-set_other s e at n 0 (λ o. let w : get_or s at 0 ≡ 0 = ap (λ (a : ℕ). get_or s a 0) o ∙ z in omega arith) ∙ h

  -- hides no vertex
  pub on-kept : {v at : ℕ} {q : Cube} → On s m v at q → On (set s e n) m v at q
  on-kept {v} {at} (On.here h) = On.here (full_kept at v h)
  on-kept {v} {at} (On.past u h r) = On.past u (full_kept at u h) (on-kept r)

  -- and puts the vertex on the way that ended there
  pub on-new : {v at : ℕ} {q : Cube} → n ≡ v + 1 → e < length s → Ends s m e at q → On (set s e n) m v at q
  on-new {v} o l (Ends.stop d h) = On.here (ap (λ (a : ℕ). get_or (set s e n) a 0) (sym d) ∙ get_or-set_same s e n 0 l ∙ o)
  on-new {v} {at} o l (Ends.past u h r) = On.past u (full_kept at u h) (on-new o l r)

-- one vertex more
module _ (s : List ℕ) (h g : ℕ → Cube) (m k : ℕ) (t : Table s h m k) (same : (v : ℕ) → v < k → h v ≡ g v) (room : m + k * 2 ≤ length s)
    (s' : List ℕ) (d : Hung s m k (g k) s') where
  older_more : (at v : ℕ) → get_or (set s d.at (k + 1)) at 0 ≡ v + 1 → (v < k + 1) × (at < m + v * 2)
  older_more at v e = go (eqb at d.at) refl
    where
      go : (u : Bool) → eqb at d.at ≡ u → (v < k + 1) × (at < m + v * 2)
      go true u =
          let o : at ≡ d.at = eqb-true at d.at u in
          let w : get_or (set s d.at (k + 1)) at 0 ≡ k + 1 =
          ap (λ (a : ℕ). get_or (set s d.at (k + 1)) a 0) o ∙ get_or-set_same s d.at (k + 1) 0 (omega (arith, d.inside)) in
          (omega arith, omega (arith, d.inside))
      go false u =
          let w : get_or s at 0 ≡ v + 1 = sym (get_or-set_other s d.at at (k + 1) 0 (eqb-false at d.at u)) ∙ e in
          (omega (arith, t.older.below at v w), t.older.before at v w)

  held_more : (v : ℕ) → v < k + 1 → On (set s d.at (k + 1)) m v (bucket_of (g v) m) (g v)
  held_more v l = go (eqb v k) refl
    where
      go : (u : Bool) → eqb v k ≡ u → On (set s d.at (k + 1)) m v (bucket_of (g v) m) (g v)
      go true u =
          subst (λ (w : ℕ). On (set s d.at (k + 1)) m w (bucket_of (g w) m) (g w)) (sym (eqb-true v k u))
          (on-new s m d.at (k + 1) (ends_empty d.ends) refl (omega (arith, d.inside)) d.ends)
      go false u =
          let vk : v < k = lt_of_le_of_ne (omega arith) (eqb-false v k u) in
          subst (λ (q : Cube). On (set s d.at (k + 1)) m v (bucket_of q m) q) (same v vk)
          (on-kept s m d.at (k + 1) (ends_empty d.ends) (t.held v vk))

  pub table_more : Table s' g m (k + 1)
  table_more =
      rw d.is
      (record { older = record { below = λ at v e. (older_more at v e).0; before = λ at v e. (older_more at v e).1 }; held = held_more })
