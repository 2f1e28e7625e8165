-- The definitions over faces, a face at a time, and what is read back of what was stored.
use Rattle.std.specs.Prelude.{Ok}
use mathlib.Core.Path.{◌≡◌, refl, ap, ◌∙◌, subst}
use mathlib.Core.Logic.{◌⊎◌, inl, ⊎_elim}
use mathlib.Core.Bool.{true, false}
use mathlib.Core.List.{List}
use Prim.Native.Nat.{ℕ, zero, suc, ◌+◌, ◌-◌, ◌*◌, ◌/◌, ◌≤◌, ◌<◌}
use native.Mathlib.Omega.{arith}
use lib.ListN.{length, get_or, set, length-set}
use lib.Seq.{get_or-set_same, get_or-set_other}
use lib.Ieee.{Float, nan}
use Rattle.refusal.specs.Refusals.{unless}
use Rattle.vector.specs.declared.Vector.{Vector}
use Rattle.vector.specs.Vectors.{sub_of, dot_of}
use Rattle.mesh.specs.declared.Triangle.{Triangle}
use Rattle.mesh.specs.Meshes.{face_at, reach_of}
use Rattle.mesh_seen.specs.Normals.{flat_of, normal_of, facing_of}
use Rattle.mesh_seen.specs.Seen.{face_verdict, flat_from, flat_verdict, put_seen, seen_from, seen_all, normal_at, facing_at}

-- ---- a face at a time
module _ (at : ℕ → Triangle) where
  pub flat-more : (f n : ℕ) → f < n → flat_of (at f) ≡ false → flat_from at f (n - f) ≡ flat_from at (f + 1) (n - (f + 1))
  unfolding flat_from face_verdict unless
  flat-more f n h e = let k : n - f ≡ suc (n - (f + 1)) = omega arith in rw (k, e)

  pub flat-found : (f n : ℕ) → f < n → flat_of (at f) ≡ true → flat_from at f (n - f) ≡ face_verdict (at f) f (Ok tt)
  unfolding flat_from face_verdict unless
  flat-found f n h e = let k : n - f ≡ suc (n - (f + 1)) = omega arith in rw (k, e)

  pub flat-none : (f n : ℕ) → n ≤ f → flat_from at f (n - f) ≡ (Ok tt)
  unfolding flat_from
  flat-none f n h = let k : n - f ≡ 0 = omega arith in rw k

module _ (eye : Vector) (at : ℕ → Triangle) where
  pub seen_more : (f n : ℕ) (l : List Float) → f < n → seen_from eye at f (n - f) l ≡ seen_from eye at (f + 1) (n - (f + 1)) (put_seen eye (at f) l f)
  unfolding seen_from
  seen_more f n l h = let k : n - f ≡ suc (n - (f + 1)) = omega arith in rw k

  pub seen_none : (f n : ℕ) (l : List Float) → n ≤ f → seen_from eye at f (n - f) l ≡ l
  unfolding seen_from
  seen_none f n l h = let k : n - f ≡ 0 = omega arith in rw k

-- ---- four numbers stored in a row
module _ (l : List Float) (k : ℕ) (a b c d : Float) where
  l1 : List Float
  l1 = set l k a

  l2 : List Float
  l2 = set l1 (k + 1) b

  l3 : List Float
  l3 = set l2 (k + 2) c

  other : (j : ℕ) → (j < k) ⊎ (k + 3 < j) → get_or (set l3 (k + 3) d) j nan ≡ get_or l j nan
  unfolding l1 l2 l3
  other j o =
      get_or-set_other l3 (k + 3) j d nan (λ e. ⊎_elim (λ h. omega arith) (λ h. omega arith) o)
      ∙ get_or-set_other l2 (k + 2) j c nan (λ e. ⊎_elim (λ h. omega arith) (λ h. omega arith) o)
      ∙ get_or-set_other l1 (k + 1) j b nan (λ e. ⊎_elim (λ h. omega arith) (λ h. omega arith) o)
      ∙ get_or-set_other l k j a nan (λ e. ⊎_elim (λ h. omega arith) (λ h. omega arith) o)

  module _ (h : k + 3 < length l) where
    own0 : get_or (set l3 (k + 3) d) k nan ≡ a
    unfolding l1 l2 l3
    own0 =
        get_or-set_other l3 (k + 3) k d nan (λ e. omega arith) ∙ get_or-set_other l2 (k + 2) k c nan (λ e. omega arith)
        ∙ get_or-set_other l1 (k + 1) k b nan (λ e. omega arith) ∙ get_or-set_same l k a nan (omega arith)

    own1 : get_or (set l3 (k + 3) d) (k + 1) nan ≡ b
    unfolding l1 l2 l3
    own1 =
        get_or-set_other l3 (k + 3) (k + 1) d nan (λ e. omega arith) ∙ get_or-set_other l2 (k + 2) (k + 1) c nan (λ e. omega arith)
        ∙ get_or-set_same l1 (k + 1) b nan (simp length-set (omega arith))

    own2 : get_or (set l3 (k + 3) d) (k + 2) nan ≡ c
    unfolding l1 l2 l3
    own2 = get_or-set_other l3 (k + 3) (k + 2) d nan (λ e. omega arith) ∙ get_or-set_same l2 (k + 2) c nan (simp length-set (omega arith))

    own3 : get_or (set l3 (k + 3) d) (k + 3) nan ≡ d
    unfolding l1 l2 l3
    own3 = get_or-set_same l3 (k + 3) d nan (simp length-set (omega arith))

-- the four numbers of a face stored one after the other
pub stored : (eye : Vector) (t : Triangle) (f : ℕ) (l m₁ m₂ m₃ m₄ : List Float) (v w : Vector) (d : Float) → v ≡ normal_of t → w ≡ sub_of eye t.v1 → d ≡ dot_of v w
    → m₁ ≡ set l (f * 4) v.x → m₂ ≡ set m₁ (f * 4 + 1) v.y → m₃ ≡ set m₂ (f * 4 + 2) v.z → m₄ ≡ set m₃ (f * 4 + 3) d → m₄ ≡ put_seen eye t l f
unfolding put_seen facing_of
stored eye t f l m₁ m₂ m₃ m₄ v w d ev ew ed e₁ e₂ e₃ e₄ =
    let facing = ed ∙ ap (dot_of v) ew ∙ ap (λ (x : Vector). dot_of x (sub_of eye t.v1)) ev in
    let all : m₄ ≡ set (set (set (set l (f * 4) v.x) (f * 4 + 1) v.y) (f * 4 + 2) v.z) (f * 4 + 3) (facing_of eye t) = rw (← facing, ← e₁, ← e₂, ← e₃) e₄ in
    all ∙ ap (λ (x : Vector). set (set (set (set l (f * 4) x.x) (f * 4 + 1) x.y) (f * 4 + 2) x.z) (f * 4 + 3) (facing_of eye t)) ev

-- ---- what is read back
module _ (eye : Vector) (at : ℕ → Triangle) where
  put-length : (t : Triangle) (l : List Float) (f : ℕ) → length (put_seen eye t l f) ≡ length l
  unfolding put_seen
  put-length t l f = simp length-set refl

  -- what lies before the faces from f on stays
  before : (f n : ℕ) (l : List Float) (j : ℕ) → j < f * 4 → get_or (seen_from eye at f n l) j nan ≡ get_or l j nan
  unfolding seen_from put_seen l3 l2 l1
  before f zero l j h = refl
  before f (suc n) l j h =
      before (f + 1) n (put_seen eye (at f) l f) j (omega arith)
      ∙ other l (f * 4) (normal_of (at f)).x (normal_of (at f)).y (normal_of (at f)).z (facing_of eye (at f)) j (inl h)

  -- the four numbers of face g lie at its place
  pub record Kept (l : List Float) (g : ℕ) : Type 0 where
    pub normal : normal_at l g ≡ normal_of (at g)
    pub facing : facing_at l g ≡ facing_of eye (at g)

  first : (f n : ℕ) (l : List Float) → f * 4 + 3 < length l → Kept (seen_from eye at f (suc n) l) f
  unfolding seen_from put_seen l3 l2 l1
  first f n l h =
      let t = at f in
      let m = put_seen eye t l f in
      let b = before (f + 1) n m in
      let x = b (f * 4) (omega arith) ∙ own0 l (f * 4) (normal_of t).x (normal_of t).y (normal_of t).z (facing_of eye t) h in
      let y = b (f * 4 + 1) (omega arith) ∙ own1 l (f * 4) (normal_of t).x (normal_of t).y (normal_of t).z (facing_of eye t) h in
      let z = b (f * 4 + 2) (omega arith) ∙ own2 l (f * 4) (normal_of t).x (normal_of t).y (normal_of t).z (facing_of eye t) h in
      record { normal = rw (x, y, z); facing = b (f * 4 + 3) (omega arith) ∙ own3 l (f * 4) (normal_of t).x (normal_of t).y (normal_of t).z (facing_of eye t) h }

  from : (f n : ℕ) (l : List Float) → (f + n) * 4 ≤ length l → (d : ℕ) → d < n → Kept (seen_from eye at f n l) (f + d)
  unfolding seen_from
  from f zero l s d h = absurd (omega arith)
  from f (suc n) l s zero h = let e : f ≡ f + 0 = omega arith in rw (← e) (first f n l (omega arith))
  from f (suc n) l s (suc d) h =
      let e : f + 1 + d ≡ f + suc d = omega arith in
      rw (← e) (from (f + 1) n (put_seen eye (at f) l f) (omega (arith, put-length (at f) l f)) d (omega arith))

  -- of each of n faces, where there is room for all
  pub kept_seen : (n : ℕ) (l : List Float) → n * 4 ≤ length l → (g : ℕ) → g < n → Kept (seen_from eye at 0 n l) g
  kept_seen n l s g h = let e : 0 + g ≡ g = omega arith in subst (Kept (seen_from eye at 0 n l)) e (from 0 n l (omega arith) g h)

  pub seen_length : (f n : ℕ) (l : List Float) → length (seen_from eye at f n l) ≡ length l
  unfolding seen_from
  seen_length f zero l = refl
  seen_length f (suc n) l = seen_length (f + 1) n (put_seen eye (at f) l f) ∙ put-length (at f) l f

-- ---- where all corners are there
module _ (vs : List Float) (is : List ℕ) (n : ℕ) (h : reach_of (length vs / 3) is n ≡ true) where
  pub flat-there : flat_verdict vs is n ≡ flat_from (face_at vs is) 0 n
  unfolding flat_verdict
  flat-there = rw h

  pub seen_there : (eye : Vector) (l : List Float) → seen_all eye vs is n l ≡ seen_from eye (face_at vs is) 0 n l
  unfolding seen_all
  seen_there eye l = rw h
