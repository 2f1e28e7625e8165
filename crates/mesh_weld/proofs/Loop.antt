-- The loop over the corners.
use Rattle.path.specs.Strokes.{point_at}
use Rattle.path.specs.InnerPushes.{put_point}
use mathlib.Core.Path.{◌≡◌, refl, sym, ap, ◌∙◌}
use mathlib.Core.Bool.{◌&&◌}
use mathlib.Core.List.{List, [], ◌∷◌, ◌++◌}
use Prim.Native.Nat.{ℕ, zero, suc, ◌+◌, ◌*◌, ◌/◌, ◌≤◌, ◌<◌}
use native.Mathlib.Omega.{arith}
use native.Mathlib.Numerals.{add-one}
use native.Mathlib.Nat.{add-zero}
use lib.ListN.{length, get_or, set, drop, length-append, replicate, get_or-append}
use lib.Seq.{sets, sets-eq}
use Rattle.mesh_weld.specs.InnerTable.{Laid}
use lib.IntN.{ℤ, suc_ℤ, pred_ℤ}
use lib.Ieee.{Float, nan}
use Rattle.vector.specs.declared.Vector.{Vector}
use Rattle.std.specs.Prelude.{Option, Some, None}
use Rattle.mesh_weld.specs.Weld.{cell, in_cell, near, find_in, three, find, Merged, join_as, join, weld_to, weld_of}
use Rattle.mesh_weld.specs.InnerTable.{coarse_at, Table, grown, corner_number, more_of, Placed}
use Rattle.mesh_weld.proofs.Finds.{oldest-cong}

-- a search reads no more than the k vertices
three-cong : (f g : ℤ → Option ℕ) (z : ℤ) → ((a : ℤ) → f a ≡ g a) → three f z ≡ three g z
unfolding three
three-cong f g z e = rw (e (pred_ℤ z), e z, e (suc_ℤ z))

pub find-cong : (vs us : List Float) (k : ℕ) (p : Vector) → ((v : ℕ) → v < k → point_at vs v ≡ point_at us v) → find vs k p ≡ find us k p
unfolding find find_in
find-cong vs us k p e =
    three-cong _ _ (cell p.x) (λ a. three-cong _ _ (cell p.y) (λ b. three-cong _ _ (cell p.z) (λ c.
    oldest-cong _ _ k (λ v l. ap (λ (q : Vector). in_cell a b c q && near p q) (e v l)))))

-- stores from the front
pub sets-append : {A : Type 0} (l : List A) (i : ℕ) (a b : List A) → sets l i (a ++ b) ≡ sets (sets l i a) (i + length a) b
sets-append l i [] b = rw add-zero
sets-append l i (x ∷ a) b = let e : suc i + length a ≡ i + suc (length a) = omega arith in rw (← e) (sets-append (set l i x) (suc i) a b)

front : {A : Type 0} (l xs : List A) (j : ℕ) (d : A) → length xs ≤ length l → j < length xs → get_or (sets l 0 xs) j d ≡ get_or xs j d
front l xs j d h m = rw (sets-eq xs l 0 (omega arith)) (get_or-append xs (drop (0 + length xs) l) d j m)

pub front_point : (l xs : List Float) (k v : ℕ) → length xs ≤ length l → length xs ≡ k * 3 → v < k → point_at (sets l 0 xs) v ≡ point_at xs v
unfolding point_at
front_point l xs k v h e m =
    rw (front l xs (v * 3) nan h (omega arith), front l xs (v * 3 + 1) nan h (omega arith), front l xs (v * 3 + 2) nan h (omega arith))

-- a number more, a point more
one_more : (l xs : List ℕ) (i n : ℕ) → length xs ≡ i → set (sets l 0 xs) i n ≡ sets l 0 (xs ++ n ∷ [])
one_more l xs i n e = let z : 0 + length xs ≡ i = omega arith in rw (sets-append l 0 xs (n ∷ []), z)

point_more : (l xs : List Float) (k : ℕ) (p : Vector) → length xs ≡ k * 3
    → set (set (set (sets l 0 xs) (k * 3) p.x) (k * 3 + 1) p.y) (k * 3 + 2) p.z ≡ sets l 0 (xs ++ p.x ∷ p.y ∷ p.z ∷ [])
point_more l xs k p e =
    let z : 0 + length xs ≡ k * 3 = omega arith in
    let a : k * 3 + 1 ≡ suc (k * 3) = omega arith in
    let b : k * 3 + 2 ≡ suc (suc (k * 3)) = omega arith in
    rw (sets-append l 0 xs (p.x ∷ p.y ∷ p.z ∷ []), z, a, b)

-- what i corners have left
pub record Built (cs vs₀ : List Float) (is₀ : List ℕ) (m i : ℕ) (s : List ℕ) (vs : List Float) (is : List ℕ) (k : ℕ) : Type 0 where
  pub count : k ≡ (weld_to cs i).count
  pub few : k ≤ i
  pub wide : length (weld_to cs i).vertices ≡ k * 3
  pub long : length (weld_to cs i).indices ≡ i
  pub vertices : vs ≡ sets vs₀ 0 (weld_to cs i).vertices
  pub indices : is ≡ sets is₀ 0 (weld_to cs i).indices
  pub table : Table s (coarse_at vs) m k

zeros : (n i : ℕ) → ◌≡◌ {A = ℕ} (get_or (replicate n 0) i 0) 0
zeros zero i = refl
zeros (suc n) zero = refl
zeros (suc n) (suc i) = zeros n i

pub built_none : (cs vs₀ : List Float) (is₀ : List ℕ) (m : ℕ) (s : List ℕ) → s ≡ replicate (length s) 0 → Built cs vs₀ is₀ m 0 s vs₀ is₀ 0
unfolding weld_to
built_none cs vs₀ is₀ m s e =
    record {
      count = refl;
      few = omega arith;
      wide = refl;
      long = refl;
      vertices = refl;
      indices = refl;
      table = record {
        older = record { below = λ at v h. absurd (none at v h); before = λ at v h. absurd (none at v h) };
        held = λ v h. absurd (omega arith);
      };
    }
  where
    none : (at v : ℕ) → get_or s at 0 ≡ v + 1 → ⊥
    none at v h = let z : get_or s at 0 ≡ 0 = ap (λ (t : List ℕ). get_or t at 0) e ∙ zeros (length s) at in omega arith

module _ (cs vs₀ : List Float) (is₀ : List ℕ) (m i k : ℕ) (s : List ℕ) (vs : List Float) (is : List ℕ) (b : Built cs vs₀ is₀ m i s vs is k)
    (roomy : i * 3 ≤ length vs₀) where
  same-find : find vs k (point_at cs i) ≡ find (weld_to cs i).vertices (weld_to cs i).count (point_at cs i)
  same-find =
      let w = weld_to cs i in
      let h : length w.vertices ≤ length vs₀ = omega (arith, b.wide, b.few) in
      find-cong vs w.vertices k (point_at cs i) (λ v l. rw b.vertices (front_point vs₀ w.vertices k v h b.wide l))
      ∙ ap (λ (n : ℕ). find w.vertices n (point_at cs i)) b.count

  next_is : weld_to cs (i + 1) ≡ join_as (weld_to cs i) (point_at cs i) (find vs k (point_at cs i))
  unfolding weld_to join
  next_is = rw (add-one, same-find)

  module _ (s' : List ℕ) (vs' : List Float) (is' : List ℕ) (r : ℕ) (q : Placed vs is m k i (point_at cs i) s' vs' is' r) where
    abbrev w : Merged
    w = weld_to cs i

    go : (f : Option ℕ) → weld_to cs (i + 1) ≡ join_as w (point_at cs i) f → vs' ≡ grown vs k (point_at cs i) f → is' ≡ set is i (corner_number k f) → r ≡ more_of k f
        → Built cs vs₀ is₀ m (i + 1) s' vs' is' r
    unfolding join_as put_point
    go (Some v) e ev ei er =
        let ec : (weld_to cs (i + 1)).count ≡ w.count = ap (λ (x : Merged). x.count) e in
        let ex : (weld_to cs (i + 1)).vertices ≡ w.vertices = ap (λ (x : Merged). x.vertices) e in
        let en : (weld_to cs (i + 1)).indices ≡ w.indices ++ v ∷ [] = ap (λ (x : Merged). x.indices) e in
        record {
          count = er ∙ b.count ∙ sym ec;
          few = omega (arith, b.few);
          wide = ap length ex ∙ b.wide ∙ ap (λ (n : ℕ). n * 3) (sym er);
          long = ap length en ∙ length-append w.indices (v ∷ []) ∙ ap (λ (n : ℕ). n + 1) b.long;
          vertices = ev ∙ b.vertices ∙ ap (sets vs₀ 0) (sym ex);
          indices = ei ∙ ap (λ (l : List ℕ). set l i v) b.indices ∙ one_more is₀ w.indices i v b.long ∙ ap (sets is₀ 0) (sym en);
          table = q.table;
        }
    go None e ev ei er =
        let p = point_at cs i in
        let ec : (weld_to cs (i + 1)).count ≡ w.count + 1 = ap (λ (x : Merged). x.count) e in
        let ex : (weld_to cs (i + 1)).vertices ≡ w.vertices ++ p.x ∷ p.y ∷ p.z ∷ [] = ap (λ (x : Merged). x.vertices) e in
        let en : (weld_to cs (i + 1)).indices ≡ w.indices ++ w.count ∷ [] = ap (λ (x : Merged). x.indices) e in
        let lx : length (weld_to cs (i + 1)).vertices ≡ length w.vertices + 3 = ap length ex ∙ length-append w.vertices (p.x ∷ p.y ∷ p.z ∷ []) in
        record {
          count = er ∙ ap (λ (n : ℕ). n + 1) b.count ∙ sym ec;
          few = omega (arith, b.few);
          wide = omega (arith, b.wide);
          long = ap length en ∙ length-append w.indices (w.count ∷ []) ∙ ap (λ (n : ℕ). n + 1) b.long;
          vertices = ev ∙ ap (λ (l : List Float). set (set (set l (k * 3) p.x) (k * 3 + 1) p.y) (k * 3 + 2) p.z) b.vertices
              ∙ point_more vs₀ w.vertices k p b.wide ∙ ap (sets vs₀ 0) (sym ex);
          indices = ei ∙ ap (λ (l : List ℕ). set l i k) b.indices ∙ one_more is₀ w.indices i k b.long
              ∙ ap (λ (n : ℕ). sets is₀ 0 (w.indices ++ n ∷ [])) b.count ∙ ap (sets is₀ 0) (sym en);
          table = q.table;
        }

    pub built-more : Built cs vs₀ is₀ m (i + 1) s' vs' is' r
    built-more = go (find vs k (point_at cs i)) next_is q.vertices q.indices q.count

pub built_all : (cs vs₀ : List Float) (is₀ : List ℕ) (m i n : ℕ) (s : List ℕ) (vs : List Float) (is : List ℕ) (k : ℕ) → Built cs vs₀ is₀ m i s vs is k
    → i ≡ n → n ≡ length cs / 3 → n * 3 ≤ length vs₀ → Laid cs vs₀ is₀ vs is k
unfolding weld_of
built_all cs vs₀ is₀ m i n s vs is k b e d h =
    let z : i ≡ length cs / 3 = e ∙ d in
    record {
      vertices = rw z at b.vertices;
      indices = rw z at b.indices;
      count = rw z at b.count;
      length_vertices = rw (← z) (omega (arith, b.wide, b.few));
      length_indices = rw z at b.long;
    }
