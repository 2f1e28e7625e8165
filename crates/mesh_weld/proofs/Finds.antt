-- The search by counted cells is the search of the definition.
use Rattle.path.specs.Strokes.{point_at}
use mathlib.Core.Path.{◌≡◌, refl, sym, ◌∙◌}
use mathlib.Core.Bool.{Bool, true, false, cond, ◌&&◌}
use mathlib.Core.List.{List}
use Prim.Native.Nat.{ℕ, zero, suc, ◌+◌, ◌-◌, ◌^◌, ◌≤◌, ◌<◌}
use native.Mathlib.Omega.{arith}
use lib.Dec.{eqb}
use lib.IntN.{ℤ, nat_abs, suc_ℤ, pred_ℤ}
use lib.Ieee.{Float}
use Rattle.vector.specs.declared.Vector.{Vector}
use Rattle.std.specs.Prelude.{Option, Some, None}
use Rattle.mesh_weld.specs.Weld.{cell, same, in_cell, near, or_else, oldest, find_in, three, find}
use Rattle.mesh_weld.specs.InnerTable.{count, key}
use Rattle.mesh_weld.proofs.Cells.{cell-le, count-suc, count-pred, within-pred, within-suc, same_key}

pub oldest-cong : (p q : ℕ → Bool) (k : ℕ) → ((v : ℕ) → v < k → p v ≡ q v) → oldest p k ≡ oldest q k
unfolding oldest
oldest-cong p q zero e = refl
oldest-cong p q (suc k) e = rw (e k (omega arith), oldest-cong p q k (λ v l. e v (omega arith)))

-- a vertex is in the cell that is counted so, and near p
unfoldable pub hits : Vector → ℕ → ℕ → ℕ → Vector → Bool
hits p x y z v = near p v && (eqb (key v.x) x && (eqb (key v.y) y && eqb (key v.z) z))

unfoldable pub look_in : List Float → ℕ → Vector → ℕ → ℕ → ℕ → Option ℕ
look_in vs k p x y z = oldest (λ i. hits p x y z (point_at vs i)) k

unfoldable pub three_of : (ℕ → Option ℕ) → ℕ → Option ℕ
three_of f z = or_else (f (z - 1)) (or_else (f z) (f (z + 1)))

turned : (n x y z : Bool) → (x && y && z) && n ≡ n && (x && (y && z))
turned true true true true = refl
turned true true true false = refl
turned true true false z = refl
turned true false y z = refl
turned false true true true = refl
turned false true true false = refl
turned false true false z = refl
turned false false y z = refl

cell-hits : (p v : Vector) (a b c : ℤ) → nat_abs a ≤ 2 ^ 53 + 1 → nat_abs b ≤ 2 ^ 53 + 1 → nat_abs c ≤ 2 ^ 53 + 1
    → in_cell a b c v && near p v ≡ hits p (count a) (count b) (count c) v
unfolding in_cell hits
cell-hits p v a b c ha hb hc =
    turned (near p v) (same (cell v.x) a) (same (cell v.y) b) (same (cell v.z) c)
    ∙ rw (same_key v.x a ha, same_key v.y b hb, same_key v.z c hc)

in_is : (vs : List Float) (k : ℕ) (p : Vector) (a b c : ℤ) → nat_abs a ≤ 2 ^ 53 + 1 → nat_abs b ≤ 2 ^ 53 + 1 → nat_abs c ≤ 2 ^ 53 + 1
    → find_in vs k p a b c ≡ look_in vs k p (count a) (count b) (count c)
unfolding find_in look_in
in_is vs k p a b c ha hb hc =
    oldest-cong (λ i. in_cell a b c (point_at vs i) && near p (point_at vs i)) (λ i. hits p (count a) (count b) (count c) (point_at vs i)) k
    (λ i l. cell-hits p (point_at vs i) a b c ha hb hc)

three-is : (f : ℤ → Option ℕ) (g : ℕ → Option ℕ) (x : Float) → ((a : ℤ) → nat_abs a ≤ 2 ^ 53 + 1 → f a ≡ g (count a)) → three f (cell x) ≡ three_of g (key x)
unfolding three three_of key
three-is f g x e =
    let l = cell-le x in
    rw (e (pred_ℤ (cell x)) (within-pred x), e (cell x) (omega arith), e (suc_ℤ (cell x)) (within-suc x), count-pred (cell x) l, count-suc (cell x) l)

pub find-by : (vs : List Float) (k : ℕ) (p : Vector) (x y z : ℕ) → x ≡ key p.x → y ≡ key p.y → z ≡ key p.z
    → three_of (λ a. three_of (λ b. three_of (λ c. look_in vs k p a b c) z) y) x ≡ find vs k p
unfolding find
find-by vs k p x y z ex ey ez =
    rw (ex, ey, ez)
    (sym (three-is (λ a. three (λ b. three (λ c. find_in vs k p a b c) (cell p.z)) (cell p.y))
    (λ a. three_of (λ b. three_of (λ c. look_in vs k p a b c) (key p.z)) (key p.y)) p.x
    (λ a ha. three-is (λ b. three (λ c. find_in vs k p a b c) (cell p.z)) (λ b. three_of (λ c. look_in vs k p (count a) b c) (key p.z)) p.y
    (λ b hb. three-is (λ c. find_in vs k p a b c) (λ c. look_in vs k p (count a) (count b) c) p.z
    (λ c hc. in_is vs k p a b c ha hb hc)))))

-- what is found is below the count
abbrev Below : ℕ → Option ℕ → Type 0
Below k f = (i : ℕ) → f ≡ Some i → i < k

or_below : (k : ℕ) (f g : Option ℕ) → Below k f → Below k g → Below k (or_else f g)
unfolding or_else
or_below k (Some j) g a b = a
or_below k None g a b = b

none_below : (k : ℕ) → Below k None
none_below k i e = let o : ◌≡◌ {A = ℕ} 0 1 = cc in absurd (omega arith)

pick-below : (k : ℕ) (t : Bool) → Below (suc k) (cond t (Some k) None)
pick-below k true i e = let o : k ≡ i = cc in omega arith
pick-below k false i e = none_below (suc k) i e

oldest-below : (q : ℕ → Bool) (k : ℕ) → Below k (oldest q k)
unfolding oldest
oldest-below q zero i e = none_below zero i e
oldest-below q (suc k) i e = or_below (suc k) (oldest q k) (cond (q k) (Some k) None) (λ j h. let l = oldest-below q k j h in omega arith) (pick-below k (q k)) i e

three-below : (k : ℕ) (f : ℤ → Option ℕ) (z : ℤ) → ((a : ℤ) → Below k (f a)) → Below k (three f z)
unfolding three
three-below k f z h = or_below k (f (pred_ℤ z)) (or_else (f z) (f (suc_ℤ z))) (h (pred_ℤ z)) (or_below k (f z) (f (suc_ℤ z)) (h z) (h (suc_ℤ z)))

pub find-below : (vs : List Float) (k : ℕ) (p : Vector) (i : ℕ) → find vs k p ≡ Some i → i < k
unfolding find find_in
find-below vs k p i e =
    three-below k _ (cell p.x) (λ a. three-below k _ (cell p.y) (λ b. three-below k _ (cell p.z) (λ c. oldest-below _ k))) i e
