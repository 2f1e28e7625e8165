-- Laws of regions of one list.
use mathlib.Core.Path.{◌≡◌, refl, sym, ap, ◌∙◌, subst}
use mathlib.Core.Logic.{◌⊎◌, inl, inr, ◌≢◌, ⊎_elim}
use mathlib.Core.List.{List, [], ◌∷◌, ◌++◌, append_assoc}
use Prim.Native.Nat.{ℕ, zero, suc, ◌+◌, ◌-◌, ◌<◌, ◌≤◌}
use native.Mathlib.Omega.{arith}
use lib.ListN.{length, get_or, set, take, drop, replicate, length-replicate, length-set, length-take, length-drop, get_or-eq_default}
use lib.Seq.{length-sets, sets-eq, get_or-set_same, get_or-set_other, get_or-take, get_or-drop, ext_get_or, length-take-le, drop-drop}
use Rattle.order.specs.Regions.{region, put, Off, Into, Into2}
use Rattle.order.proofs.Tests.{le-or}

pub length-put : (s : List ℕ) (a : ℕ) (l : List ℕ) → length (put s a l) ≡ length s
unfolding put
length-put s a l = length-sets s a l

pub get_off : (s : List ℕ) (a : ℕ) (l : List ℕ) (j : ℕ) → (j < a) ⊎ (a + length l ≤ j) → get_or (put s a l) j 0 ≡ get_or s j 0
unfolding put
get_off s a [] j h = refl
get_off s a (x ∷ l) j h =
    get_off (set s a x) (suc a) l j (⊎_elim (λ p. inl (omega arith)) (λ p. inr (omega arith)) h) ∙ get_or-set_other s a j x 0 (⊎_elim (λ p. omega arith) (λ p. omega arith) h)

pub get_in : (s : List ℕ) (a : ℕ) (l : List ℕ) (i : ℕ) → i < length l → a + i < length s → get_or (put s a l) (a + i) 0 ≡ get_or l i 0
unfolding put
get_in s a [] i h r = absurd (omega arith)
get_in s a (x ∷ l) zero h r =
    let e : a + 0 ≡ a = omega arith in
    rw e (get_off (set s a x) (suc a) l a (inl (omega arith)) ∙ get_or-set_same s a x 0 (omega arith))
get_in s a (x ∷ l) (suc i) h r =
    let e : a + suc i ≡ suc a + i = omega arith in
    rw e (get_in (set s a x) (suc a) l i (omega arith) (rw length-set (omega arith)))

-- where an index lies
data Where (a n j : ℕ) : Type 0 where
  before : j < a → Where a n j
  within : (i : ℕ) → i < n → j ≡ a + i → Where a n j
  after : a + n ≤ j → Where a n j

where_is : (a n j : ℕ) → Where a n j
where_is a n j = ⊎_elim (λ h. ⊎_elim (λ k. after k) (λ k. within (j - a) (omega arith) (omega arith)) (le-or (a + n) j)) (λ h. before h) (le-or a j)

-- two lists are equal where they are so at each index
by_index : (s t : List ℕ) → length s ≡ length t → ((j : ℕ) → j < length s → get_or s j 0 ≡ get_or t j 0) → s ≡ t
by_index s t e h = ext_get_or 0 s t e h

pub length-region : (s : List ℕ) (a n : ℕ) → a + n ≤ length s → length (region s a n) ≡ n
length-region s a n h = length-take-le n (drop a s) (rw length-drop (omega arith))

pub get_region : (s : List ℕ) (a n i : ℕ) → i < n → get_or (region s a n) i 0 ≡ get_or s (a + i) 0
get_region s a n i h = get_or-take n (drop a s) i 0 h ∙ get_or-drop a s i 0

-- a region as it is replaced
pub region-put : (s : List ℕ) (a n : ℕ) (l : List ℕ) → length l ≡ n → a + n ≤ length s → region (put s a l) a n ≡ l
region-put s a n l e h =
    let q = length-region (put s a l) a n (rw length-put h) in
    by_index (region (put s a l) a n) l (q ∙ sym e) (λ j k. get_region (put s a l) a n j (omega arith) ∙ get_in s a l j (omega arith) (omega arith))

-- and another
pub region-off : (s : List ℕ) (a : ℕ) (l : List ℕ) (b n : ℕ) → Off a (length l) b n → b + n ≤ length s → region (put s a l) b n ≡ region s b n
region-off s a l b n o h =
    let q = length-region (put s a l) b n (rw length-put h) in
    let r = length-region s b n h in
    by_index (region (put s a l) b n) (region s b n) (q ∙ sym r) (λ j k.
    get_region (put s a l) b n j (omega arith) ∙ get_off s a l (b + j) (⊎_elim (λ p. inr (omega arith)) (λ p. inl (omega arith)) o) ∙ sym (get_region s b n j (omega arith)))

pub put-region : (s : List ℕ) (a n : ℕ) → a + n ≤ length s → s ≡ put s a (region s a n)
put-region s a n h =
    let r = length-region s a n h in
    by_index s (put s a (region s a n)) (sym (length-put s a (region s a n))) (λ j k. go j k r (where_is a n j))
  where
    go : (j : ℕ) → j < length s → length (region s a n) ≡ n → Where a n j → get_or s j 0 ≡ get_or (put s a (region s a n)) j 0
    go j k r (before p) = sym (get_off s a (region s a n) j (inl p))
    go j k r (after p) = sym (get_off s a (region s a n) j (inr (omega arith)))
    go j k r (within i p q) = rw q (sym (get_in s a (region s a n) i (omega arith) (omega arith) ∙ get_region s a n i p))

pub put-put : (s : List ℕ) (a : ℕ) (l k : List ℕ) → length l ≡ length k → put (put s a l) a k ≡ put s a k
put-put s a l k e =
    by_index (put (put s a l) a k) (put s a k) (simp length-put) (λ j h. go j (rw (length-put, length-put) at h) (where_is a (length k) j))
  where
    go : (j : ℕ) → j < length s → Where a (length k) j → get_or (put (put s a l) a k) j 0 ≡ get_or (put s a k) j 0
    go j h (before p) = get_off (put s a l) a k j (inl p) ∙ get_off s a l j (inl p) ∙ sym (get_off s a k j (inl p))
    go j h (after p) = get_off (put s a l) a k j (inr p) ∙ get_off s a l j (inr (omega arith)) ∙ sym (get_off s a k j (inr p))
    go j h (within i p q) = rw q (get_in (put s a l) a k i p (rw length-put (omega arith)) ∙ sym (get_in s a k i p (omega arith)))

pub put-comm : (s : List ℕ) (a : ℕ) (l : List ℕ) (b : ℕ) (k : List ℕ) → Off a (length l) b (length k) → put (put s a l) b k ≡ put (put s b k) a l
put-comm s a l b k o =
    by_index (put (put s a l) b k) (put (put s b k) a l) (simp length-put) (λ j h. go j (rw (length-put, length-put) at h) (where_is a (length l) j) (where_is b (length k) j))
  where
    out : (j : ℕ) → j < length s → (j < a) ⊎ (a + length l ≤ j) → (j < b) ⊎ (b + length k ≤ j) → get_or (put (put s a l) b k) j 0 ≡ get_or (put (put s b k) a l) j 0
    out j h p q = get_off (put s a l) b k j q ∙ get_off s a l j p ∙ sym (get_off (put s b k) a l j p ∙ get_off s b k j q)

    first : (j i : ℕ) → j < length s → i < length l → j ≡ a + i → (j < b) ⊎ (b + length k ≤ j) → get_or (put (put s a l) b k) j 0 ≡ get_or (put (put s b k) a l) j 0
    first j i h p e q =
        get_off (put s a l) b k j q ∙ ap (λ (z : ℕ). get_or (put s a l) z 0) e ∙ get_in s a l i p (omega arith)
        ∙ sym (ap (λ (z : ℕ). get_or (put (put s b k) a l) z 0) e ∙ get_in (put s b k) a l i p (rw length-put (omega arith)))

    second : (j i : ℕ) → j < length s → i < length k → j ≡ b + i → (j < a) ⊎ (a + length l ≤ j) → get_or (put (put s a l) b k) j 0 ≡ get_or (put (put s b k) a l) j 0
    second j i h p e q =
        ap (λ (z : ℕ). get_or (put (put s a l) b k) z 0) e ∙ get_in (put s a l) b k i p (rw length-put (omega arith))
        ∙ sym (get_off (put s b k) a l j q ∙ ap (λ (z : ℕ). get_or (put s b k) z 0) e ∙ get_in s b k i p (omega arith))

    go : (j : ℕ) → j < length s → Where a (length l) j → Where b (length k) j → get_or (put (put s a l) b k) j 0 ≡ get_or (put (put s b k) a l) j 0
    go j h (before p) (before q) = out j h (inl p) (inl q)
    go j h (before p) (after q) = out j h (inl p) (inr q)
    go j h (after p) (before q) = out j h (inr p) (inl q)
    go j h (after p) (after q) = out j h (inr p) (inr q)
    go j h (within i p e) (before q) = first j i h p e (inl q)
    go j h (within i p e) (after q) = first j i h p e (inr q)
    go j h (before p) (within i q e) = second j i h q e (inl p)
    go j h (after p) (within i q e) = second j i h q e (inr p)
    go j h (within i p e) (within i' q e') = absurd (⊎_elim (λ u. omega arith) (λ u. omega arith) o)

-- two lists that agree outside of the region
pub put_same : (s t : List ℕ) (a : ℕ) (l : List ℕ) → length s ≡ length t → ((j : ℕ) → j < length s → (j < a) ⊎ (a + length l ≤ j) → get_or s j 0 ≡ get_or t j 0) → put s a l ≡ put t a l
put_same s t a l e f =
    by_index (put s a l) (put t a l) (simp length-put e) (λ j h. go j (rw length-put at h) (where_is a (length l) j))
  where
    go : (j : ℕ) → j < length s → Where a (length l) j → get_or (put s a l) j 0 ≡ get_or (put t a l) j 0
    go j h (before p) = get_off s a l j (inl p) ∙ f j h (inl p) ∙ sym (get_off t a l j (inl p))
    go j h (after p) = get_off s a l j (inr p) ∙ f j h (inr p) ∙ sym (get_off t a l j (inr p))
    go j h (within i p q) = rw q (get_in s a l i p (omega arith) ∙ sym (get_in t a l i p (omega arith)))

pub put-append : (s : List ℕ) (a : ℕ) (l k : List ℕ) → put (put s a l) (a + length l) k ≡ put s a (l ++ k)
unfolding put
put-append s a [] k = let e : a + 0 ≡ a = omega arith in rw e
put-append s a (x ∷ l) k = let e : a + suc (length l) ≡ suc a + length l = omega arith in rw e (put-append (set s a x) (suc a) l k)

-- one element
put_one : (s : List ℕ) (j x : ℕ) → set s j x ≡ put s j (x ∷ [])
unfolding put
put_one s j x = refl

-- within the region
pub set-put : (s : List ℕ) (a : ℕ) (l : List ℕ) (i x : ℕ) → i < length l → set (put s a l) (a + i) x ≡ put s a (set l i x)
set-put s a l i x p =
    by_index (set (put s a l) (a + i) x) (put s a (set l i x)) (simp (length-set, length-put)) (λ j h. go j (rw (length-set, length-put) at h) (where_is a (length l) j))
  where
    m : length (set l i x) ≡ length l
    m = length-set l i x

    go : (j : ℕ) → j < length s → Where a (length l) j → get_or (set (put s a l) (a + i) x) j 0 ≡ get_or (put s a (set l i x)) j 0
    go j h (before q) = get_or-set_other (put s a l) (a + i) j x 0 (omega arith) ∙ get_off s a l j (inl q) ∙ sym (get_off s a (set l i x) j (inl q))
    go j h (after q) = get_or-set_other (put s a l) (a + i) j x 0 (omega arith) ∙ get_off s a l j (inr q) ∙ sym (get_off s a (set l i x) j (inr (omega (arith, m))))
    go j h (within k q e) = rw e (⊎_elim (λ u. ⊎_elim (λ v. same (omega arith)) (λ v. other (omega arith)) (le-or i k)) (λ u. other (omega arith)) (le-or k i))
      where
        same : k ≡ i → get_or (set (put s a l) (a + i) x) (a + k) 0 ≡ get_or (put s a (set l i x)) (a + k) 0
        same u = rw u (get_or-set_same (put s a l) (a + i) x 0 (rw length-put (omega arith)) ∙ sym (get_in s a (set l i x) i (omega (arith, m)) (omega arith) ∙ get_or-set_same l i x 0 p))

        other : k ≢ i → get_or (set (put s a l) (a + i) x) (a + k) 0 ≡ get_or (put s a (set l i x)) (a + k) 0
        other u =
            get_or-set_other (put s a l) (a + i) (a + k) x 0 (omega arith) ∙ get_in s a l k q (omega arith)
            ∙ sym (get_in s a (set l i x) k (omega (arith, m)) (omega arith) ∙ get_or-set_other l i k x 0 u)

-- outside of it
pub set-off : (s : List ℕ) (a : ℕ) (l : List ℕ) (j x : ℕ) → (j < a) ⊎ (a + length l ≤ j) → set (put s a l) j x ≡ put (set s j x) a l
set-off s a l j x o =
    put_one (put s a l) j x ∙ put-comm s a l j (x ∷ []) (⊎_elim (λ p. inr (omega arith)) (λ p. inl p) o) ∙ ap (λ (z : List ℕ). put z a l) (sym (put_one s j x))

-- what a part that was lent leaves
pub put-lent : (s : List ℕ) (a k : ℕ) (l : List ℕ) → length l ≡ k → a + k ≤ length s → take a s ++ (l ++ drop k (drop a s)) ≡ put s a l
unfolding put
put-lent s a k l q h =
    let e : a + k ≡ a + length l = omega arith in
    ap (λ (z : List ℕ). take a s ++ (l ++ z)) (drop-drop k a s ∙ ap (λ (z : ℕ). drop z s) e) ∙ sym (append_assoc (take a s) l (drop (a + length l) s)) ∙ sym (sets-eq l s a (omega arith))

-- a part that was lent and cleared
pub cleared : (s : List ℕ) (a n h : ℕ) → h ≡ a + n → a + n ≤ length s → (l : List ℕ) → l ≡ replicate (length (region s a (h - a))) 0
    → take a s ++ (l ++ drop (h - a) (drop a s)) ≡ put s a (replicate n 0)
cleared s a n h q g l e =
    let k : h - a ≡ n = omega arith in
    let f : l ≡ replicate n 0 = e ∙ ap (λ (z : ℕ). replicate z 0) (ap (λ (z : ℕ). length (region s a z)) k ∙ length-region s a n g) in
    put-lent s a (h - a) l (ap length f ∙ length-replicate {A = ℕ} n 0 ∙ sym k) (omega arith) ∙ ap (put s a) f

-- a bound of all holds in a region
pub region-bound : (s : List ℕ) (a n w : ℕ) → 0 < w → ((x : ℕ) → get_or s x 0 < w) → (x : ℕ) → get_or (region s a n) x 0 < w
region-bound s a n w z h x =
    ⊎_elim (λ p. let e : get_or (region s a n) x 0 ≡ 0 = get_or-eq_default (region s a n) 0 (omega (arith, length-take n (drop a s))) in omega arith) (λ p. omega (arith, get_region s a n x p, h (a + x))) (le-or n x)

-- a list that is another but for one region
pub into_none : (s : List ℕ) (a n : ℕ) (P : List ℕ → Type 0) → a + n ≤ length s → P (region s a n) → Into s s a n P
into_none s a n P h p = record { l = region s a n; size = length-region s a n h; is = put-region s a n h; ok = p }

module _ (s₀ s : List ℕ) (a n : ℕ) (P : List ℕ → Type 0) (I : Into s₀ s a n P) where
  pub into_size : length s ≡ length s₀
  into_size = ap length I.is ∙ length-put s₀ a I.l

  pub into_get : (j : ℕ) → (j < a) ⊎ (a + n ≤ j) → get_or s j 0 ≡ get_or s₀ j 0
  into_get j o = ap (λ (z : List ℕ). get_or z j 0) I.is ∙ get_off s₀ a I.l j (subst (λ (z : ℕ). (j < a) ⊎ (a + z ≤ j)) (sym I.size) o)

  pub into_region : (b m : ℕ) → Off a n b m → b + m ≤ length s₀ → region s b m ≡ region s₀ b m
  into_region b m o h = ap (λ (z : List ℕ). region z b m) I.is ∙ region-off s₀ a I.l b m (subst (λ (z : ℕ). Off a z b m) (sym I.size) o) h

  pub into_own : a + n ≤ length s₀ → region s a n ≡ I.l
  into_own h = ap (λ (z : List ℕ). region z a n) I.is ∙ region-put s₀ a n I.l I.size h

  pub into_set : (Q : List ℕ → Type 0) (i x : ℕ) → i < n → Q (set I.l i x) → Into s₀ (set s (a + i) x) a n Q
  into_set Q i x h q =
      record { l = set I.l i x; size = rw length-set I.size; is = ap (λ (z : List ℕ). set z (a + i) x) I.is ∙ set-put s₀ a I.l i x (omega (arith, I.size)); ok = q }

  pub into_then : (s' : List ℕ) (Q : List ℕ → Type 0) → Into s s' a n Q → Into s₀ s' a n Q
  into_then s' Q J =
      record { l = J.l; size = J.size; is = J.is ∙ ap (λ (z : List ℕ). put z a J.l) I.is ∙ put-put s₀ a I.l J.l (I.size ∙ sym J.size); ok = J.ok }

  -- the same words, said otherwise
  pub into_as : (Q : List ℕ → Type 0) → Q I.l → Into s₀ s a n Q
  into_as Q q = record { l = I.l; size = I.size; is = I.is; ok = q }

-- a list that is another but for two regions
module _ (a n b m : ℕ) (o : Off a n b m) where
  off_l : (l k : List ℕ) → length l ≡ n → length k ≡ m → Off a (length l) b (length k)
  off_l l k p q = subst (λ (z : ℕ). Off a z b (length k)) (sym p) (subst (λ (z : ℕ). Off a n b z) (sym q) o)

  pub into2_none : (s : List ℕ) (P : List ℕ → List ℕ → Type 0) → a + n ≤ length s → b + m ≤ length s → P (region s a n) (region s b m) → Into2 s s a n b m P
  into2_none s P h g p =
      record {
        l = region s a n;
        k = region s b m;
        size = length-region s a n h;
        size2 = length-region s b m g;
        is = put-region s b m g ∙ ap (λ (z : List ℕ). put z b (region s b m)) (put-region s a n h);
        ok = p;
      }

  module _ (s₀ s : List ℕ) (P : List ℕ → List ℕ → Type 0) (I : Into2 s₀ s a n b m P) where
    pub into2-size : length s ≡ length s₀
    into2-size = ap length I.is ∙ length-put (put s₀ a I.l) b I.k ∙ length-put s₀ a I.l

    pub into2-region : (c q : ℕ) → Off a n c q → Off b m c q → c + q ≤ length s₀ → region s c q ≡ region s₀ c q
    into2-region c q u v h =
        ap (λ (z : List ℕ). region z c q) I.is ∙ region-off (put s₀ a I.l) b I.k c q (subst (λ (z : ℕ). Off b z c q) (sym I.size2) v) (rw length-put h)
        ∙ region-off s₀ a I.l c q (subst (λ (z : ℕ). Off a z c q) (sym I.size) u) h

    pub into2-first : a + n ≤ length s₀ → region s a n ≡ I.l
    into2-first h =
        ap (λ (z : List ℕ). region z a n) I.is ∙ region-off (put s₀ a I.l) b I.k a n (⊎_elim (λ p. inr (omega arith)) (λ p. inl (omega (arith, I.size2))) o) (rw length-put h)
        ∙ region-put s₀ a n I.l I.size h

    pub into2-second : b + m ≤ length s₀ → region s b m ≡ I.k
    into2-second h = ap (λ (z : List ℕ). region z b m) I.is ∙ region-put (put s₀ a I.l) b m I.k I.size2 (rw length-put h)

    pub into2-as : (Q : List ℕ → List ℕ → Type 0) → Q I.l I.k → Into2 s₀ s a n b m Q
    into2-as Q q = record { l = I.l; k = I.k; size = I.size; size2 = I.size2; is = I.is; ok = q }

    -- one word in each
    pub into2-set : (i x j y : ℕ) → i < n → j < m → (Q : List ℕ → List ℕ → Type 0) → Q (set I.l i x) (set I.k j y) → Into2 s₀ (set (set s (a + i) x) (b + j) y) a n b m Q
    into2-set i x j y h g Q q =
        let e1 : set s (a + i) x ≡ put (put s₀ a (set I.l i x)) b I.k =
        ap (λ (z : List ℕ). set z (a + i) x) I.is ∙ set-off (put s₀ a I.l) b I.k (a + i) x (⊎_elim (λ p. inl (omega arith)) (λ p. inr (omega (arith, I.size2))) o)
        ∙ ap (λ (z : List ℕ). put z b I.k) (set-put s₀ a I.l i x (omega (arith, I.size))) in
        record {
          l = set I.l i x;
          k = set I.k j y;
          size = rw length-set I.size;
          size2 = rw length-set I.size2;
          is = ap (λ (z : List ℕ). set z (b + j) y) e1 ∙ set-put (put s₀ a (set I.l i x)) b I.k j y (omega (arith, I.size2));
          ok = q;
        }

    pub into2-then : (s' : List ℕ) (Q : List ℕ → List ℕ → Type 0) → Into2 s s' a n b m Q → Into2 s₀ s' a n b m Q
    into2-then s' Q J =
        record {
          l = J.l;
          k = J.k;
          size = J.size;
          size2 = J.size2;
          is =
              J.is ∙ ap (λ (z : List ℕ). put (put z a J.l) b J.k) I.is ∙ ap (λ (z : List ℕ). put z b J.k) (sym (put-comm (put s₀ a I.l) a J.l b I.k (off_l J.l I.k J.size I.size2)))
              ∙ put-put (put (put s₀ a I.l) a J.l) b I.k J.k (I.size2 ∙ sym J.size2) ∙ ap (λ (z : List ℕ). put z b J.k) (put-put s₀ a I.l J.l (I.size ∙ sym J.size));
          ok = J.ok;
        }
