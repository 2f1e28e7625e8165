-- The walk over the list of flips that writes the flags.
use mathlib.Core.Path.{◌≡◌, refl, sym, ap, ◌∙◌}
use mathlib.Core.Bool.{true, false}
use mathlib.Core.Logic.{inl, inr}
use mathlib.Core.List.{List, ◌++◌}
use Prim.Native.Nat.{ℕ, ◌+◌, ◌-◌, ◌*◌, ◌/◌, ◌<◌, ◌≤◌}
use native.Mathlib.Omega.{arith}
use lib.Dec.{eqb}
use lib.ListN.{length, get_or, set, replicate, length-replicate, get_or-eq_default}
use Rattle.order.specs.Regions.{region, put, Into}
use Rattle.order.proofs.Parts.{length-region, get_region, region-put, region-off, put-region, put-put, put-comm, set-put, into_none}
use Rattle.mesh_edges.specs.InnerSteps.{mate_on, flag_at, flag_pair, flag_all, marks}
use Rattle.mesh_edges.proofs.Mates.{marks-size}
use Rattle.mesh_edges.proofs.Flags.{mate_off, mate_is, mate_within, flag_yes, flag_no, flag_length, pair_length, all_turn, all_short, all_length}

-- one side
module _ (s : List ℕ) (n : ℕ) (H : 5 * n ≤ length s) (k y : ℕ) where
  abbrev M : List ℕ
  M = region s (3 * n) n

  abbrev F : List ℕ
  F = region s (4 * n) n

  lm : length M ≡ n
  lm = length-region s (3 * n) n (omega arith)

  lf : length F ≡ n
  lf = length-region s (4 * n) n (omega arith)

  pub mate_past : n ≤ k → false ≡ mate_on y (get_or (region s (3 * n) n) k 0)
  mate_past h = let l : length M ≤ k = omega (arith, lm) in sym (mate_off y (get_or M k 0) (get_or-eq_default M 0 l))

  pub mate_zero : k < n → get_or s (3 * n + k) 0 ≡ 0 → false ≡ mate_on y (get_or (region s (3 * n) n) k 0)
  mate_zero h e = sym (mate_off y (get_or M k 0) (get_region s (3 * n) n k h ∙ e))

  pub mate_some : k < n → (m : ℕ) → get_or s (3 * n + k) 0 ≡ m → (m ≡ 0 → ⊥) → eqb y ((m - 1) / 3) ≡ mate_on y (get_or (region s (3 * n) n) k 0)
  mate_some h m e z = sym (mate_is y (get_or M k 0) (m - 1) (get_region s (3 * n) n k h ∙ e ∙ omega arith))

  pub side-no : mate_on y (get_or (region s (3 * n) n) k 0) ≡ false → s ≡ put s (4 * n) (flag_at (region s (3 * n) n) y k (region s (4 * n) n))
  side-no h = put-region s (4 * n) n (omega arith) ∙ ap (put s (4 * n)) (sym (flag_no M y k F h))

  pub side-within : mate_on y (get_or (region s (3 * n) n) k 0) ≡ true → k < n
  side-within h = omega (arith, mate_within M y k h, lm)

  pub side-yes : mate_on y (get_or (region s (3 * n) n) k 0) ≡ true → set s (4 * n + k) 1 ≡ put s (4 * n) (flag_at (region s (3 * n) n) y k (region s (4 * n) n))
  side-yes h =
      ap (λ (z : List ℕ). set z (4 * n + k) 1) (put-region s (4 * n) n (omega arith)) ∙ set-put s (4 * n) F k 1 (omega (arith, lf, side-within h)) ∙ ap (put s (4 * n)) (sym (flag_yes M y k F h))

-- one step after another
step : (s : List ℕ) (n : ℕ) → 5 * n ≤ length s → (t l : List ℕ) → length l ≡ n → t ≡ put s (4 * n) l → (f : List ℕ → List ℕ → List ℕ) → ((m g : List ℕ) → length (f m g) ≡ length g)
    → (u : List ℕ) → u ≡ put t (4 * n) (f (region t (3 * n) n) (region t (4 * n) n)) → u ≡ put s (4 * n) (f (region s (3 * n) n) l)
step s n H t l q e f k u w =
    let r3 : region t (3 * n) n ≡ region s (3 * n) n = ap (λ (z : List ℕ). region z (3 * n) n) e ∙ region-off s (4 * n) l (3 * n) n (inr (omega arith)) (omega arith) in
    let r4 : region t (4 * n) n ≡ l = ap (λ (z : List ℕ). region z (4 * n) n) e ∙ region-put s (4 * n) n l q (omega arith) in
    w ∙ ap (λ (z : List ℕ). put t (4 * n) (f z (region t (4 * n) n))) r3 ∙ ap (λ (z : List ℕ). put t (4 * n) (f (region s (3 * n) n) z)) r4
    ∙ ap (λ (z : List ℕ). put z (4 * n) (f (region s (3 * n) n) l)) e ∙ put-put s (4 * n) l (f (region s (3 * n) n) l) (sym (k (region s (3 * n) n) l))

-- the three sides of a face
pub three-sides : (s : List ℕ) (n : ℕ) → 5 * n ≤ length s → (x y : ℕ) (a b c : List ℕ) → a ≡ put s (4 * n) (flag_at (region s (3 * n) n) y (3 * x) (region s (4 * n) n))
    → b ≡ put a (4 * n) (flag_at (region a (3 * n) n) y (3 * x + 1) (region a (4 * n) n)) → c ≡ put b (4 * n) (flag_at (region b (3 * n) n) y (3 * x + 2) (region b (4 * n) n))
    → c ≡ put s (4 * n) (flag_pair (region s (3 * n) n) x y (region s (4 * n) n))
unfolding flag_pair
three-sides s n H x y a b c p q r =
    let M = region s (3 * n) n in
    let F = region s (4 * n) n in
    let lf : length F ≡ n = length-region s (4 * n) n (omega arith) in
    let F1 = flag_at M y (3 * x) F in
    let l1 : length F1 ≡ n = flag_length M y (3 * x) F ∙ lf in
    let F2 = flag_at M y (3 * x + 1) F1 in
    let l2 : length F2 ≡ n = flag_length M y (3 * x + 1) F1 ∙ l1 in
    let e : b ≡ put s (4 * n) F2 = step s n H a F1 l1 p (λ m g. flag_at m y (3 * x + 1) g) (λ m g. flag_length m y (3 * x + 1) g) b q in
    step s n H b F2 l2 e (λ m g. flag_at m y (3 * x + 2) g) (λ m g. flag_length m y (3 * x + 2) g) c r

-- pair after pair, where `rest` is what is left of the list
module _ (s₀ : List ℕ) (n : ℕ) (H : 5 * n ≤ length s₀) (flips : List ℕ) where
  abbrev pub Flagging : List ℕ → List ℕ → Type 0
  Flagging s rest = Into s₀ s (4 * n) n (λ f. flag_all (region s₀ (3 * n) n) rest f ≡ flag_all (region s₀ (3 * n) n) flips (region s₀ (4 * n) n))

  pub flagging : Flagging s₀ flips
  flagging = into_none s₀ (4 * n) n (λ f. flag_all (region s₀ (3 * n) n) flips f ≡ flag_all (region s₀ (3 * n) n) flips (region s₀ (4 * n) n)) (omega arith) refl

  pub flagging_more : (s rest : List ℕ) → Flagging s rest → (pair rest' : List ℕ) → rest ≡ pair ++ rest' → length pair ≡ 2 → (s' : List ℕ)
      → s' ≡ put s (4 * n) (flag_pair (region s (3 * n) n) (get_or pair 0 0) (get_or pair 1 0) (region s (4 * n) n)) → Flagging s' rest'
  flagging_more s rest I pair rest' q two s' e =
      let x = get_or pair 0 0 in
      let y = get_or pair 1 0 in
      let M = region s₀ (3 * n) n in
      record {
        l = flag_pair M x y I.l;
        size = pair_length M x y I.l ∙ I.size;
        is = step s₀ n H s I.l I.size I.is (λ m g. flag_pair m x y g) (λ m g. pair_length m x y g) s' e;
        ok = sym (all_turn M pair rest' I.l two) ∙ ap (λ (fs : List ℕ). flag_all M fs I.l) (sym q) ∙ I.ok;
      }

  pub flagging_all : (s rest : List ℕ) → Flagging s rest → length rest < 2 → s ≡ put s₀ (4 * n) (flag_all (region s₀ (3 * n) n) flips (region s₀ (4 * n) n))
  flagging_all s rest I h = I.is ∙ ap (put s₀ (4 * n)) (sym (all_short (region s₀ (3 * n) n) rest I.l h) ∙ I.ok)

-- with the mates before and cleared after
module _ (s : List ℕ) (n : ℕ) (H : 5 * n ≤ length s) (flips : List ℕ) where
  pub flags_short : (m : List ℕ) → length flips < 2 → s ≡ put s (4 * n) (flag_all m flips (region s (4 * n) n))
  flags_short m h = put-region s (4 * n) n (omega arith) ∙ ap (put s (4 * n)) (sym (all_short m flips (region s (4 * n) n) h))

  pub flags_between : region s (3 * n) n ≡ replicate n 0 → (gs : List (List ℕ)) (a b c : List ℕ) → a ≡ put s (3 * n) (marks gs (region s (3 * n) n))
      → b ≡ put a (4 * n) (flag_all (region a (3 * n) n) flips (region a (4 * n) n)) → c ≡ put b (3 * n) (replicate n 0) → c ≡ put s (4 * n) (flag_all (marks gs (replicate n 0)) flips (region s (4 * n) n))
  flags_between z gs a b c p q r =
      let Z = replicate {A = ℕ} n 0 in
      let lz : length Z ≡ n = length-replicate {A = ℕ} n 0 in
      let M = marks gs Z in
      let lm : length M ≡ n = marks-size gs Z ∙ lz in
      let F = flag_all M flips (region s (4 * n) n) in
      let lf : length F ≡ n = all_length M flips (region s (4 * n) n) ∙ length-region s (4 * n) n (omega arith) in
      let p1 : a ≡ put s (3 * n) M = p ∙ ap (λ (l : List ℕ). put s (3 * n) (marks gs l)) z in
      let r3 : region a (3 * n) n ≡ M = ap (λ (l : List ℕ). region l (3 * n) n) p1 ∙ region-put s (3 * n) n M lm (omega arith) in
      let r4 : region a (4 * n) n ≡ region s (4 * n) n = ap (λ (l : List ℕ). region l (4 * n) n) p1 ∙ region-off s (3 * n) M (4 * n) n (inl (omega arith)) (omega arith) in
      let q1 : b ≡ put (put s (3 * n) M) (4 * n) F =
      q ∙ ap (λ (l : List ℕ). put a (4 * n) (flag_all l flips (region a (4 * n) n))) r3 ∙ ap (λ (l : List ℕ). put a (4 * n) (flag_all M flips l)) r4 ∙ ap (λ (l : List ℕ). put l (4 * n) F) p1 in
      let back : put s (3 * n) Z ≡ s = sym (put-region s (3 * n) n (omega arith) ∙ ap (put s (3 * n)) z) in
      r ∙ ap (λ (l : List ℕ). put l (3 * n) Z) q1 ∙ put-comm (put s (3 * n) M) (4 * n) F (3 * n) Z (inr (omega arith)) ∙ ap (λ (l : List ℕ). put l (4 * n) F) (put-put s (3 * n) M Z (lm ∙ sym lz) ∙ back)
