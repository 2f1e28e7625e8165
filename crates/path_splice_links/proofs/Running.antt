-- The loops that find a run's end, link a run, and link all runs.
use mathlib.Core.Path.{◌≡◌, refl, sym, ap, ◌∙◌, subst}
use mathlib.Core.Logic.{◌≢◌, ⊎_elim}
use mathlib.Core.List.{List}
use Prim.Native.Nat.{ℕ, ◌+◌, ◌-◌, ◌<◌, ◌≤◌}
use native.Mathlib.Omega.{arith}
use native.Mathlib.Decide.{ℕ_discrete}
use lib.ListN.{length, get_or, set, length-set}
use lib.Seq.{get_or-set_same, get_or-set_other}
use Rattle.path_splice_links.specs.Runs.{end_value, Run, Pair, Mirror, Ranked, Reach, Mirrored, Linked}
use Rattle.order.proofs.Tests.{le-or}

pub mirrored_none : (s ls : List ℕ) (p q : ℕ) → Mirrored s ls ls p q p
mirrored_none s ls p q = record { size = refl; pairs = λ z a b. absurd (omega arith); rest = λ e h. refl }

module _ (s ls : List ℕ) (p q : ℕ) (apart : (x y : ℕ) → p ≤ x → x < y → y < q → get_or s x 0 ≢ get_or s y 0) where
  pub mirrored_more : (cur : List ℕ) (x l : ℕ) → p ≤ x → x < q → get_or s x 0 < length ls → Pair (get_or s x 0) (get_or s (p + q - 1 - x) 0) l
      → Mirrored s ls cur p q x → Mirrored s ls (set cur (get_or s x 0) l) p q (x + 1)
  mirrored_more cur x l a b h P M =
      record {
        size = rw length-set M.size;
        pairs = λ z c d. elim (ℕ_discrete z x) [ yes o ↦ here z o | no o ↦ there z c (omega arith) ];
        rest = λ e u. get_or-set_other cur (get_or s x 0) e l 0 (λ y. u x a (omega arith) (sym y)) ∙ M.rest e (λ z c d. u z c (omega arith));
      }
    where
      here : (z : ℕ) → z ≡ x → Pair (get_or s z 0) (get_or s (p + q - 1 - z) 0) (get_or (set cur (get_or s x 0) l) (get_or s z 0) 0)
      here z o = rw (o, get_or-set_same cur (get_or s x 0) l 0 (omega (arith, M.size))) P

      there : (z : ℕ) → p ≤ z → z < x → Pair (get_or s z 0) (get_or s (p + q - 1 - z) 0) (get_or (set cur (get_or s x 0) l) (get_or s z 0) 0)
      there z c d = rw (get_or-set_other cur (get_or s x 0) (get_or s z 0) l 0 (apart z x c d b)) (M.pairs z c d)

-- the runs
pub linked_none : (vs s ls : List ℕ) → Linked vs s ls ls 0
linked_none vs s ls = record { size = refl; each = λ x h. absurd (omega arith); rest = λ e h. refl }

-- a run begins at p: no place before it has the value of one after it
abbrev pub Edge : List ℕ → List ℕ → ℕ → Type 0
Edge vs s p = (x y : ℕ) → x < p → p ≤ y → y < length s → end_value vs s x ≢ end_value vs s y

module _ (vs s : List ℕ) (m : ℕ) (R : Ranked vs s m) where
  pub apart : (x y : ℕ) → x < y → y < length s → get_or s x 0 ≢ get_or s y 0
  apart x y l h e = ⊎_elim (λ a. omega (arith, ap (λ (z : ℕ). get_or vs z 0) e)) (λ a. omega (arith, a.1)) (R.rise x y l h)

  under : (x y : ℕ) → x ≤ y → y < length s → end_value vs s x ≤ end_value vs s y
  under x y l h = elim (ℕ_discrete x y) [ yes o ↦ omega (arith, ap (end_value vs s) o) | no o ↦ ⊎_elim (λ a. omega arith) (λ a. omega (arith, a.0)) (R.rise x y (omega arith) h) ]

  module _ (p q : ℕ) (Q : Reach vs s p q) (E : Edge vs s p) where
    later : (y : ℕ) → q ≤ y → y < length s → end_value vs s p < end_value vs s y
    later y a b =
        let u = under p q (omega (arith, Q.some)) (omega arith) in
        let v = under q y a b in
        let n = Q.stop (omega arith) in
        elim (ℕ_discrete (end_value vs s q) (end_value vs s p)) [ yes o ↦ absurd (n o) | no o ↦ omega arith ]

    pub run_is : Run vs s p q
    run_is =
        record {
          some = Q.some;
          inside = Q.inside;
          same = Q.same;
          only = λ z h e. (⊎_elim (λ a. a) (λ a. absurd (E z p a (omega arith) (omega (arith, Q.some, Q.inside)) e)) (le-or p z), ⊎_elim (λ a. absurd (omega (arith, later z a h))) (λ a. a) (le-or q z));
        }

    pub edge_more : Edge vs s q
    edge_more x y a b h e =
        ⊎_elim (λ c. omega (arith, later y b h, Q.same x c a)) (λ c. E x y c (omega (arith, Q.some)) h e) (le-or p x)

    pub linked-more : (ls cur cur' : List ℕ) → Linked vs s ls cur p → Mirrored s cur cur' p q q → Linked vs s ls cur' q
    linked-more ls cur cur' L M =
        record {
          size = M.size ∙ L.size;
          each = λ x h. ⊎_elim (λ c. record { a = p; b = q; low = c; high = h; run = run_is; pair = M.pairs x c h }) (λ c. subst (Mirror vs s x) (sym (M.rest (get_or s x 0) (λ z a b e. apart x z (omega arith) (omega (arith, Q.inside)) (sym e)))) (L.each x c)) (le-or p x);
          rest = λ e u. M.rest e (λ z a b. u z b) ∙ L.rest e (λ x a. u x (omega (arith, Q.some)));
        }
