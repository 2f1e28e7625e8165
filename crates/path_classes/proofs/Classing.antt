-- The class of an element: the first that is the same. Elements have one class exactly where they are the same.
use Rattle.std.proofs.Common.{◌≡◌, ℕ, zero, suc, ◌+◌, ◌<◌, ◌≤◌, Bool, true, false, cond, eqb, sym, refl, ap, ◌∙◌, subst, ⊎_elim, arith}
use native.Mathlib.Decide.{ℕ_discrete}
use Rattle.order.proofs.Tests.{truth, clash, eqb-false, eqb-self, le-or}
use Rattle.path_classes.specs.Classes.{first_from, class_of}

module _ {A : Type 0} (same : A → A → Bool) (at : ℕ → A) where
  -- r is the first of the n elements from k on that is the same as x, or k + n
  record First (x : A) (k n r : ℕ) : Type 0 where
    low : k ≤ r
    high : r ≤ k + n
    yes : r < k + n → same x (at r) ≡ true
    no : (j : ℕ) → k ≤ j → j < r → same x (at j) ≡ false

  is_first : (x : A) (k n : ℕ) → First x k n (first_from same at x k n)
  unfolding first_from
  is_first x k zero = record { low = omega arith; high = omega arith; yes = λ h. absurd (omega arith); no = λ j p q. absurd (omega arith) }
  is_first x k (suc n) = go (same x (at k)) refl (is_first x (k + 1) n)
    where
      go : (b : Bool) → same x (at k) ≡ b → First x (k + 1) n (first_from same at x (k + 1) n) → First x k (suc n) (cond b k (first_from same at x (k + 1) n))
      go true e F = record { low = omega arith; high = omega arith; yes = λ h. e; no = λ j p q. absurd (omega arith) }
      go false e F =
          record {
            low = omega (arith, F.low);
            high = omega (arith, F.high);
            yes = λ h. F.yes (omega arith);
            no = λ j p q. elim (ℕ_discrete k j) [ yes i ↦ subst (λ (z : ℕ). same x (at z) ≡ false) i e | no i ↦ F.no j (omega arith) q ];
          }

  pub class_le : (e : ℕ) → class_of same at e ≤ e
  unfolding class_of
  class_le e = omega (arith, (is_first (at e) 0 e).high)

  -- none before the class is the same
  pub class_least : (e j : ℕ) → j < class_of same at e → same (at e) (at j) ≡ false
  unfolding class_of
  class_least e j h = (is_first (at e) 0 e).no j (omega arith) h

  -- for a test that is true exactly of equal elements
  module _ (same-eq : (x y : A) → same x y ≡ true → x ≡ y) (same_self : (x : A) → same x x ≡ true) where
    pub class-at : (e : ℕ) → at (class_of same at e) ≡ at e
    unfolding class_of
    class-at e =
        let F = is_first (at e) 0 e in
        ⊎_elim (λ h. let q : first_from same at (at e) 0 e ≡ e = omega (arith, F.high) in ap at q) (λ h. sym (same-eq _ _ (F.yes (omega arith)))) (le-or e (first_from same at (at e) 0 e))

    class-under : (e f : ℕ) → at e ≡ at f → class_of same at f ≤ class_of same at e
    class-under e f q =
        ⊎_elim (λ h. h) (λ h. absurd (clash (subst (λ (z : A). same (at f) z ≡ true) (sym (class-at e ∙ q)) (same_self (at f))) (class_least f (class_of same at e) h))) (le-or (class_of same at f) (class_of same at e))

    pub class-one : (e f : ℕ) → at e ≡ at f → class_of same at e ≡ class_of same at f
    class-one e f q = omega (arith, class-under e f q, class-under f e (sym q))

    -- one that none before it equals is its own class
    pub class-own : (e : ℕ) → ((j : ℕ) → j < e → at j ≡ at e → ⊥) → class_of same at e ≡ e
    class-own e h = ⊎_elim (λ k. omega (arith, class_le e)) (λ k. absurd (h (class_of same at e) k (class-at e))) (le-or e (class_of same at e))

    pub class-agree : (e f : ℕ) → eqb (class_of same at e) (class_of same at f) ≡ same (at e) (at f)
    class-agree e f = ⊎_elim
        (λ t. rw (class-one e f (same-eq _ _ t)) (eqb-self (class_of same at f) ∙ sym t))
        (λ t. eqb-false _ _ (λ q. clash (subst (λ (z : A). same (at e) z ≡ true) (sym (class-at e) ∙ ap at q ∙ class-at f) (same_self (at e))) t) ∙ sym t)
        (truth (same (at e) (at f)))
