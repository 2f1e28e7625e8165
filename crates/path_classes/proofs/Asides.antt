-- Lists that are others but for some words, and words that are given one by one.
use Rattle.std.proofs.Common.{◌≡◌, ℕ, ◌+◌, ◌<◌, ◌≤◌, ◌⊎◌, List, length, set, sym, refl, ap, ◌∙◌, inl, inr, ⊎_elim, arith, length-set, get_or-set_other, get_or-set_same, ext_get_or}
use native.Mathlib.Decide.{ℕ_discrete}
use Rattle.order.specs.Regions.{region, put}
use Rattle.order.proofs.Parts.{length-put, get_off, length-region, get_region}
use Rattle.path.specs.Strokes.{gather}
use Rattle.path.proofs.Gathers.{length-gather, gather-at}
use Rattle.path_classes.specs.InnerKeys.{Aside, Stored}

pub aside_none : (s : List ℕ) (a e : ℕ) → Aside s s a e
aside_none s a e = record { size = refl; rest = λ j o. refl }

pub aside_set : {s t : List ℕ} {a e : ℕ} → Aside s t a e → (i x : ℕ) → a ≤ i → i < e → Aside s (set t i x) a e
aside_set {s} {t} {a} {e} A i x h k =
    record { size = rw length-set A.size; rest = λ j o. get_or-set_other t i j x 0 (⊎_elim (λ p. omega arith) (λ p. omega arith) o) ∙ A.rest j o }

pub aside_wide : {s t : List ℕ} {a e : ℕ} → Aside s t a e → (b f : ℕ) → b ≤ a → e ≤ f → Aside s t b f
aside_wide A b f h k = record { size = A.size; rest = λ j o. A.rest j (⊎_elim (λ p. inl (omega arith)) (λ p. inr (omega arith)) o) }

pub aside_then : {s t u : List ℕ} {a e : ℕ} → Aside s t a e → Aside t u a e → Aside s u a e
aside_then A B = record { size = B.size ∙ A.size; rest = λ j o. B.rest j o ∙ A.rest j o }

pub aside_put : {s t : List ℕ} {a e : ℕ} → Aside s t a e → (b : ℕ) (l : List ℕ) → a ≤ b → b + length l ≤ e → Aside s (put t b l) a e
aside_put {s} {t} A b l h k =
    record { size = length-put t b l ∙ A.size; rest = λ j o. get_off t b l j (⊎_elim (λ p. inl (omega arith)) (λ p. inr (omega arith)) o) ∙ A.rest j o }

-- a region that is not touched
pub aside_region : {s t : List ℕ} {a e : ℕ} → Aside s t a e → (b n : ℕ) → (b + n ≤ a) ⊎ (e ≤ b) → b + n ≤ length s → region t b n ≡ region s b n
aside_region {s} {t} A b n o h =
    let p = length-region t b n (omega (arith, A.size)) in
    let q = length-region s b n h in
    ext_get_or 0 (region t b n) (region s b n) (p ∙ sym q) (λ j k.
    get_region t b n j (omega arith) ∙ A.rest (b + j) (⊎_elim (λ u. inl (omega arith)) (λ u. inr (omega arith)) o) ∙ sym (get_region s b n j (omega arith)))

module _ (f : ℕ → ℕ) (t : List ℕ) (a n : ℕ) (E : Stored f t a n) where
  -- one word more
  pub stored_more : (x : ℕ) → x ≡ f n → a + n < length t → Stored f (set t (a + n) x) a (n + 1)
  stored_more x q h e k =
      elim (ℕ_discrete e n) [ yes i ↦ rw i (get_or-set_same t (a + n) x 0 h ∙ q) | no i ↦ get_or-set_other t (a + n) (a + e) x 0 (omega arith) ∙ E e (omega arith) ]

  -- a word elsewhere
  pub stored_off : (i x : ℕ) → (i < a) ⊎ (a + n ≤ i) → Stored f (set t i x) a n
  stored_off i x o e k = get_or-set_other t i (a + e) x 0 (⊎_elim (λ p. omega arith) (λ p. omega arith) o) ∙ E e k

  pub stored_aside : (u : List ℕ) (b c : ℕ) → Aside t u b c → (a + n ≤ b) ⊎ (c ≤ a) → Stored f u a n
  stored_aside u b c A o e k = A.rest (a + e) (⊎_elim (λ p. inl (omega arith)) (λ p. inr (omega arith)) o) ∙ E e k

  pub region-is : a + n ≤ length t → region t a n ≡ gather f 0 n
  region-is h =
      let p = length-region t a n h in
      ext_get_or 0 (region t a n) (gather f 0 n) (p ∙ sym (length-gather f 0 n)) (λ j k.
      get_region t a n j (omega arith) ∙ E j (omega arith) ∙ sym (at j) ∙ gather-at f 0 n j 0 (omega arith))
    where
      at : (j : ℕ) → f (0 + j) ≡ f j
      at j = let z : 0 + j ≡ j = omega arith in ap f z
