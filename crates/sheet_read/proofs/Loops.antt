-- The loops over the words of a sheet.
use mathlib.Core.Path.{◌≡◌, sym, ap, ◌∙◌}
use mathlib.Core.Bool.{true, false}
use mathlib.Core.List.{List}
use Prim.Native.Nat.{ℕ, suc, ◌+◌, ◌-◌, ◌≤◌, ◌<◌}
use native.Mathlib.Omega.{arith}
use native.Mathlib.Numerals.{add-one}
use lib.ListN.{set}
use lib.Seq.{sets}
use lib.Dec.{eqb}
use borrow.Author.Tests.{le-ltb, lt-ltb, eq-eqb, ne_eqb}
use Rattle.path.specs.Strokes.{gather}
use Rattle.path.proofs.Gathers.{gather-more, gather_none}
use Rattle.mesh.specs.Meshes.{all_below}
use Rattle.sheet.specs.Sheets.{header_words, strict_from, table_good}

module _ (at : ℕ → ℕ) (i e : ℕ) where
  -- the starts from word i up to e
  module _ (n prev s : ℕ) where
    pub strict-turn : i < e → s ≡ at i → prev < s → s < n → strict_from n s (gather at (i + 1) (e - (i + 1))) ≡ strict_from n prev (gather at i (e - i))
    unfolding strict_from
    strict-turn h q l m = rw (gather-more at i e h, ← q, lt-ltb prev s l, lt-ltb s n m)

    pub strict-low : i < e → s ≡ at i → s ≤ prev → strict_from n prev (gather at i (e - i)) ≡ false
    unfolding strict_from
    strict-low h q l = rw (gather-more at i e h, ← q, le-ltb prev s l)

    pub strict-high : i < e → s ≡ at i → prev < s → n ≤ s → strict_from n prev (gather at i (e - i)) ≡ false
    unfolding strict_from
    strict-high h q l m = rw (gather-more at i e h, ← q, lt-ltb prev s l, le-ltb s n m)

  pub strict_end : (n prev : ℕ) → e ≤ i → strict_from n prev (gather at i (e - i)) ≡ true
  unfolding strict_from
  strict_end n prev h = rw (gather_none at i e h)

  -- the numbers from word i up to e
  pub below-turn : (n s : ℕ) → i < e → s ≡ at i → s < n → all_below n (gather at (i + 1) (e - (i + 1))) ≡ all_below n (gather at i (e - i))
  unfolding all_below
  below-turn n s h q l = rw (gather-more at i e h, ← q, lt-ltb s n l)

  pub below-not : (n s : ℕ) → i < e → s ≡ at i → n ≤ s → all_below n (gather at i (e - i)) ≡ false
  unfolding all_below
  below-not n s h q l = rw (gather-more at i e h, ← q, le-ltb s n l)

  pub below_end : (n : ℕ) → e ≤ i → all_below n (gather at i (e - i)) ≡ true
  unfolding all_below
  below_end n h = rw (gather_none at i e h)

-- words stored one after the other
module _ (at : ℕ → ℕ) (a i n : ℕ) where
  pub copy_turn : i < n → (out : List ℕ) (x : ℕ) → x ≡ at (a + i) → sets (set out i x) (i + 1) (gather at (a + (i + 1)) (n - (i + 1))) ≡ sets out i (gather at (a + i) (n - i))
  unfolding gather
  copy_turn h out x q =
      let e : n - i ≡ suc (n - (i + 1)) = omega arith in
      let f : a + (i + 1) ≡ a + i + 1 = omega arith in
      rw (e, f, q, add-one i)

  pub copy_end : n ≤ i → (out : List ℕ) (k : ℕ) → sets out k (gather at (a + i) (n - i)) ≡ out
  unfolding gather
  copy_end h out k = let e : n - i ≡ 0 = omega arith in rw e

-- the table of starts, by its first
module _ (at : ℕ → ℕ) (n k s : ℕ) where
  pub table_none : k ≡ 0 → table_good n (gather at header_words k) ≡ eqb n 0
  unfolding table_good gather
  table_none e = rw e

  pub table_first : (k ≡ 0 → ⊥) → s ≡ at header_words → (s ≡ 0 → ⊥) → table_good n (gather at header_words k) ≡ false
  unfolding table_good gather
  table_first h q z = let e : k ≡ suc (k - 1) = omega arith in rw (e, ← q, ne_eqb s 0 z)

  pub table_past : (k ≡ 0 → ⊥) → s ≡ at header_words → s ≡ 0 → n ≤ s → table_good n (gather at header_words k) ≡ false
  unfolding table_good gather
  table_past h q z l = let e : k ≡ suc (k - 1) = omega arith in rw (e, ← q, eq-eqb s 0 z, le-ltb s n l)

  pub table_more : (k ≡ 0 → ⊥) → s ≡ at header_words → s ≡ 0 → s < n → strict_from n s (gather at (header_words + 1) (header_words + k - (header_words + 1))) ≡ table_good n (gather at header_words k)
  unfolding table_good gather
  table_more h q z l =
      let e : k ≡ suc (k - 1) = omega arith in
      let f : header_words + k - (header_words + 1) ≡ k - 1 = omega arith in
      let t : table_good n (gather at header_words (suc (k - 1))) ≡ strict_from n s (gather at (header_words + 1) (k - 1)) = rw (← q, eq-eqb s 0 z, lt-ltb s n l) in
      ap (λ (x : ℕ). strict_from n s (gather at (header_words + 1) x)) f ∙ sym (ap (λ (x : ℕ). table_good n (gather at header_words x)) e ∙ t)

-- a word that is tested
pub is_so : {r w n : ℕ} → r ≡ w → r ≡ n → eqb w n ≡ true
is_so {r} {w} {n} e h = eq-eqb w n (sym e ∙ h)

pub is_not : {r w n : ℕ} → r ≡ w → (r ≡ n → ⊥) → eqb w n ≡ false
is_not {r} {w} {n} e h = ne_eqb w n (λ q. h (e ∙ q))
