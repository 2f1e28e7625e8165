-- The words of points: sorts by one after another order by all of them, and points of equal words are the same.
use Rattle.std.proofs.Common.{◌≡◌, ℕ, zero, suc, ◌+◌, ◌*◌, ◌/◌, ◌%◌, ◌^◌, ◌<◌, ◌≤◌, Bool, true, false, cond, eqb, List, length, sym, refl, ap, ◌∙◌, subst, inl, add-one, arith, pow_pos, pow-add}
use native.Mathlib.Decide.{ℕ_discrete}
use lib.Arith.{digits_lt, digits_div, digits_mod}
use lib.Ieee.{Float, binary64, to_bits}
use Rattle.vector.specs.declared.Vector.{Vector}
use Rattle.refusal.specs.Limits.{most_strokes}
use Rattle.order.specs.Regions.{region}
use Rattle.order.specs.Order.{order}
use Rattle.order.specs.Sort.{sorted}
use Rattle.path.specs.Strokes.{point_at}
use Rattle.path_classes.specs.Classes.{same_point}
use Rattle.path_classes.specs.InnerKeys.{Held, HeldPoint, word_of, word_order, up_to, Aside, Stored, Ordered}
use Rattle.path_classes.proofs.Same.{vector_eq, same_of_lem, pattern_eq}
use Rattle.path_classes.proofs.Asides.{aside_none, aside_wide, aside_then, aside_region}
use Rattle.path_classes.proofs.Orders.{Lex, sort_aside, sort_line, counted}

cond-lt : (b : Bool) (x y w : ℕ) → x < w → y < w → cond b x y < w
cond-lt true x y w h k = h
cond-lt false x y w h k = k

mod-small : (x : ℕ) → x % 2 ^ 32 < 2 ^ 32
mod-small x = omega arith

word_lt : (v : Vector) (j : ℕ) → word_of v j < 2 ^ 32
unfolding word_of
word_lt v j = cond-lt (eqb (j % 2) 0) _ _ _ (mod-small _) (mod-small _)

module _ (ps : List Float) where
  line-lt : (j e : ℕ) → word_order ps j e < 2 ^ (32 * j)
  unfolding word_order
  line-lt zero e = pow_pos (32 * 0)
  line-lt (suc j) e =
      let q : 32 + 32 * j ≡ 32 * suc j = omega arith in
      subst (λ (z : ℕ). word_of (point_at ps e) j * 2 ^ (32 * j) + word_order ps j e < z) (sym (pow-add 2 32 (32 * j)) ∙ ap (λ (z : ℕ). 2 ^ z) q) (digits_lt (word_lt (point_at ps e) j) (line-lt j e))

  lex_word : (j : ℕ) → Lex (λ e. word_of (point_at ps e) j) (word_order ps j) (word_order ps (suc j))
  unfolding word_order
  lex_word j =
      record {
        more = λ x y p. omega (arith, digits_lt {c = 2 ^ (32 * j)} p (line-lt j x));
        then = λ x y p q. omega (arith, ap (λ (z : ℕ). z * 2 ^ (32 * j)) p);
        same = λ x y p q. omega (arith, ap (λ (z : ℕ). z * 2 ^ (32 * j)) p);
      }

  -- equal orders have equal words
  line_eq : (j e f : ℕ) → word_order ps j e ≡ word_order ps j f → (i : ℕ) → i < j → word_of (point_at ps e) i ≡ word_of (point_at ps f) i
  unfolding word_order
  line_eq zero e f q i h = absurd (omega arith)
  line_eq (suc j) e f q i h =
      let P = 2 ^ (32 * j) in
      let a : word_of (point_at ps e) j ≡ word_of (point_at ps f) j = sym (digits_div _ (line-lt j e)) ∙ ap (λ (z : ℕ). z / P) q ∙ digits_div _ (line-lt j f) in
      let b : word_order ps j e ≡ word_order ps j f = sym (digits_mod (word_of (point_at ps e) j) (line-lt j e)) ∙ ap (λ (z : ℕ). z % P) q ∙ digits_mod (word_of (point_at ps f) j) (line-lt j f) in
      elim (ℕ_discrete i j) [ yes k ↦ rw k a | no k ↦ line_eq j e f b i (omega arith) ]

  -- ---- the loop over the words

  pub words_none : (s t : List ℕ) (m : ℕ) → 6 * m ≤ length s → Aside s t m (2 * m) → Stored (λ e. e) t m m → Ordered t t m (word_order ps 0)
  unfolding word_order
  words_none s t m H A E = record { aside = aside_none t m (6 * m); line = counted s t m H A E }

  pub words_more : (s t u v : List ℕ) (m j : ℕ) → 6 * m ≤ length s → m ≤ 2 * most_strokes → Ordered s t m (word_order ps j) → Aside t u (3 * m) (4 * m)
      → Stored (λ e. word_of (point_at ps e) j) u (3 * m) m → v ≡ sorted u (3 * m) (4 * m) m (2 * m) m → Ordered s v m (word_order ps (j + 1))
  words_more s t u v m j H few O A E S =
      let ht : length t ≡ length s = O.aside.size in
      let hu : 6 * m ≤ length u = omega (arith, A.size) in
      let B = sort_aside u v m (3 * m) (4 * m) hu few (omega arith) (omega arith) (omega arith) S in
      let l : region u m m ≡ order (word_order ps j) (up_to m) = aside_region A m m (inl (omega arith)) (omega arith) ∙ O.line in
      record {
        aside = aside_then (aside_then O.aside (aside_wide A m (6 * m) (omega arith) (omega arith))) (aside_wide B m (6 * m) (omega arith) (omega arith));
        line = sort_line u v m (3 * m) (4 * m) hu few (omega arith) (omega arith) (omega arith) S _ _ _ (lex_word j) l E ∙ ap (λ (z : ℕ). order (word_order ps z) (up_to m)) (sym (add-one j));
      }

  pub words_all : (s t u : List ℕ) (m j : ℕ) → Aside s t m (2 * m) → 6 ≤ j → j ≤ 6 → Ordered t u m (word_order ps j) → Ordered s u m (word_order ps 6)
  words_all s t u m j A h k O =
      let e : j ≡ 6 = omega arith in
      record { aside = aside_then (aside_wide A m (6 * m) (omega arith) (omega arith)) O.aside; line = O.line ∙ ap (λ (i : ℕ). order (word_order ps i) (up_to m)) e }

  -- ---- points of equal words

  pub words_agree : (j e f : ℕ) → point_at ps e ≡ point_at ps f → word_order ps j e ≡ word_order ps j f
  unfolding word_order
  words_agree zero e f q = refl
  words_agree (suc j) e f q = let r = words_agree j e f q in rw (q, r)

  pub words_same : (e f : ℕ) → HeldPoint (point_at ps e) → HeldPoint (point_at ps f) → word_order ps 6 e ≡ word_order ps 6 f → same_point (point_at ps e) (point_at ps f) ≡ true
  unfolding word_of
  words_same e f h k q =
      let w = line_eq 6 e f q in
      let r = vector_eq (point_at ps e) (point_at ps f) (number _ _ h.first k.first (w 0 (omega arith)) (w 1 (omega arith))) (number _ _ h.second k.second (w 2 (omega arith)) (w 3 (omega arith))) (number _ _ h.third k.third (w 4 (omega arith)) (w 5 (omega arith))) in
      same_of_lem _ _ r
    where
      whole : (a b : ℕ) → a < 2 ^ 64 → b < 2 ^ 64 → a % 2 ^ 32 ≡ b % 2 ^ 32 → a / 2 ^ 32 % 2 ^ 32 ≡ b / 2 ^ 32 % 2 ^ 32 → a ≡ b
      whole a b p q r t = omega arith

      number : (x y : Float) → Held x → Held y → to_bits binary64 x % 2 ^ 32 ≡ to_bits binary64 y % 2 ^ 32 → to_bits binary64 x / 2 ^ 32 % 2 ^ 32 ≡ to_bits binary64 y / 2 ^ 32 % 2 ^ 32 → x ≡ y
      number x y h k p q = pattern_eq x y h k (whole _ _ h.small k.small p q)
