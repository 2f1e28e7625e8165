-- Laws of strokes laid into two lent lists, once over the element.
use mathlib.Core.Path.{◌≡◌, refl, sym, ap, ◌∙◌}
use mathlib.Core.List.{List, [], ◌∷◌, ◌++◌}
use Prim.Native.Nat.{ℕ, suc, ◌+◌, ◌*◌, ◌≤◌, ◌<◌}
use native.Mathlib.Omega.{arith}
use native.Mathlib.Numerals.{add-one}
use native.Mathlib.Nat.{add-zero, add_assoc}
use lib.ListN.{length, set, length-append}
use lib.Seq.{sets, sets-eq}
use Rattle.path.specs.declared.Place.{Place}
use Rattle.path.specs.Laid.{over, non_empty, joined, starts_from}
use Rattle.path.specs.InnerPushes.{Out, out, push, push_all}
use Rattle.path.specs.Courses.{Course, course, advanced}

-- the two places where nothing is written yet
abbrev pub front : Place
front = record { points = 0; starts = 0 }

pub over-sets : {A : Type 0} (l new : List A) → length new ≤ length l → sets l 0 new ≡ over l new
unfolding over
over-sets l new h = let e : 0 + length new ≡ length new = omega arith in rw e at (sets-eq new l 0 (omega arith))

pub length-starts : {A : Type 0} (a : ℕ) (ss : List (List A)) → length (starts_from a ss) ≡ length ss
unfolding starts_from
length-starts a [] = refl
length-starts a (s ∷ ss) = ap suc (length-starts (a + length s) ss)

pub some_kept : {A : Type 0} (s : List A) (ss : List (List A)) → 0 < length s → length (non_empty (s ∷ ss)) ≡ 1 + length (non_empty ss)
unfolding non_empty
some_kept [] ss h = absurd (omega arith)
some_kept (x ∷ xs) ss h = omega arith

pub none_kept : {A : Type 0} (s : List A) (ss : List (List A)) → length s ≡ 0 → length (non_empty (s ∷ ss)) ≡ length (non_empty ss)
unfolding non_empty
none_kept [] ss h = refl
none_kept (x ∷ xs) ss h = absurd (omega arith)

pub no_more_kept : {A : Type 0} (ss : List (List A)) → length (non_empty ss) ≤ length ss
unfolding non_empty
no_more_kept [] = omega arith
no_more_kept ([] ∷ ss) = let h = no_more_kept ss in omega arith
no_more_kept ((x ∷ xs) ∷ ss) = let h = no_more_kept ss in omega arith

pub same_out : {B : Type 0} {a b : List B} {d e : List ℕ} {p q : Place} → a ≡ b → d ≡ e → p ≡ q → out a d p ≡ out b e q
same_out x y z = cc

module _ {A B : Type 0} (put : List B → ℕ → List A → List B) where
  pub ink_at : (p q : Course B) (a b : List A) → advanced put p a ≡ advanced put q b → p.at + length a ≡ q.at + length b
  unfolding advanced
  ink_at p q a b e = ap (λ (x : Course B). x.at) e

  pub ink_place : (p : Course B) (s : List A) {q : List B} {o : ℕ} → course q o ≡ advanced put p s → o ≡ p.at + length s
  unfolding advanced
  ink_place p s e = ap (λ (x : Course B). x.at) e

  pub push-none : (o : Out B) (s : List A) → length s ≡ 0 → push put o s ≡ o
  unfolding push
  push-none o [] h = refl
  push-none o (x ∷ xs) h = absurd (omega arith)

  pub push-some : (o : Out B) (s : List A) → 0 < length s
      → push put o s ≡ out (put o.buf o.place.points s) (set o.starts o.place.starts o.place.points) (record { points = o.place.points + length s; starts = o.place.starts + 1 })
  unfolding push
  push-some o [] h = absurd (omega arith)
  push-some o (x ∷ xs) h = refl

  -- elements written one after the other, and the start: one push
  pub push-course : (o : Out B) (s : List A) → 0 < length s → (q : List B) (k : ℕ) → course q k ≡ advanced put (course o.buf o.place.points) s
      → out q (set o.starts o.place.starts o.place.points) (record { points = k; starts = o.place.starts + 1 }) ≡ push put o s
  unfolding advanced
  push-course o s h q k e =
      let a : q ≡ put o.buf o.place.points s = ap (λ (p : Course B). p.buf) e in
      let b : k ≡ o.place.points + length s = ap (λ (p : Course B). p.at) e in
      cc (push-some o s h)

  -- a turn of a loop over strokes, and its end
  pub push-turn : (o q : Out B) {s : List A} {rest all : List (List A)} → all ≡ s ∷ rest → q ≡ push put o s → push_all put q rest ≡ push_all put o all
  unfolding push_all
  push-turn o q e g = rw (e, g)

  pub push-end : (o : Out B) {all : List (List A)} → all ≡ [] → push_all put o all ≡ o
  unfolding push_all
  push-end o e = rw e

  pub push-starts : (o q : Out B) (s : List A) → q ≡ push put o s → q.place.starts ≤ o.place.starts + 1
  unfolding push
  push-starts o q [] e = rw e (omega arith)
  push-starts o q (x ∷ xs) e = rw e (omega arith)

  pub all_starts : (o : Out B) (ss : List (List A)) → (push_all put o ss).starts ≡ sets o.starts o.place.starts (starts_from o.place.points (non_empty ss))
  unfolding push_all push non_empty starts_from
  all_starts o [] = refl
  all_starts o ([] ∷ ss) = all_starts o ss
  all_starts o ((x ∷ xs) ∷ ss) =
      let k = o.place.starts in
      all_starts (push put o (x ∷ xs)) ss ∙ ap (λ (n : ℕ). sets (set o.starts k o.place.points) n (starts_from (o.place.points + length (x ∷ xs)) (non_empty ss))) (add-one k)

  pub all_place : (o : Out B) (ss : List (List A)) → (push_all put o ss).place ≡ record { points = o.place.points + length (joined ss); starts = o.place.starts + length (non_empty ss) }
  unfolding push_all push joined non_empty
  all_place o [] = simp add-zero
  all_place o ([] ∷ ss) = all_place o ss
  all_place o ((x ∷ xs) ∷ ss) =
      let a : o.place.points + suc (length (xs ++ joined ss)) ≡ o.place.points + suc (length xs) + length (joined ss) = omega (arith, length-append xs (joined ss)) in
      let b : o.place.starts + suc (length (non_empty ss)) ≡ o.place.starts + 1 + length (non_empty ss) = omega arith in
      rw (a, b) (all_place (push put o (x ∷ xs)) ss)

  -- the next stroke does not pass what all come to
  pub push-room : (o z : Out B) (s : List A) (rest all : List (List A)) → push_all put o (s ∷ rest) ≡ push_all put z all → z.place ≡ front
      → (o.place.points + length s ≤ length (joined all)) × (0 < length s → o.place.starts < length (non_empty all))
  unfolding joined
  push-room o z s rest all e g =
      let p = sym (all_place o (s ∷ rest)) ∙ ap (λ (x : Out B). x.place) e ∙ all_place z all in
      let a : o.place.points + length (s ++ joined rest) ≡ z.place.points + length (joined all) = ap (λ (x : Place). x.points) p in
      let b : o.place.starts + length (non_empty (s ∷ rest)) ≡ z.place.starts + length (non_empty all) = ap (λ (x : Place). x.starts) p in
      let ga : z.place.points ≡ 0 = ap (λ (x : Place). x.points) g in
      let gb : z.place.starts ≡ 0 = ap (λ (x : Place). x.starts) g in
      (omega (arith, length-append s (joined rest)), λ h. omega (arith, some_kept s rest h))

-- how elements that `put` stores lie in the list: `flat` of them, `width` to an element
pub record Lays {A B : Type 0} (put : List B → ℕ → List A → List B) (flat : List A → List B) (width : ℕ) : Type 0 where
  pub none : (l : List B) (i : ℕ) → put l i [] ≡ l
  pub more : (l : List B) (i : ℕ) (a b : List A) → put (put l i a) (i + length a) b ≡ put l i (a ++ b)
  pub fore : (l : List B) (new : List A) → length new * width ≤ length l → put l 0 new ≡ over l (flat new)

module _ {A B : Type 0} {put : List B → ℕ → List A → List B} {flat : List A → List B} {width : ℕ} (lays : Lays put flat width) where
  pub ink_none : (p : Course B) → advanced put p [] ≡ p
  unfolding advanced
  ink_none p = rw (lays.none p.buf p.at, add-zero)

  pub ink_append : (p : Course B) (a b : List A) → advanced put (advanced put p a) b ≡ advanced put p (a ++ b)
  unfolding advanced
  ink_append p a b = rw (lays.more p.buf p.at a b, length-append a b, add_assoc p.at (length a) (length b))

  pub all_buf : (o : Out B) (ss : List (List A)) → (push_all put o ss).buf ≡ put o.buf o.place.points (joined ss)
  unfolding push_all push joined
  all_buf o [] = sym (lays.none o.buf o.place.points)
  all_buf o ([] ∷ ss) = all_buf o ss
  all_buf o ((x ∷ xs) ∷ ss) = all_buf (push put o (x ∷ xs)) ss ∙ lays.more o.buf o.place.points (x ∷ xs) (joined ss)

  -- all pushes from the front of both lists on, where there is room in both
  pub all_laid : (ob : List B) (os : List ℕ) (ss : List (List A)) (q : Out B) → q ≡ push_all put (out ob os front) ss
      → length (joined ss) * width ≤ length ob → length (non_empty ss) ≤ length os
      → q ≡ out (over ob (flat (joined ss))) (over os (starts_from 0 (non_empty ss))) (record { points = length (joined ss); starts = length (non_empty ss) })
  all_laid ob os ss q e hp hs =
      let o = out ob os front in
      let z : (n : ℕ) → 0 + n ≡ n = λ n. omega arith in
      let p : q.place ≡ record { points = length (joined ss); starts = length (non_empty ss) } = rw e (simp z at (all_place put o ss)) in
      let a : q.buf ≡ over ob (flat (joined ss)) = ap (λ (x : Out B). x.buf) e ∙ all_buf o ss ∙ lays.fore ob (joined ss) hp in
      let b : q.starts ≡ over os (starts_from 0 (non_empty ss)) =
      ap (λ (x : Out B). x.starts) e ∙ all_starts put o ss ∙ over-sets os (starts_from 0 (non_empty ss)) (omega (arith, length-starts 0 (non_empty ss))) in
      same_out a b p
