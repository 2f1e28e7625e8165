-- Strokes laid into a sheet, starts and numbers each in a row.
use mathlib.Core.Path.{◌≡◌, refl, sym, ap, ◌∙◌}
use mathlib.Core.List.{List, [], ◌∷◌, ◌++◌, append_assoc}
use Prim.Native.Nat.{ℕ, suc, ◌+◌, ◌≤◌, ◌<◌}
use native.Mathlib.Omega.{arith}
use native.Mathlib.Nat.{add-zero}
use lib.ListN.{length, set, length-append}
use lib.Seq.{sets, set_comm}
use Rattle.byte_words.specs.Bytes.{bytes_all}
use Rattle.path.specs.Laid.{joined, starts_from}
use Rattle.path.specs.declared.Place.{Place}
use Rattle.sheet_salvage.specs.InnerPieces.{after, laid_at}

-- ---- stores at places apart come to the same in either order

pub set-sets : {A : Type 0} (l : List A) (i : ℕ) (a : A) (j : ℕ) (ys : List A) → i < j → sets (set l i a) j ys ≡ set (sets l j ys) i a
set-sets l i a j [] h = refl
set-sets l i a j (y ∷ ys) h =
    ap (λ (x : List _). sets x (suc j) ys) (set_comm l i j a y (λ q. omega arith)) ∙ set-sets (set l j y) i a (suc j) ys (omega arith)

pub sets-swap : {A : Type 0} (l : List A) (i j : ℕ) (xs ys : List A) → i + length xs ≤ j → sets (sets l j ys) i xs ≡ sets (sets l i xs) j ys
sets-swap l i j [] ys h = refl
sets-swap l i j (x ∷ xs) ys h =
    ap (λ (z : List _). sets z (suc i) xs) (sym (set-sets l i x j ys (omega arith))) ∙ sets-swap (set l i x) (suc i) j xs ys (omega arith)

-- ---- strokes behind strokes

pub joined-append : (ss ts : List (List ℕ)) → joined (ss ++ ts) ≡ joined ss ++ joined ts
unfolding joined
joined-append [] ts = refl
joined-append (s ∷ ss) ts = ap (λ (l : List ℕ). s ++ l) (joined-append ss ts) ∙ sym (append_assoc s (joined ss) (joined ts))

pub starts_append : (a : ℕ) (ss ts : List (List ℕ)) → starts_from a (ss ++ ts) ≡ starts_from a ss ++ starts_from (a + length (joined ss)) ts
unfolding starts_from joined
starts_append a [] ts = rw add-zero
starts_append a (s ∷ ss) ts =
    let e : a + length s + length (joined ss) ≡ a + length (s ++ joined ss) = omega (arith, length-append s (joined ss)) in
    ap (λ (l : List ℕ). a ∷ l) (starts_append (a + length s) ss ts ∙ ap (λ (k : ℕ). starts_from (a + length s) ss ++ starts_from k ts) e)

pub after_none : (p : Place) → after p [] ≡ p
unfolding joined
after_none p = simp add-zero

pub after-append : (p : Place) (ss ts : List (List ℕ)) → after (after p ss) ts ≡ after p (ss ++ ts)
after-append p ss ts =
    let a : p.points + length (joined ss) + length (joined ts) ≡ p.points + length (joined (ss ++ ts)) = omega (arith, ap length (joined-append ss ts), length-append (joined ss) (joined ts)) in
    let b : p.starts + length ss + length ts ≡ p.starts + length (ss ++ ts) = omega (arith, length-append ss ts) in
    rw (a, b)

pub laid_none : (out : List ℕ) (base : ℕ) (p : Place) → laid_at out base p [] ≡ out
unfolding laid_at joined starts_from bytes_all
laid_none out base p = refl
