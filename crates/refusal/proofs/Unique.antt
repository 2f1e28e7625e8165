-- Each refusal has a number of its own, and what is said of an answer tells it; the two ways in which a contract permits one outcome.
use mathlib.Core.Path.{◌≡◌, refl, sym, ap, ◌∙◌}
use mathlib.Core.Bool.{false, true≢false}
use mathlib.Core.List.{List, [], ◌∷◌}
use Prim.Native.Nat.{ℕ}
use native.Mathlib.Omega.{arith}
use lib.ListN.{get_or}
use lib.Dec.{eqb}
use Rattle.refusal.specs.declared.Refusal.{Refusal}
use Rattle.refusal.specs.declared.Refusal.TheVariants.{Shape, Count, Vertex, Number, Scratch, Room, Alike, Deep, Sheet, NoLength, Stl}
use Rattle.std.specs.Prelude.{Option, Some, None, Result, Ok, Err}
use Rattle.refusal.specs.Refusals.{number_of, carried_by, Verdict}
use Rattle.refusal.specs.Said.{accepted, refused, said_by, value_said, option_said, verdict_said}
use Rattle.refusal.specs.One.{One}

-- a contract of the form `r ≡ d`
pub one_answer : {A : Type 0} (d : A) → One A (λ r. r ≡ d)
one_answer d r t p q = p ∙ sym q

-- a contract that fixes what is read of an outcome, where the reading tells outcomes apart
pub one-read : {A X : Type 0} (read : A → X) → ((r t : A) → read r ≡ read t → r ≡ t) → (x : X) → One A (λ r. read r ≡ x)
one-read read told x r t p q = told r t (p ∙ sym q)

-- the refusal of a number, with what it carries
abbrev named : ℕ → List ℕ → Refusal
named n c = let face = get_or c 0 0 in get_or (Shape ∷ Shape ∷ Count ∷ Vertex ∷ Number ∷ Scratch ∷ Room ∷ Alike face ∷ Deep ∷ Sheet ∷ NoLength face ∷ []) n Stl

back : (r : Refusal) → named (number_of r) (carried_by r) ≡ r
back Shape = refl
back Count = refl
back Vertex = refl
back Number = refl
back Scratch = refl
back Room = refl
back (Alike face) = refl
back Deep = refl
back Sheet = refl
back (NoLength face) = refl
back Stl = refl

pub one-refusal : {A : Type 0} (r t : Refusal) → refused {A = A} r ≡ refused {A = A} t → r ≡ t
one-refusal r t e = sym (back r) ∙ ap (λ s. named s.number s.carried) e ∙ back t

-- no refusal has the number of an accepted call
pub not_zero : (r : Refusal) → eqb (number_of r) 0 ≡ false
not_zero Shape = refl
not_zero Count = refl
not_zero Vertex = refl
not_zero Number = refl
not_zero Scratch = refl
not_zero Room = refl
not_zero (Alike face) = refl
not_zero Deep = refl
not_zero Sheet = refl
not_zero (NoLength face) = refl
not_zero Stl = refl

pub never_both : {A : Type 0} (vs : List A) (r : Refusal) → accepted vs ≡ refused r → ⊥
never_both vs r e = true≢false (ap (λ s. eqb s.number 0) e ∙ not_zero r)

pub same-values : {A : Type 0} {vs ws : List A} → accepted vs ≡ accepted ws → vs ≡ ws
same-values e = ap (λ s. s.values) e

-- an answer that is read by its values is told by what is said of it, where the values tell it
module _ {A B : Type 0} (values : A → List B) (told : (a b : A) → values a ≡ values b → a ≡ b) where
  pub one-said : (x y : Result A Refusal) → said_by values x ≡ said_by values y → x ≡ y
  one-said (Ok a) (Ok b) e = ap Ok (told a b (same-values e))
  one-said (Ok a) (Err t) e = absurd (never_both _ t e)
  one-said (Err r) (Ok b) e = absurd (never_both _ r (sym e))
  one-said (Err r) (Err t) e = ap Err (one-refusal r t e)

-- so is an answer of one value
pub one-value : {A : Type 0} (x y : Result A Refusal) → value_said x ≡ value_said y → x ≡ y
one-value {A} = one-said (λ v. v ∷ []) (λ a b e. cc)

-- a value that may be none
pub one-option : {A : Type 0} (c d : Option A) → option_said c ≡ option_said d → c ≡ d
one-option (Some f) (Some g) e = let h = same-values e in cc
one-option (Some f) None e = let h = same-values e in let z : ◌≡◌ {A = ℕ} 0 1 = cc in absurd (omega arith)
one-option None (Some g) e = let h = same-values e in let z : ◌≡◌ {A = ℕ} 0 1 = cc in absurd (omega arith)
one-option None None e = refl

pub one-carrying : (r : Refusal) → One (Option ℕ) (λ c. option_said c ≡ accepted (carried_by r))
one-carrying r = one-read option_said one-option (accepted (carried_by r))

-- a verdict
pub one-verdict : (v w : Verdict) → verdict_said v ≡ verdict_said w → v ≡ w
one-verdict v w e = one-said (λ _. []) (λ a b h. refl) v w e
