-- The mode numbers of a sheet, and those of a drawing.
use mathlib.Core.Path.{◌≡◌, refl, ap}
use mathlib.Core.Bool.{true}
use Prim.Native.Nat.{ℕ, zero, suc, ◌≤◌, ◌<◌}
use native.Mathlib.Omega.{arith}
use lib.Dec.{leb, ltb, eqb}
use borrow.Author.Tests.{lt-leb, lt-ltb, ltb-true, leb-true}
use lib.Ieee.{Float, eq}
use Rattle.path.proofs.Tests.{both}
use Rattle.mesh_mode.specs.Modes.{mode_of}
use Rattle.sheet.specs.Sheets.{mode_word, mode_good}

-- above 3 nothing is stored
no_word : (n : ℕ) → mode_word (suc (suc (suc (suc n)))) ≡ 0
unfolding mode_word mode_good
no_word n = rw (lt-leb (suc (suc (suc (suc n)))) 3 (omega arith))

-- ---- what is stored stands for the mode that a drawing has for the number; with a cosine that is one, nothing is stored where that has none

pub same-mode : (n : ℕ) (c : Float) → 0 < mode_word n → mode_of (mode_word n) c ≡ mode_of n c
unfolding mode_word mode_good mode_of
same-mode zero c h = refl
same-mode (suc zero) c h = refl
same-mode (suc (suc zero)) c h = refl
same-mode (suc (suc (suc zero))) c h = refl
same-mode (suc (suc (suc (suc n)))) c h = absurd (omega (arith, no_word n))

pub some_mode : (n : ℕ) (c : Float) → eq c c ≡ true → ltb 0 (mode_word n) ≡ eqb (mode_of n c).number 0
unfolding mode_word mode_good mode_of
some_mode zero c h = rw h
some_mode (suc zero) c h = rw h
some_mode (suc (suc zero)) c h = rw h
some_mode (suc (suc (suc zero))) c h = rw h
some_mode (suc (suc (suc (suc n)))) c h = rw h (ap (ltb 0) (no_word n))

-- ---- the tests

-- a word that is there
pub word_some : (r w : ℕ) → r ≡ w → (r ≡ 0 → ⊥) → ltb 0 w ≡ true
word_some r w e h = lt-ltb 0 w (omega arith)

-- what is stored is a sheet's
pub word_good : (n : ℕ) → ltb 0 (mode_word n) ≡ true → mode_good (mode_word n) ≡ true
unfolding mode_word mode_good
word_good zero h = refl
word_good (suc zero) h = refl
word_good (suc (suc zero)) h = refl
word_good (suc (suc (suc zero))) h = refl
word_good (suc (suc (suc (suc n)))) h = absurd (omega (arith, ltb-true 0 (mode_word (suc (suc (suc (suc n))))) h, no_word n))

pub good-most : (m : ℕ) → mode_good m ≡ true → m ≤ 3
unfolding mode_good
good-most m h = leb-true m 3 (both (leb m 3) (ltb 0 m) h).0
