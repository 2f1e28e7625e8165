-- What is stored piece by piece is what a face and the head are.
use mathlib.Core.Path.{◌≡◌, refl, sym, ap, ◌∙◌}
use mathlib.Core.List.{List, [], ◌∷◌, ◌++◌, map}
use Prim.Native.Nat.{ℕ, suc, ◌+◌, ◌-◌, ◌≤◌, ◌<◌}
use native.Mathlib.Omega.{arith}
use lib.ListN.{length, set, length-replicate}
use lib.Seq.{sets}
use Rattle.byte_words.specs.Bytes.{bytes_of, bytes_all}
use Rattle.vector.specs.declared.Vector.{Vector}
use Rattle.single.specs.Singles.{pattern_of}
use Rattle.path.specs.Laid.{flat}
use Rattle.path.proofs.Points.{numbers-lie}
use Rattle.stl.specs.Files.{header_bytes, zeros, face_of, head_of}

-- a piece stored after what was stored before it
pub next : (l : List ℕ) (i : ℕ) (a b : List ℕ) {m k : List ℕ} {j : ℕ} → m ≡ sets l i a → k ≡ sets m j b → j ≡ i + length a → k ≡ sets l i (a ++ b)
next l i a b {m} {k} {j} e f h = f ∙ ap (λ (x : List ℕ). sets x j b) e ∙ ap (λ (x : ℕ). sets (sets l i a) x b) h ∙ numbers-lie.more l i a b

-- ---- zeros, one after the other
pub zeros-turn : (n i : ℕ) → i < n → (l m : List ℕ) → m ≡ set l i 0 → sets m (i + 1) (zeros (n - (i + 1))) ≡ sets l i (zeros (n - i))
unfolding zeros
zeros-turn n i h l m e =
    let a : n - i ≡ suc (n - (i + 1)) = omega arith in
    let b : i + 1 ≡ suc i = omega arith in
    ap (λ (x : List ℕ). sets x (i + 1) (zeros (n - (i + 1)))) e ∙ ap (λ (x : ℕ). sets (set l i 0) x (zeros (n - (i + 1)))) b ∙ ap (λ (x : ℕ). sets l i (zeros x)) (sym a)

pub zeros-end : (n i : ℕ) → n ≤ i → (l : List ℕ) → sets l i (zeros (n - i)) ≡ l
unfolding zeros
zeros-end n i h l = let a : n - i ≡ 0 = omega arith in ap (λ (x : ℕ). sets l i (zeros x)) a

-- ---- the head
pub head_put : (l l₁ l₂ : List ℕ) (n : ℕ) → l₁ ≡ sets l 0 (zeros header_bytes) → l₂ ≡ sets l₁ header_bytes (bytes_of n) → l₂ ≡ sets l 0 (head_of n)
unfolding head_of zeros
head_put l l₁ l₂ n e f = next l 0 (zeros 80) (bytes_of n) e f (sym (length-replicate {A = ℕ} 80 0))

-- ---- a face
pub three-put : (l : List ℕ) (i x y z : ℕ) (l₁ l₂ l₃ : List ℕ) → l₁ ≡ sets l i (bytes_of x) → l₂ ≡ sets l₁ (i + 4) (bytes_of y) → l₃ ≡ sets l₂ (i + 8) (bytes_of z) → l₃ ≡ sets l i (bytes_all (x ∷ y ∷ z ∷ []))
unfolding bytes_all bytes_of
three-put l i x y z l₁ l₂ l₃ e₁ e₂ e₃ = next l i (bytes_of x ++ bytes_of y) (bytes_of z) (next l i (bytes_of x) (bytes_of y) e₁ e₂ refl) e₃ refl

pub corner_put : (l m : List ℕ) (i : ℕ) (v : Vector) (x y z : ℕ) → x ≡ pattern_of v.x → y ≡ pattern_of v.y → z ≡ pattern_of v.z → m ≡ sets l i (bytes_all (x ∷ y ∷ z ∷ [])) → m ≡ sets l i (bytes_all (map pattern_of (flat (v ∷ []))))
unfolding flat
corner_put l m i v x y z ex ey ez e = rw (ex, ey, ez) at e

pub face-put : (l : List ℕ) (i : ℕ) (a b c : Vector) (l₁ l₂ l₃ l₄ l₅ l₆ : List ℕ) → l₁ ≡ sets l i (bytes_all (0 ∷ 0 ∷ 0 ∷ []))
    → l₂ ≡ sets l₁ (i + 12) (bytes_all (map pattern_of (flat (a ∷ [])))) → l₃ ≡ sets l₂ (i + 24) (bytes_all (map pattern_of (flat (b ∷ [])))) → l₄ ≡ sets l₃ (i + 36) (bytes_all (map pattern_of (flat (c ∷ []))))
    → l₅ ≡ set l₄ (i + 48) 0 → l₆ ≡ set l₅ (i + 48 + 1) 0 → l₆ ≡ sets l i (face_of (flat (a ∷ b ∷ c ∷ [])))
unfolding flat bytes_all bytes_of face_of zeros
face-put l i a b c l₁ l₂ l₃ l₄ l₅ l₆ e₁ e₂ e₃ e₄ e₅ e₆ =
    let p = bytes_all (map pattern_of (flat (a ∷ []))) in
    let q = bytes_all (map pattern_of (flat (b ∷ []))) in
    let r = bytes_all (map pattern_of (flat (c ∷ []))) in
    let o = bytes_all (0 ∷ 0 ∷ 0 ∷ []) in
    let z : List ℕ = 0 ∷ [] in
    let f₂ = next l i o p e₁ e₂ refl in
    let f₃ = next l i (o ++ p) q f₂ e₃ refl in
    let f₄ = next l i ((o ++ p) ++ q) r f₃ e₄ refl in
    let f₅ = next l i (((o ++ p) ++ q) ++ r) z f₄ e₅ refl in
    next l i ((((o ++ p) ++ q) ++ r) ++ z) z f₅ e₆ (omega arith)
