-- `corner_in` meets its contract.
use mathlib.Core.Path.{◌≡◌, sym, ap, ◌∙◌}
use Prim.Native.Nat.{ℕ, ◌+◌, ◌*◌, ◌/◌, ◌%◌}
use native.Mathlib.Omega.{arith}
use Rattle.byte_words.specs.Bytes.{word_from}
use Rattle.single.specs.Singles.{value_of}
use Rattle.stl.specs.Files.{place_of}
use Rattle.stl.proofs.Ends.{corner_past}
use Rattle.stl.proofs.Corners.{same_point_lem, place}
use Rattle.stl.proofs.corner_in.Goals as goal

pub returns-then-bytes-f : goal.returns-then-bytes-f
returns-then-bytes-f c = c.new.ensures ∙ corner_past c.args.bytes.now c.args.i c.if-bytes-f.true

pub returns : goal.returns
returns c =
    let bs = c.args.bytes.now in
    let at = 84 + 50 * (c.args.i / 3) + 12 + 12 * (c.args.i % 3) in
    let x : at ≡ place_of (c.args.i * 3) = let p = place c.args.i 0 (omega arith) in let k : c.args.i * 3 ≡ c.args.i * 3 + 0 = omega arith in let q : at ≡ at + 4 * 0 = omega arith in q ∙ p ∙ ap place_of (sym k) in
    let y : at + 4 ≡ place_of (c.args.i * 3 + 1) = place c.args.i 1 (omega arith) in
    let z : at + 8 ≡ place_of (c.args.i * 3 + 2) = place c.args.i 2 (omega arith) in
    let read : (p q : ℕ) → p ≡ q → value_of (word_from bs p) ≡ value_of (word_from bs q) = λ p q e. ap (λ (k : ℕ). value_of (word_from bs k)) e in
    same_point_lem (c.value.ensures ∙ ap value_of c.word_from.ensures ∙ read _ _ x)
    (c.value-2.ensures ∙ ap value_of c.word_from-2.ensures ∙ read _ _ y)
    (c.value-3.ensures ∙ ap value_of c.word_from-3.ensures ∙ read _ _ z)
