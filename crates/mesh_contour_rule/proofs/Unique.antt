-- What the contract of `cut_face` permits is one answer: its points tell it.
use mathlib.Core.Path.{◌≡◌, refl}
use Prim.Native.Nat.{ℕ}
use native.Mathlib.Omega.{arith}
use Rattle.std.specs.Prelude.{Option, Some, None}
use Rattle.refusal.specs.One.{One}
use Rattle.refusal.proofs.Unique.{one-read}
use Rattle.vector.specs.declared.Vector.{Vector}
use Rattle.mesh_section.specs.Section.{cut_stroke}
use Rattle.mesh_contour_rule.specs.declared.Corner.{Corner}
use Rattle.mesh_contour_rule.specs.Contour.{segment_by}

told : (r t : Option (Vector × Vector)) → cut_stroke r ≡ cut_stroke t → r ≡ t
told (Some (a, b)) (Some (c, d)) e = cc
told (Some (a, b)) None e = absurd (let z : ◌≡◌ {A = ℕ} 0 1 = cc in omega arith)
told None (Some (c, d)) e = absurd (let z : ◌≡◌ {A = ℕ} 0 1 = cc in omega arith)
told None None e = refl

pub one-cut : (a b c : Corner) → One (Option (Vector × Vector)) (λ r. cut_stroke r ≡ segment_by a b c)
one-cut a b c = one-read cut_stroke told (segment_by a b c)
