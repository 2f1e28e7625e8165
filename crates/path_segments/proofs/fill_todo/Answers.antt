-- `fill_todo` meets its contract.
use mathlib.Core.Path.{◌≡◌, sym, ap, ◌∙◌}
use Prim.Native.Nat.{ℕ, ◌*◌, ◌-◌}
use native.Mathlib.Omega.{arith}
use lib.ListN.{length, replicate, length-replicate}
use Rattle.order.specs.Regions.{put}
use Rattle.order.proofs.Parts.{length-region, put-lent}
use Rattle.path_segments.proofs.fill_todo.Goals as goal

pub returns : goal.returns
returns c =
    let s = c.args.s.now in
    let n = c.args.n in
    let k : 7 * n - 6 * n ≡ n = omega arith in
    let e : c.fill.new.self ≡ replicate n 1 = c.fill.ensures.after (λ y h. h) ∙ ap (λ (z : ℕ). replicate z 1) (length-region s (6 * n) (7 * n - 6 * n) (omega arith) ∙ k) in
    put-lent s (6 * n) (7 * n - 6 * n) c.fill.new.self (ap length e ∙ length-replicate {A = ℕ} n 1 ∙ sym k) (omega arith) ∙ ap (put s (6 * n)) e
