-- `read_entry` meets its contract.
use mathlib.Core.Path.{refl, sym, ap, ◌∙◌}
use Prim.Native.Nat.{ℕ, ◌+◌, ◌-◌, ◌/◌, ◌%◌}
use native.Mathlib.Omega.{arith}
use lib.ListN.{length}
use Rattle.order.specs.Regions.{put}
use Rattle.path_splice.proofs.Tables.{last_side, first-side}
use Rattle.path_splice.proofs.Readings.{part-empty, part-forward, part-backward, part-size, put-none}
use Rattle.path_splice.proofs.Strokes.read_entry.Goals as goal

pub returns-then-a-b : goal.returns-then-a-b
returns-then-a-b c =
    let e = part-empty c.args.self.points.now c.args.self.starts.now c.args.x c.path_id.result c.span_of-s.result.from c.span_of-s.result.to c.path_id.ensures c.span_of-s.ensures c.if-a-b.true in
    (put-none c.args.out.now c.args.at _ e, omega (arith, ap length e))

pub write_backward-requires : goal.write_backward-requires
write_backward-requires c = omega (arith, c.span_of-s.ensures.low, c.span_of-s.ensures.high, c.if-a-b.false, c.requires, part-size c.args.self.points.now c.args.self.starts.now c.args.x c.path_id.result c.span_of-s.result.from c.span_of-s.result.to c.path_id.ensures c.span_of-s.ensures (1 - c.args.x % 2) refl c.if-a-b.false)

pub returns-then-is_last : goal.returns-then-is_last
returns-then-is_last c = (
  c.write_backward.ensures ∙ ap (put c.args.out.now c.args.at) (sym (part-backward c.args.self.points.now c.args.self.starts.now c.args.x c.path_id.result c.span_of-s.result.from c.span_of-s.result.to c.path_id.ensures c.span_of-s.ensures (1 - c.args.x % 2) refl c.if-a-b.false (last_side (c.args.x / 2) _ c.is_last.ensures c.if-is_last.true))),
  ap (λ (k : ℕ). c.args.at + k) (sym (part-size c.args.self.points.now c.args.self.starts.now c.args.x c.path_id.result c.span_of-s.result.from c.span_of-s.result.to c.path_id.ensures c.span_of-s.ensures (1 - c.args.x % 2) refl c.if-a-b.false)),
)

pub write_forward-requires : goal.write_forward-requires
write_forward-requires c = omega (arith, c.span_of-s.ensures.low, c.span_of-s.ensures.high, c.if-a-b.false, c.requires, part-size c.args.self.points.now c.args.self.starts.now c.args.x c.path_id.result c.span_of-s.result.from c.span_of-s.result.to c.path_id.ensures c.span_of-s.ensures (1 - c.args.x % 2) refl c.if-a-b.false)

pub returns : goal.returns
returns c = (
  c.write_forward.ensures ∙ ap (put c.args.out.now c.args.at) (sym (part-forward c.args.self.points.now c.args.self.starts.now c.args.x c.path_id.result c.span_of-s.result.from c.span_of-s.result.to c.path_id.ensures c.span_of-s.ensures (1 - c.args.x % 2) refl c.if-a-b.false (first-side (c.args.x / 2) _ c.is_last.ensures c.if-is_last.false))),
  ap (λ (k : ℕ). c.args.at + k) (sym (part-size c.args.self.points.now c.args.self.starts.now c.args.x c.path_id.result c.span_of-s.result.from c.span_of-s.result.to c.path_id.ensures c.span_of-s.ensures (1 - c.args.x % 2) refl c.if-a-b.false)),
)
