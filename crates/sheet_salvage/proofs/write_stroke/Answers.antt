use mathlib.Core.Path.{◌≡◌, refl, ap, ◌∙◌}
use mathlib.Core.Bool.{◌&&◌}
use Prim.Native.Nat.{ℕ, ◌+◌, ◌-◌, ◌<◌, ◌≤◌}
use native.Mathlib.Omega.{arith}
use lib.ListN.{length}
use lib.Dec.{ltb, eqb}
use Rattle.path.specs.Laid.{joined}
use Rattle.path.proofs.Pushes.{length-starts}
use Rattle.sheet_salvage.specs.Salvage.{behind}
use Rattle.sheet_salvage.specs.InnerPieces.{kept_from}
use Rattle.sheet_salvage.specs.InnerScan.{num}
use Rattle.sheet_salvage.proofs.Scans.{scan_is, begun-is}
use Rattle.sheet_salvage.proofs.Points.{num-few, same_place, points_step, starts_step, scan_end, begun-end, good-read}
use Rattle.sheet_salvage.proofs.Over.{numbers-back, starts-back, write_step, lays_over}
use Rattle.sheet_salvage.proofs.write_stroke.Goals as goal

pub loop-i-init : goal.loop-i-init
loop-i-init c =
    let at = behind c.args.bytes.now c.args.k in
    let here = c.good_one-here.ensures.0 ∙ ap (λ (x : ℕ). num (ltb x c.args.n && ltb c.args.a c.args.e)) c.word_at-w.ensures in
    let ns = scan_is c.args.n at c.args.a c.args.e in
    let ss = begun-is c.args.n at c.args.a c.args.e c.args.at.points in
    (omega arith, omega arith, omega arith, c.word_at-w.ensures, here, refl, omega (arith, ap length ns), omega (arith, ap length ss, length-starts c.args.at.points (kept_from c.args.n at c.args.a c.args.e)), λ x y f g. rw (ns, ss))

pub loop-i-preserved : goal.loop-i-preserved
loop-i-preserved c =
    let at = behind c.args.bytes.now c.args.k in
    let h : c.loop-i.i < c.args.e = omega arith in
    let z : c.args.k + c.loop-i.i + 1 ≡ c.args.k + (c.loop-i.i + 1) = omega arith in
    let v = rw z at c.word_at-v.ensures in
    let next = good-read c.args.bytes.now c.args.k c.loop-i.i c.args.e c.args.n _ _ c.word_at-v.ensures c.good_one-next.ensures.0 in
    let single = c.below-single.ensures.0 in
    let ek = c.kept_one-keep.ensures.0 in
    let eb = c.begun_one-starts.ensures.0 in
    let here = c.loop-i.invariant.4 in
    let few = num-few (ltb (at c.loop-i.i) c.args.n && ltb c.loop-i.i c.args.e) in (
      omega (arith, here, few),
      omega (arith, c.loop-i.invariant.1, c.kept_one-keep.ensures.1),
      omega (arith, c.loop-i.invariant.2, c.begun_one-starts.ensures.1),
      v,
      next,
      c.put_below-in-loop-i.auto.out ∙ c.put_below.auto.out ∙ c.loop-i.invariant.5,
      points_step c.args.n at (ltb (c.args.e - c.args.a) 2) c.args.e c.loop-i.i _ c.loop-i.prev c.loop-i.here _ _ _ h single here next ek eb c.loop-i.points _ c.loop-i.invariant.6,
      starts_step c.args.n at (ltb (c.args.e - c.args.a) 2) c.args.e c.loop-i.i _ c.loop-i.prev c.loop-i.here _ _ _ h single here next ek eb c.loop-i.points c.loop-i.starts _ c.loop-i.invariant.7,
      λ x y f g. write_step c.args.n at (ltb (c.args.e - c.args.a) 2) c.args.e c.loop-i.i _ c.loop-i.prev c.loop-i.here _ _ _ h single here next ek eb c.loop-i.w c.loop-i.points c.loop-i.starts c.args.total.points c.args.total.starts _ c.loop-i.invariant.3 refl x y f g c.loop-i.out _ _ c.put_below.ensures c.put_below-in-loop-i.ensures
          ∙ c.loop-i.invariant.8 x y (numbers-back c.args.n at (ltb (c.args.e - c.args.a) 2) c.args.e c.loop-i.i _ c.loop-i.prev c.loop-i.here _ _ _ h single here next ek eb c.loop-i.w c.loop-i.points c.loop-i.starts c.args.total.points c.args.total.starts _ c.loop-i.invariant.3 refl x y f g) (starts-back c.args.n at (ltb (c.args.e - c.args.a) 2) c.args.e c.loop-i.i _ c.loop-i.prev c.loop-i.here _ _ _ h single here next ek eb c.loop-i.w c.loop-i.points c.loop-i.starts c.args.total.points c.args.total.starts _ c.loop-i.invariant.3 refl x y f g),
    )

pub returns : goal.returns
returns c =
    let at = behind c.args.bytes.now c.args.k in
    let h : c.args.e ≤ c.loop-i.i = omega arith in
    let ns = scan_end c.args.n at (ltb (c.args.e - c.args.a) 2) (eqb c.loop-i.prev 1) c.args.e c.loop-i.i h in
    let ss = begun-end c.args.n at (ltb (c.args.e - c.args.a) 2) (eqb c.loop-i.prev 1) c.args.e c.loop-i.i c.loop-i.points h in
    let ep : c.loop-i.points ≡ c.args.at.points + length (joined (kept_from c.args.n at c.args.a c.args.e)) = omega (arith, ap length ns, c.loop-i.invariant.6) in
    let es : c.loop-i.starts ≡ c.args.at.starts + length (kept_from c.args.n at c.args.a c.args.e) = omega (arith, ap length ss, c.loop-i.invariant.7) in
    record { lays_over = lays_over c.args.n at c.args.a c.args.e c.args.out.now c.loop-i.out c.args.total c.args.at c.loop-i.points c.loop-i.starts ep es (λ x y f g. rw (ns, ss) at (c.loop-i.invariant.8 x y) f g); value = (same_place ep es, omega arith, omega arith) }
