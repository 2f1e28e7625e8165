use mathlib.Core.Path.{refl, ap, ◌∙◌}
use Prim.Native.Nat.{ℕ, ◌-◌, ◌<◌, ◌≤◌}
use native.Mathlib.Omega.{arith}
use lib.ListN.{length}
use lib.Dec.{ltb, eqb}
use mathlib.Core.Bool.{◌&&◌}
use Rattle.path.proofs.Pushes.{length-starts}
use Rattle.sheet_salvage.specs.Salvage.{behind}
use Rattle.sheet_salvage.specs.InnerPieces.{kept_from}
use Rattle.sheet_salvage.specs.InnerScan.{num}
use Rattle.sheet_salvage.proofs.Scans.{scan_is, begun-is}
use Rattle.sheet_salvage.proofs.Points.{num-few, same_place, points_step, starts_step, good-step, good-end, scan_end, begun-end, good-read, no_points}
use Rattle.sheet_salvage.proofs.count_stroke.Goals as goal

pub loop-i-init : goal.loop-i-init
loop-i-init c =
    let at = behind c.args.bytes.now c.args.k in
    let here = c.good_one-here.ensures.0 ∙ ap (λ (x : ℕ). num (ltb x c.args.n && ltb c.args.a c.args.e)) c.word_at.ensures in
    let ns = ap length (scan_is c.args.n at c.args.a c.args.e) in
    let ss = ap length (begun-is c.args.n at c.args.a c.args.e c.args.at.kept.points) ∙ length-starts c.args.at.kept.points (kept_from c.args.n at c.args.a c.args.e) in
    (omega arith, omega arith, omega arith, omega arith, here, omega (arith, ns), omega (arith, ss), refl)

pub loop-i-preserved : goal.loop-i-preserved
loop-i-preserved c =
    let at = behind c.args.bytes.now c.args.k in
    let h : c.loop-i.i < c.args.e = omega arith in
    let next = good-read c.args.bytes.now c.args.k c.loop-i.i c.args.e c.args.n _ _ c.word_at-in-loop-i.ensures c.good_one-next.ensures.0 in
    let single = c.below-single.ensures.0 in
    let ek = c.kept_one-keep.ensures.0 in
    let eb = c.begun_one-starts.ensures.0 in
    let here = c.loop-i.invariant.4 in
    let few = num-few (ltb (at c.loop-i.i) c.args.n && ltb c.loop-i.i c.args.e) in (
      omega (arith, here, few),
      omega (arith, c.kept_one-keep.ensures.1),
      omega (arith, c.begun_one-starts.ensures.1),
      omega (arith, here, few),
      next,
      points_step c.args.n at (ltb (c.args.e - c.args.a) 2) c.args.e c.loop-i.i _ c.loop-i.prev c.loop-i.here _ _ _ h single here next ek eb c.loop-i.points _ c.loop-i.invariant.5,
      starts_step c.args.n at (ltb (c.args.e - c.args.a) 2) c.args.e c.loop-i.i _ c.loop-i.prev c.loop-i.here _ _ _ h single here next ek eb c.loop-i.points c.loop-i.starts _ c.loop-i.invariant.6,
      good-step c.args.n at c.args.e c.loop-i.i c.loop-i.here _ _ h here c.loop-i.invariant.7,
    )

pub returns : goal.returns
returns c =
    let at = behind c.args.bytes.now c.args.k in
    let h : c.args.e ≤ c.loop-i.i = omega arith in
    let ns = ap length (scan_end c.args.n at (ltb (c.args.e - c.args.a) 2) (eqb c.loop-i.prev 1) c.args.e c.loop-i.i h) in
    let ss = ap length (begun-end c.args.n at (ltb (c.args.e - c.args.a) 2) (eqb c.loop-i.prev 1) c.args.e c.loop-i.i c.loop-i.points h) in
    let f = no_points c.args.a c.args.e _ (omega arith) c.below.ensures.0 in
    record { kept_value = same_place (omega (arith, ns, c.loop-i.invariant.5)) (omega (arith, ss, c.loop-i.invariant.6)); good_value = (good-end c.args.n at c.args.e c.loop-i.i c.loop-i.good _ h c.loop-i.invariant.7, f.1 c.args.at.ignored); points_le_e = (omega arith, omega arith, omega arith) }
