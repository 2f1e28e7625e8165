-- `keep` meets its contract.
use Rattle.std.proofs.Common.{arith, ◌-◌}
use Rattle.path.specs.Strokes.{point_at}
use Rattle.path_simplify.proofs.Thins.{parts-length, parts-measured, first-length}
use Rattle.path_simplify.proofs.Noted.{measured-thin, noted-thin, plus-measured, whole, split, look_least, first-noted, parts-noted}
use Rattle.path_simplify.proofs.+keep.Goals as goal

pub measure-requires : goal.measure-requires
measure-requires t c =
    let a = c.args in
    let p = c.requires in
    let at = point_at a.points.now in
    omega (arith, look_least a.threshold at a.lo a.hi a.m p.0 p.2, p.4)

pub note-requires : goal.note-requires
note-requires t c =
    let a = c.args in
    let p = c.requires in
    let at = point_at a.points.now in
    let k = measured-thin at a.kept.now c.measure.new.self (a.hi - a.lo - 1) c.measure.ensures in
    omega (arith, p.3, c.measure.ensures.1, first-length at a.lo a.hi _ (whole a.threshold at a.lo a.hi a.m p.0 p.2 c.in-None.is))

pub returns-in-None : goal.returns-in-None
returns-in-None t c =
    let a = c.args in
    let p = c.requires in
    let at = point_at a.points.now in
    let k = measured-thin at a.kept.now c.measure.new.self (a.hi - a.lo - 1) c.measure.ensures in
    let w = whole a.threshold at a.lo a.hi a.m p.0 p.2 c.in-None.is in
    let f = first-length at a.lo a.hi _ w in
    let n = noted-thin at c.measure.new.self c.note.new.self a.lo (omega (arith, p.3, c.measure.ensures.1, f)) c.note.ensures in
    (first-noted at a.lo a.hi _ _ _ _ w k n, omega (arith, c.note.ensures.1, c.measure.ensures.1, f))

pub split_at-l-requires : goal.split_at-l-requires
split_at-l-requires t c =
    let a = c.args in
    let p = c.requires in
    let at = point_at a.points.now in
    let s = split a.threshold at a.lo a.hi a.m p.0 p.2 c.in-Some.at c.in-Some.is in
    (s.0, omega (arith, p.1, s.1))

pub keep-requires : goal.keep-requires
keep-requires t c =
    let a = c.args in
    let p = c.requires in
    let at = point_at a.points.now in
    let k = measured-thin at a.kept.now c.measure.new.self (a.hi - a.lo - 1) c.measure.ensures in
    let s = split a.threshold at a.lo a.hi a.m p.0 p.2 c.in-Some.at c.in-Some.is in
    let n = parts-length _ _ _ _ s.2 in
    let d = parts-measured _ _ _ _ s.2 in
    (omega (arith, s.0, s.1), (s.0, omega (arith, p.1, s.1), c.split_at-l.ensures, omega (arith, p.3, c.measure.ensures.1, n), omega (arith, p.4, c.measure.ensures.0, d)))

pub split_at-r-requires : goal.split_at-r-requires
split_at-r-requires t c =
    let a = c.args in
    let p = c.requires in
    let at = point_at a.points.now in
    let s = split a.threshold at a.lo a.hi a.m p.0 p.2 c.in-Some.at c.in-Some.is in
    (s.1, p.1)

pub keep-requires-in-Some : goal.keep-requires-in-Some
keep-requires-in-Some t c =
    let a = c.args in
    let p = c.requires in
    let at = point_at a.points.now in
    let k = measured-thin at a.kept.now c.measure.new.self (a.hi - a.lo - 1) c.measure.ensures in
    let s = split a.threshold at a.lo a.hi a.m p.0 p.2 c.in-Some.at c.in-Some.is in
    let n = parts-length _ _ _ _ s.2 in
    let d = parts-measured _ _ _ _ s.2 in
    let l = plus-measured at _ _ _ c.keep.ensures.0 in
    (omega (arith, s.0, s.1), (s.1, p.1, c.split_at-r.ensures, omega (arith, p.3, c.measure.ensures.1, n, c.keep.ensures.1), omega (arith, p.4, c.measure.ensures.0, d, l)))

pub returns-in-Some : goal.returns-in-Some
returns-in-Some t c =
    let a = c.args in
    let p = c.requires in
    let at = point_at a.points.now in
    let k = measured-thin at a.kept.now c.measure.new.self (a.hi - a.lo - 1) c.measure.ensures in
    let s = split a.threshold at a.lo a.hi a.m p.0 p.2 c.in-Some.at c.in-Some.is in
    let n = parts-length _ _ _ _ s.2 in (
      parts-noted a.lo a.hi _ _ _ _ _ _ _ s.2 k c.keep.ensures.0 c.keep-in-Some.ensures.0,
      omega (arith, c.measure.ensures.1, n, c.keep.ensures.1, c.keep-in-Some.ensures.1),
    )
