-- `intersect_segment` meets its contract: a law for each branch.
use mathlib.Core.Path.{◌≡◌, sym, ◌∙◌}
use Rattle.vector.specs.Vectors.{sub_of, dot_of}
use Rattle.mesh_section.specs.Section.{rise_of}
use Rattle.mesh_section.proofs.Hits.{misses_along, misses, hits}
use Rattle.mesh_section.proofs.Plane.intersect_segment.Goals as goal

pub returns-then-far : goal.returns-then-far
returns-then-far c = misses c.args.self c.args.tolerance c.args.v0 c.args.v1 _ (let rise : c.dot-d.result ≡ rise_of c.args.self c.args.v0 c.args.v1 = rw (c.dot-d.ensures, c.sub-u.ensures) in rise) _ (let height : c.dot-n.result ≡ dot_of c.args.self.normal (sub_of c.args.v0 c.args.self.point) = rw (c.dot-n.ensures, c.sub-w.ensures) in height) (c.far.ensures c.if-far.true)

pub returns-then-runs_along : goal.returns-then-runs_along
returns-then-runs_along c = misses_along c.args.self c.args.tolerance c.args.v0 c.args.v1 _ (let rise : c.dot-d.result ≡ rise_of c.args.self c.args.v0 c.args.v1 = rw (c.dot-d.ensures, c.sub-u.ensures) in rise) (sym c.runs_along.ensures ∙ c.if-runs_along.true)

pub returns-then-not-on_segment : goal.returns-then-not-on_segment
returns-then-not-on_segment c = misses c.args.self c.args.tolerance c.args.v0 c.args.v1 _ (let rise : c.dot-d.result ≡ rise_of c.args.self c.args.v0 c.args.v1 = rw (c.dot-d.ensures, c.sub-u.ensures) in rise) _ (let height : c.dot-n.result ≡ dot_of c.args.self.normal (sub_of c.args.v0 c.args.self.point) = rw (c.dot-n.ensures, c.sub-w.ensures) in height) (sym c.on_segment.ensures ∙ c.if-not-on_segment.true)

pub returns : goal.returns
returns c =
    rw (c.add.ensures, c.mul_scalar.ensures, c.sub-u.ensures)
    (hits c.args.self c.args.tolerance c.args.v0 c.args.v1 _ (let rise : c.dot-d.result ≡ rise_of c.args.self c.args.v0 c.args.v1 = rw (c.dot-d.ensures, c.sub-u.ensures) in rise) _ (let height : c.dot-n.result ≡ dot_of c.args.self.normal (sub_of c.args.v0 c.args.self.point) = rw (c.dot-n.ensures, c.sub-w.ensures) in height) (sym c.runs_along.ensures ∙ c.if-runs_along.false)
    (sym c.on_segment.ensures ∙ c.if-not-on_segment.false))
