-- `read_verdict` meets its contract: each test is that of the definition.
use mathlib.Core.Path.{sym, ◌∙◌}
use borrow.Author.Tests.{le-leb, lt-leb}
use Rattle.refusal.specs.Refusals.{unless}
use Rattle.mesh_weld.specs.Read.{read_verdict}
use Rattle.mesh_weld.proofs.Files.{read_by}
use Rattle.mesh_weld.proofs.read.read_verdict.Goals as goal

pub returns-then-not-is_stl : goal.returns-then-not-is_stl
unfolding read_verdict unless
returns-then-not-is_stl c = rw (sym c.is_stl.ensures ∙ c.if-not-is_stl.true)

pub returns-then-faces-gt-MOST_FACES : goal.returns-then-faces-gt-MOST_FACES
unfolding unless
returns-then-faces-gt-MOST_FACES c =
    rw (
      read_by c.args.bytes.now c.args.words c.args.room c.args.numbers _ c.faces_in-faces.ensures (sym c.is_stl.ensures ∙ c.if-not-is_stl.false),
      lt-leb _ _ c.if-faces-gt-MOST_FACES.true,
    )

pub returns-then-not-corners_good : goal.returns-then-not-corners_good
unfolding unless
returns-then-not-corners_good c =
    rw (
      read_by c.args.bytes.now c.args.words c.args.room c.args.numbers _ c.faces_in-faces.ensures (sym c.is_stl.ensures ∙ c.if-not-is_stl.false),
      le-leb _ _ c.if-faces-gt-MOST_FACES.false,
      sym c.corners_good.ensures ∙ c.if-not-corners_good.true,
    )

pub returns : goal.returns
unfolding unless
returns c =
    rw (
      read_by c.args.bytes.now c.args.words c.args.room c.args.numbers _ c.faces_in-faces.ensures (sym c.is_stl.ensures ∙ c.if-not-is_stl.false),
      le-leb _ _ c.if-faces-gt-MOST_FACES.false,
      sym c.corners_good.ensures ∙ c.if-not-corners_good.false,
    )
    c.lent_verdict.ensures
