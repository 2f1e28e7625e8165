-- `weld_verdict` meets its contract: each test is that of the definition.
use mathlib.Core.Path.{sym, ◌∙◌}
use borrow.Author.Tests.{le-leb, lt-leb, eq-eqb, ne_eqb}
use Rattle.refusal.specs.Refusals.{unless}
use Rattle.mesh_weld.specs.Call.{verdict_of}
use Rattle.mesh_weld.proofs.weld_verdict.Goals as goal

pub returns-then-coords-ne0 : goal.returns-then-coords-ne0
unfolding verdict_of unless
returns-then-coords-ne0 c = simp (ne_eqb _ _ c.if-coords-ne0.true)

pub returns-then-faces-gt-MOST_FACES : goal.returns-then-faces-gt-MOST_FACES
unfolding verdict_of unless
returns-then-faces-gt-MOST_FACES c = simp (eq-eqb _ _ c.if-coords-ne0.false, lt-leb _ _ c.if-faces-gt-MOST_FACES.true)

pub returns-then-not-coordinates_good : goal.returns-then-not-coordinates_good
unfolding verdict_of unless
returns-then-not-coordinates_good c =
    simp (
      eq-eqb _ _ c.if-coords-ne0.false,
      le-leb _ _ c.if-faces-gt-MOST_FACES.false,
      sym c.coordinates_good.ensures ∙ c.if-not-coordinates_good.true,
    )

pub returns : goal.returns
unfolding verdict_of unless
returns c =
    simp (
      eq-eqb _ _ c.if-coords-ne0.false,
      le-leb _ _ c.if-faces-gt-MOST_FACES.false,
      sym c.coordinates_good.ensures ∙ c.if-not-coordinates_good.false,
    ) c.lent_verdict.ensures
