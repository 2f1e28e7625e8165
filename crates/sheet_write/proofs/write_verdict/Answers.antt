-- `write_verdict` meets its contract: each test is that of the definition.
use Rattle.std.specs.Prelude.{Ok}
use mathlib.Core.Path.{◌≡◌, sym, ap, ◌∙◌}
use native.Mathlib.Omega.{arith}
use lib.Dec.{ltb}
use Rattle.refusal.specs.declared.Refusal.TheVariants.{Room}
use Rattle.refusal.specs.Refusals.{unless}
use Rattle.sheet_write.specs.Call.{verdict_of}
use Rattle.sheet.proofs.Modes.{word_some}
use Rattle.sheet.proofs.Sizes.{limits}
use Rattle.sheet_write.proofs.Calls.{same_size}
use Rattle.sheet_write.proofs.write_verdict.Goals as goal

pub returns-then-not-rising : goal.returns-then-not-rising
unfolding verdict_of unless
returns-then-not-rising c = simp (sym c.rising.ensures ∙ c.if-not-rising.true)

pub returns-then-not-counts_good : goal.returns-then-not-counts_good
unfolding verdict_of unless
returns-then-not-counts_good c =
    simp (
      sym c.rising.ensures ∙ c.if-not-rising.false,
      sym c.counts_good.ensures ∙ c.if-not-counts_good.true,
    )

pub returns-then-not-all_below : goal.returns-then-not-all_below
unfolding verdict_of unless
returns-then-not-all_below c =
    simp (
      sym c.rising.ensures ∙ c.if-not-rising.false,
      sym c.counts_good.ensures ∙ c.if-not-counts_good.false,
      sym c.all_below.ensures ∙ c.if-not-all_below.true,
    )

pub returns-then-mode_word-eq0 : goal.returns-then-mode_word-eq0
unfolding verdict_of unless
returns-then-mode_word-eq0 c =
    simp (
      sym c.rising.ensures ∙ c.if-not-rising.false,
      sym c.counts_good.ensures ∙ c.if-not-counts_good.false,
      sym c.all_below.ensures ∙ c.if-not-all_below.false,
      ap (ltb 0) (sym c.mode_word.ensures ∙ c.if-mode_word-eq0.true),
    )

pub fits-requires : goal.fits-requires
fits-requires c = omega (arith, limits _ _ _ (sym c.counts_good.ensures ∙ c.if-not-counts_good.false))

pub returns-then-not-fits : goal.returns-then-not-fits
unfolding unless verdict_of
returns-then-not-fits c =
    rw (
      (let last : verdict_of c.args.mode c.args.vertices c.args.numbers.now c.args.starts.now c.args.room ≡ unless c.fits.result Room (Ok tt) = let r = sym c.rising.ensures ∙ c.if-not-rising.false in simp (
        r,
        sym c.counts_good.ensures ∙ c.if-not-counts_good.false,
        sym c.all_below.ensures ∙ c.if-not-all_below.false,
        word_some _ _ c.mode_word.ensures c.if-mode_word-eq0.false,
        sym (same_size c.args.numbers.now c.args.starts.now c.args.room r) ∙ sym c.fits.ensures,
      ) in last),
      c.if-not-fits.true,
    )

pub returns : goal.returns
unfolding unless verdict_of
returns c =
    rw (
      (let last : verdict_of c.args.mode c.args.vertices c.args.numbers.now c.args.starts.now c.args.room ≡ unless c.fits.result Room (Ok tt) = let r = sym c.rising.ensures ∙ c.if-not-rising.false in simp (
        r,
        sym c.counts_good.ensures ∙ c.if-not-counts_good.false,
        sym c.all_below.ensures ∙ c.if-not-all_below.false,
        word_some _ _ c.mode_word.ensures c.if-mode_word-eq0.false,
        sym (same_size c.args.numbers.now c.args.starts.now c.args.room r) ∙ sym c.fits.ensures,
      ) in last),
      c.if-not-fits.false,
    )
