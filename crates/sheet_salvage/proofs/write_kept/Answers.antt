use mathlib.Core.Path.{refl, sym, ap, ◌∙◌}
use native.Mathlib.Omega.{arith}
use Rattle.path.proofs.Pushes.{front}
use Rattle.sheet_salvage.specs.InnerPieces.{after, laid_at}
use Rattle.sheet_salvage.proofs.Held.{taken_few}
use Rattle.sheet_salvage.proofs.Calls.{few_strokes, saved_read, kept-starts, few_points, kept_put}
use Rattle.sheet_salvage.proofs.write_kept.Goals as goal

pub overflow_cast-kept-2 : goal.overflow_cast-kept-2
overflow_cast-kept-2 c = omega (arith, few_points c.args.bytes.now c.args.kept c.requires.2)

pub write_strokes-requires : goal.write_strokes-requires
write_strokes-requires c =
    let saved = saved_read c.args.bytes.now _ _ c.args.m c.word_at-vertices.ensures c.word_at-2.ensures c.requires.1 in
    let f = taken_few c.args.bytes.now in
    (omega (arith, c.word_at-2.ensures, few_strokes c.args.bytes.now c.requires.0), omega (arith, c.requires.1, f.1), omega (arith, kept-starts c.args.bytes.now c.args.kept c.requires.2, c.requires.3), c.requires.2 ∙ ap (after front) (sym saved))

pub returns : goal.returns
returns c =
    let saved = saved_read c.args.bytes.now _ _ c.args.m c.word_at-vertices.ensures c.word_at-2.ensures c.requires.1 in
    kept_put c.args.bytes.now c.args.kept c.requires.2 c.args.out.now _ _ _ _ _ c.word_at.ensures c.word_at-vertices.ensures refl c.write_header.ensures (c.write_strokes.ensures ∙ ap (laid_at _ _ front) saved)
