-- The paper's proved case of a sheet, by computation.
use mathlib.Core.Path.{refl}
use Rattle.refusal.specs.Each.{Each}
use Rattle.refusal.specs.Refusals.{unless}
use Rattle.refusal.specs.Outcome.{outcome}
use Rattle.path.specs.Strokes.{good_from, good_starts, gather, strokes_of}
use Rattle.path.specs.Laid.{over, non_empty, joined, starts_from}
use Rattle.mesh.specs.Meshes.{all_below}
use Rattle.byte_words.specs.Bytes.{bytes_of, bytes_all}
use Rattle.sheet.specs.Sheets.{header_of, sheet_of, mode_good, mode_word, counts_good}
use Rattle.sheet_write.specs.Call.{verdict_of, laid, write_left}
use Rattle.sheet_write.specs.Cases.{Holds, paper}

pub cases : Each Holds paper
unfolding paper write_left outcome laid verdict_of unless counts_good mode_word mode_good good_starts good_from all_below gather strokes_of over non_empty joined starts_from bytes_of bytes_all header_of sheet_of
cases = (refl, (refl, (refl, tt)))
