-- The request's cases, by computation.
use mathlib.Core.Path.{refl}
use Rattle.refusal.specs.Each.{Each}
use Rattle.refusal.specs.Refusals.{unless}
use Rattle.refusal.specs.Outcome.{outcome}
use Rattle.path.specs.Strokes.{gather, strokes_of}
use Rattle.path.specs.Laid.{over, non_empty, joined, starts_from}
use Rattle.mesh.specs.Meshes.{all_below}
use Rattle.byte_words.specs.Bytes.{bytes_of, bytes_all, word_from}
use Rattle.sheet.specs.Sheets.{word_at, header_of, sheet_of, starts_in, mode_good, counts_good}
use Rattle.sheet_salvage.specs.Salvage.{header_usable, taken_count, rising_from, starts_taken, strokes_taken, longer, pieces_of, long_ones, kept_of, kept_all, saved_in, offsets_by, offsets_changed, ignored_of, starts_ignored, wild_of, wild_in, lones_of, lones_all, leftovers_in}
use Rattle.sheet_salvage.specs.Call.{kept_verdict, verdict_of, salvaged, reported, laid, salvage_left}
use Rattle.sheet_salvage.specs.Cases.{Holds, paper}

pub cases : Each Holds paper
unfolding paper salvage_left outcome laid reported salvaged verdict_of kept_verdict unless header_usable taken_count rising_from starts_taken strokes_taken longer pieces_of long_ones kept_of kept_all saved_in offsets_by offsets_changed ignored_of starts_ignored wild_of wild_in lones_of lones_all leftovers_in word_at word_from header_of sheet_of starts_in mode_good counts_good gather strokes_of over non_empty joined starts_from all_below bytes_of bytes_all
cases = (refl, (refl, (refl, (refl, (refl, (refl, (refl, (refl, (refl, (refl, (refl, (refl, (refl, (refl, (refl, tt)))))))))))))))
