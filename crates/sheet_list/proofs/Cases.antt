-- The paper's proved case of the listing, by computation.
use mathlib.Core.Path.{refl}
use Rattle.refusal.specs.Each.{Each}
use Rattle.path.specs.Strokes.{gather, strokes_of}
use Rattle.path.specs.Laid.{non_empty, joined, starts_from}
use Rattle.mesh.specs.Meshes.{all_below}
use Rattle.byte_words.specs.Bytes.{bytes_of, bytes_all, word_from}
use Rattle.sheet.specs.Sheets.{word_at, header_of, sheet_of, starts_in, numbers_in, mode_word, mode_good, counts_good, places_good, header_good, strict_from, table_good, is_sheet}
use Rattle.sheet_list.specs.Listing.{top_from, digits_from, decimal, spaced, line_of, listed, refused_text, text_of}
use Rattle.sheet_list.specs.Cases.{Holds, paper}

pub cases : Each Holds paper
unfolding paper text_of listed refused_text line_of spaced decimal digits_from top_from is_sheet table_good strict_from header_good places_good counts_good mode_good mode_word numbers_in starts_in sheet_of header_of word_at word_from bytes_all bytes_of all_below non_empty joined starts_from gather strokes_of
cases = (refl, (refl, (refl, tt)))
