-- How long the file is follows by a law: no check walks through so many bytes.
use Rattle.std.proofs.Common.{ℕ, sym, ◌∙◌}
use lib.ListN.{length-replicate}
use Rattle.cases_stl.proofs.read_one_face_more.Goals as goal

pub slice_bounds-put_word_from-end : goal.slice_bounds-put_word_from-end
slice_bounds-put_word_from-end g c = sym (length-replicate {A = ℕ} 3276934 255)

pub slice_bounds-read_with-end-2 : goal.slice_bounds-read_with-end-2
slice_bounds-read_with-end-2 g c = sym (c.put_word_from.auto.out ∙ length-replicate {A = ℕ} 3276934 255)
