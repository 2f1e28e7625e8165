-- `write_all` meets its contract.
use mathlib.Core.Path.{ap, ◌∙◌}
use Prim.Native.Nat.{ℕ, ◌+◌, ◌*◌}
use lib.ListN.{length}
use lib.Seq.{sets}
use Rattle.byte_words.specs.Bytes.{bytes_all}
use Rattle.sheet.specs.Sheets.{header_of, mode_word}
use Rattle.sheet.specs.InnerKept.{kept_from}
use Rattle.sheet_write.proofs.Calls.{all_put}
use Rattle.sheet_write.proofs.write_all.Goals as goal

pub returns : goal.returns
returns c =
    let n = length c.args.numbers.now in
    let h = c.write_header.ensures ∙ ap (λ (x : ℕ). sets c.args.out.now 0 (bytes_all (header_of x c.args.vertices c.kept-strokes.result n))) c.mode_word.ensures ∙ ap (λ (x : ℕ). sets c.args.out.now 0 (bytes_all (header_of (mode_word c.args.mode) c.args.vertices x n))) c.kept-strokes.ensures.value in
    record { out_after = all_put c.args.out.now (mode_word c.args.mode) c.args.vertices (kept_from n c.args.starts.now) c.args.numbers.now _ _ _ _ h c.write_starts-k.ensures.out_after c.write_starts-k.ensures.value.0 c.write_numbers.ensures; value = ap (λ (k : ℕ). 4 * (k + n)) c.write_starts-k.ensures.value.0 }
