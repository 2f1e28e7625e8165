-- `put_start` meets its contract.
use mathlib.Core.Path.{sym, ap, ◌∙◌}
use mathlib.Core.List.{List}
use Prim.Native.Nat.{ℕ, ◌*◌}
use native.Mathlib.Omega.{arith}
use lib.ListN.{length, get_or}
use lib.Seq.{sets}
use Rattle.byte_words.specs.Bytes.{bytes_all}
use Rattle.byte_words.proofs.Words.{put_one, put-none}
use Rattle.sheet_write.proofs.Kepts.{at_some, at_none}
use Rattle.sheet_write.proofs.put_start.Goals as goal

pub returns-then-not-has_points : goal.returns-then-not-has_points
returns-then-not-has_points c =
    let e = at_none c.args.n c.args.starts.now c.args.i (sym c.has_points.ensures ∙ c.if-not-has_points.true) in
    record { out_after = rw e (sym (put-none c.args.out.now (c.args.k * 4))); value = (omega (arith, ap length e), omega arith) }

pub returns : goal.returns
returns c =
    let e = at_some c.args.n c.args.starts.now c.args.i (sym c.has_points.ensures ∙ c.if-not-has_points.false) in
    record { out_after = c.put_word.ensures ∙ put_one c.args.out.now (c.args.k * 4) (get_or c.args.starts.now c.args.i 0) ∙ ap (λ (x : List ℕ). sets c.args.out.now (c.args.k * 4) (bytes_all x)) (sym e); value = (omega (arith, ap length e), omega arith) }
