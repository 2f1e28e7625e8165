-- `list` meets its contract: a longer input, bytes that are no sheet, and a sheet.
use mathlib.Core.Path.{sym, ◌∙◌}
use Rattle.sheet_list.proofs.Lines.{text_long, text_none, text_some, text_is, same-refusal, refused-size, listed-size}
use Rattle.sheet_list.proofs.list.Goals as goal

pub returns-then-bytes-gt-MOST_BYTES : goal.returns-then-bytes-gt-MOST_BYTES
returns-then-bytes-gt-MOST_BYTES c =
    let pair = text_is c.args.out.now _ _ (same-refusal c.args.out.now _ _ c.write_refused.ensures c.number.ensures) (text_long c.args.bytes.now c.if-bytes-gt-MOST_BYTES.true) (refused-size _) in
    record { result_after = pair.0; upper_bound = pair.1 }

pub returns-then-not-is_sheet : goal.returns-then-not-is_sheet
returns-then-not-is_sheet c =
    let pair = text_is c.args.out.now _ _ (same-refusal c.args.out.now _ _ c.write_refused-then-not-is_sheet.ensures c.number-then-not-is_sheet.ensures) (text_none c.args.bytes.now c.if-bytes-gt-MOST_BYTES.false (sym c.is_sheet.ensures ∙ c.if-not-is_sheet.true)) (refused-size _) in
    record { result_after = pair.0; upper_bound = pair.1 }

pub write_listed-requires : goal.write_listed-requires
write_listed-requires c = sym c.is_sheet.ensures ∙ c.if-not-is_sheet.false

pub returns : goal.returns
returns c =
    let h = sym c.is_sheet.ensures ∙ c.if-not-is_sheet.false in
    let pair = text_is c.args.out.now _ _ c.write_listed.ensures (text_some c.args.bytes.now c.if-bytes-gt-MOST_BYTES.false h) (listed-size c.args.bytes.now h c.if-bytes-gt-MOST_BYTES.false) in
    record { result_after = pair.0; upper_bound = pair.1 }
