-- How a row is read and counted.
use Rattle.std.specs.Prelude.{ℕ, ◌+◌, ◌-◌, ◌*◌, ◌%◌, ◌^◌, Bool, true, cond, not, ◌&&◌, List, ◌==◌, nat_lt, min, slice_index, slice_index_or, slice_set, Option, Some, None}
use Rattle.replay_rows.specs.declared.Page.{Page}
use Rattle.replay_rows.specs.declared.Count.{Count}

-- the value of a digit, none where the byte is no digit
unfoldable pub hex_of : ℕ → Option ℕ
hex_of b = cond (nat_lt 47 b && nat_lt b 58) (Some (b - 48)) (cond (nat_lt 96 b && nat_lt b 103) (Some (b - 87)) None)

abbrev pub spoilt : Page → Page
spoilt page = record page { spoilt = true }

-- a digit more of the word that is being read; what is no digit, or a word too many, spoils the row
abbrev pub digit_added : Page → Option ℕ → Page
digit_added page None = spoilt page
digit_added page (Some d) =
    cond (nat_lt page.whole 248) (record page { words = slice_set page.words page.whole (slice_index page.words page.whole % 0x1000_0000_0000_0000 * 16 + d) }) (spoilt page)

unfoldable pub with_digit : Page → ℕ → Page
with_digit page b = digit_added page (hex_of b)

-- a word more is whole
unfoldable pub with_end : Page → Page
with_end page = cond (nat_lt page.whole 248) (record page { whole = page.whole + 1 }) page

-- a byte: a line's end or a space ends a word
unfoldable pub fed : Page → ℕ → Page
fed page b = cond (b == 10) (with_end page) (cond (b == 32) (with_end page) (with_digit page b))

-- the function of a row, 0 where it is none
unfoldable pub kind_of : Page → ℕ → ℕ
kind_of page functions = cond (nat_lt functions 33 && nat_lt (slice_index page.words 0) functions) (slice_index page.words 0) 0

-- a row more, and if it does not agree a row that differs
unfoldable pub one_more : Count → Bool → Count
one_more c agrees = record { rows = (c.rows + 1) % 2 ^ 64; differ = cond agrees c.differ ((c.differ + 1) % 2 ^ 64) }

abbrev pub no_count : Count
no_count = record { rows = 0; differ = 0 }

-- one that no byte spoilt may agree
unfoldable pub counted : Page → List Count → ℕ → Bool → List Count
counted page counts functions agrees =
    let k = kind_of page functions in
    slice_set counts k (one_more (slice_index_or counts k no_count) (agrees && not page.spoilt))

-- how many names are printed, at most 32
unfoldable pub names_in : ℕ → ℕ
names_in n = min n 32
