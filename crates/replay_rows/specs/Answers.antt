-- What a call left, held to a row.
use Rattle.std.specs.Prelude.{ℕ, ◌*◌, Bool, true, cond, ◌&&◌, List, [], length, ◌==◌, nat_lt, slice_index, Float, Result, Ok, Err}
use Rattle.refusal.specs.declared.Refusal.{Refusal}
use Rattle.refusal.specs.Said.{Said, said_by}
use Rattle.refusal.specs.Refusals.{number_of}
use Rattle.replay_rows.specs.Words.{same_of, past_of}
use Rattle.replay_rows.specs.declared.Page.{Page}
use Rattle.replay_rows.specs.declared.Answer.{Answer}
use Rattle.replay_rows.specs.Pages.{word_of}
use Rattle.replay_rows.specs.Lists.{held, expected}

-- a status: 0, or the refusal's number
unfoldable pub status_of : {A : Type 0} → Result A Refusal → ℕ
status_of (Ok a) = 0
status_of (Err r) = number_of r

-- an answer of counts: its number, and they
abbrev pub answer_said : Result (List ℕ) Refusal → Said ℕ
answer_said r = said_by (λ counts. counts) r

-- the row ends at a place, and has this status
unfoldable pub ends_at : Page → ℕ → ℕ → Bool
ends_at page at status = page.whole == at && slice_index page.words 1 == status

-- a count of elements; 249 is more than a row has
unfoldable pub elements_of : ℕ → ℕ
elements_of n = cond (nat_lt n 249) n 249

-- the counts, and the end after lists of n and m words
unfoldable pub head_is : Page → ℕ → ℕ → List ℕ → ℕ → ℕ → Bool
head_is page at status counts n m =
    held (λ x w. x == w) (expected page at (length counts) 0) 0 counts && ends_at page (past_of (past_of (past_of at (length counts)) n) m) status

-- behind the counts a list with `each` words for every one of the first, and starts as many as the second, the rest as it was
unfoldable pub lists_left : {A : Type 0} → (A → ℕ → Bool) → Page → ℕ → ℕ → List ℕ → ℕ → List A → ℕ → List ℕ → Bool
lists_left is page at status counts each xs rest ss =
    let n = elements_of (slice_index counts 0) * each in
    let m = elements_of (slice_index counts 1) in
    let p = past_of at (length counts) in
    head_is page at status counts n m && (held is (expected page p n rest) 0 xs && held (λ x w. x == w) (expected page (past_of p n) m 7) 0 ss)

abbrev pub points_left : Page → ℕ → Said ℕ → List Float → List ℕ → Bool
points_left page at answer ps ss = lists_left same_of page at answer.number answer.values 3 ps 0x4022_0000_0000_0000 ss

abbrev pub numbers_left : Page → ℕ → Said ℕ → List ℕ → List ℕ → Bool
numbers_left page at answer ns ss = lists_left (λ x w. x == w) page at answer.number answer.values 1 ns 7 ss

abbrev pub bytes_left : Page → ℕ → Said ℕ → List ℕ → Bool
bytes_left page at answer bs = lists_left (λ x w. x == w) page at answer.number answer.values 1 bs 7 []

-- An answer of any status and any counts: so many words of the row are its counts, of which the first four are held to it. The lists are
-- as long as the first two say, whether or not the row has these.

-- an accepted call that counted two lists, and a refused one
abbrev pub wrote_of : ℕ → ℕ → Answer
wrote_of p s = record { status = 0; counts = 2; first = p; second = s; third = 0; fourth = 0 }

abbrev pub refused_by : ℕ → Answer
refused_by n = record { status = n; counts = 0; first = 0; second = 0; third = 0; fourth = 0 }

-- count number i of n is x
unfoldable pub count_is : Page → ℕ → ℕ → ℕ → ℕ → Bool
count_is page at n i x = cond (nat_lt i n) (word_of page (past_of at i) == x) true

unfoldable pub counts_are : Page → ℕ → Answer → Bool
counts_are page at a =
    count_is page at a.counts 0 a.first && count_is page at a.counts 1 a.second && count_is page at a.counts 2 a.third
    && count_is page at a.counts 3 a.fourth

unfoldable pub any_head : Page → ℕ → Answer → ℕ → ℕ → Bool
any_head page at a n m = counts_are page at a && ends_at page (past_of (past_of (past_of at a.counts) n) m) a.status

unfoldable pub any_lists : {A : Type 0} → (A → ℕ → Bool) → Page → ℕ → Answer → ℕ → List A → ℕ → List ℕ → Bool
any_lists is page at a each xs rest ss =
    let n = elements_of a.first * each in
    let m = elements_of a.second in
    let p = past_of at a.counts in
    any_head page at a n m && (held is (expected page p n rest) 0 xs && held (λ x w. x == w) (expected page (past_of p n) m 7) 0 ss)

abbrev pub any_points : Page → ℕ → Answer → List Float → List ℕ → Bool
any_points page at a ps ss = any_lists same_of page at a 3 ps 0x4022_0000_0000_0000 ss

abbrev pub any_numbers : Page → ℕ → Answer → List ℕ → List ℕ → Bool
any_numbers page at a ns ss = any_lists (λ x w. x == w) page at a 1 ns 7 ss

-- what scratch that held x holds after a call: zero where it was accepted
unfoldable pub scratch_of : ℕ → ℕ → ℕ
scratch_of status x = cond (status == 0) 0 x
