-- `floor` meets its contract: the two tests say that the magnitude is below 2 ^ 53, so the value's whole part is an i64 and a float, and the third test says on which side of it the value lies.
use Rattle.std.proofs.Common.{◌≡◌, T, pos, ◌-ℤ◌, sym, ◌∙◌, w64, to_z, of_z}
use lib.Ieee.{of_bits, neg, to_signed}
use mir.ValLaws.{to_z-of_z}
use Rattle.vector.proofs.Floors.{small, small_of, in_range, holds, one_less, cut-le, goes_down, stays, refuse_low, refuse_high}
use Rattle.vector.proofs.number.floor.Goals as goal

pub truncating_f64_to_i64-t-requires : goal.truncating_f64_to_i64-t-requires
unfolding of_bits neg
truncating_f64_to_i64-t-requires c =
    let h : T (small c.args.x) = small_of c.args.x c.if-x.true c.if-x-2.true in
    let k = in_range c.args.x h in
    record { lower_bound = k.0; upper_bound = k.1 }

pub int_to_float-t : goal.int_to_float-t
unfolding of_bits neg
int_to_float-t c = rw (let reads_back : to_z w64 (of_z w64 c.truncating_f64_to_i64-t.result) ≡ to_signed 63 c.args.x = to_z-of_z w64 c.truncating_f64_to_i64-t.result (record { sfits = c.truncating_f64_to_i64-t.type_inv }) ∙ c.truncating_f64_to_i64-t.ensures in reads_back) (holds _ (cut-le _ (let is_small : T (small c.args.x) = small_of c.args.x c.if-x.true c.if-x-2.true in is_small)))

pub overflow_sub-result : goal.overflow_sub-result
unfolding of_bits neg
overflow_sub-result c =
    let x = c.args.x in
    rw (let reads_back : to_z w64 (of_z w64 c.truncating_f64_to_i64-t.result) ≡ to_signed 63 c.args.x = to_z-of_z w64 c.truncating_f64_to_i64-t.result (record { sfits = c.truncating_f64_to_i64-t.type_inv }) ∙ c.truncating_f64_to_i64-t.ensures in reads_back) (one_less (to_signed 63 x) (cut-le x (let is_small : T (small c.args.x) = small_of c.args.x c.if-x.true c.if-x-2.true in is_small)))

pub returns-then-x-t : goal.returns-then-x-t
unfolding of_bits neg
returns-then-x-t c =
    let x = c.args.x in
    let h = (let is_small : T (small c.args.x) = small_of c.args.x c.if-x.true c.if-x-2.true in is_small) in
    let b = (let reads_back : to_z w64 (of_z w64 c.truncating_f64_to_i64-t.result) ≡ to_signed 63 c.args.x = to_z-of_z w64 c.truncating_f64_to_i64-t.result (record { sfits = c.truncating_f64_to_i64-t.type_inv }) ∙ c.truncating_f64_to_i64-t.ensures in reads_back) in
    rw (b, to_z-of_z w64 (to_signed 63 x -ℤ pos 1) (one_less (to_signed 63 x) (cut-le x h))) (sym (goes_down x h (rw b at c.if-x-t.true)))

pub returns-then-x-2 : goal.returns-then-x-2
unfolding of_bits neg
returns-then-x-2 c =
    let x = c.args.x in
    let h = (let is_small : T (small c.args.x) = small_of c.args.x c.if-x.true c.if-x-2.true in is_small) in
    let b = (let reads_back : to_z w64 (of_z w64 c.truncating_f64_to_i64-t.result) ≡ to_signed 63 c.args.x = to_z-of_z w64 c.truncating_f64_to_i64-t.result (record { sfits = c.truncating_f64_to_i64-t.type_inv }) ∙ c.truncating_f64_to_i64-t.ensures in reads_back) in
    rw b (sym (stays x h (rw b at c.if-x-t.false)))

pub returns-else-x-2 : goal.returns-else-x-2
unfolding of_bits neg
returns-else-x-2 c = sym (refuse_high c.args.x c.if-x-2.false)

pub returns-else-x : goal.returns-else-x
unfolding of_bits neg
returns-else-x c = sym (refuse_low c.args.x c.if-x.false)
