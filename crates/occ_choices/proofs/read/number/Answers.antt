use Rattle.std.proofs.Common.{◌≡◌, ◌∙◌, ◌+◌, ◌*◌, ◌-◌, ◌≤◌, ◌^◌, get_or, length, drop, refl, ap, sym, arith}
use Rattle.std.specs.Str.Parse.{digits_value, digits_value_after}
use Rattle.std.proofs.lemmas.List.{drop_all}
use Rattle.std.proofs.lemmas.Bool.Decides.{nat_tests}
use Rattle.occ_choices.proofs.Digits.{digit_at, digit_least, digit_most, spelled_as, spelled_large, value_grows, value_on}
use Rattle.occ_choices.proofs.read.number.Goals as goal

pub loop-digit-init : goal.loop-digit-init
loop-digit-init c = record { value = refl; small = omega arith }

pub overflow_mul-number : goal.overflow_mul-number
overflow_mul-number c = omega (arith, c.loop-digit.invariant.small)

pub overflow_sub-digit : goal.overflow_sub-digit
overflow_sub-digit c = digit_least _ (digit_at c.args.digits.now c.loop-digit.digit-index c.requires c.loop-digit-test.true)

pub overflow_add-number : goal.overflow_add-number
overflow_add-number c =
    let most : get_or c.args.digits.now c.loop-digit.digit-index 0 ≤ 57 = digit_most _ (digit_at c.args.digits.now c.loop-digit.digit-index c.requires c.loop-digit-test.true) in
    omega (arith, c.loop-digit.invariant.small, c.from.ensures, most)

pub returns-then-number-from : goal.returns-then-number-from
returns-then-number-from c =
    let least : 48 ≤ get_or c.args.digits.now c.loop-digit.digit-index 0 = digit_least _ (digit_at c.args.digits.now c.loop-digit.digit-index c.requires c.loop-digit-test.true) in
    let worth : c.from.result + 48 ≡ get_or c.args.digits.now c.loop-digit.digit-index 0 = omega (arith, c.from.ensures, least) in
    let next : c.loop-digit.number * 10 + c.from.result ≡ c.loop-digit.number * 10 + c.from.result = refl in
    let value : digits_value 10 c.args.digits.now ≡ digits_value_after 10 (c.loop-digit.number * 10 + c.from.result) (drop (c.loop-digit.digit-index + 1) c.args.digits.now) =
    c.loop-digit.invariant.value ∙ value_on c.args.digits.now c.loop-digit.digit-index c.loop-digit.number (c.loop-digit.number * 10 + c.from.result) c.from.result c.requires c.loop-digit-test.true next worth in
    let grows = value_grows (c.loop-digit.number * 10 + c.from.result) (drop (c.loop-digit.digit-index + 1) c.args.digits.now) in
    let large : 2 ^ 32 ≤ digits_value 10 c.args.digits.now = omega (arith, value, grows, c.if-number-from.true, c.from-in-loop-digit.ensures) in
    sym (spelled_large c.args.digits.now large)

pub loop-digit-preserved : goal.loop-digit-preserved
loop-digit-preserved c =
    let least : 48 ≤ get_or c.args.digits.now c.loop-digit.digit-index 0 = digit_least _ (digit_at c.args.digits.now c.loop-digit.digit-index c.requires c.loop-digit-test.true) in
    let worth : c.from.result + 48 ≡ get_or c.args.digits.now c.loop-digit.digit-index 0 = omega (arith, c.from.ensures, least) in
    let next : c.loop-digit.number * 10 + c.from.result ≡ c.loop-digit.number * 10 + c.from.result = refl in
    record {
      value = c.loop-digit.invariant.value ∙ value_on c.args.digits.now c.loop-digit.digit-index c.loop-digit.number (c.loop-digit.number * 10 + c.from.result) c.from.result c.requires c.loop-digit-test.true next worth;
      small = omega (arith, c.if-number-from.false, c.from-in-loop-digit.ensures);
    }

pub overflow_cast-result : goal.overflow_cast-result
overflow_cast-result c = omega (arith, c.loop-digit.invariant.small)

pub returns : goal.returns
returns c =
    let past : length c.args.digits.now ≤ c.loop-digit.digit-index = c.loop-digit-test.false in
    let value : digits_value 10 c.args.digits.now ≡ c.loop-digit.number = c.loop-digit.invariant.value ∙ ap (digits_value_after 10 c.loop-digit.number) (drop_all c.loop-digit.digit-index c.args.digits.now past) in
    let test = c.is_empty.ensures in
    let not_empty = c.if-is_empty.false in
    let some : 1 ≤ length c.args.digits.now = grind (arith, nat_tests) in
    sym (spelled_as c.args.digits.now c.loop-digit.number some (omega (arith, c.if-digits-gt-MOST_DIGITS.false)) value c.loop-digit.invariant.small)
