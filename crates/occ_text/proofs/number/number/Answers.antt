use Rattle.std.proofs.Common.{◌≡◌, get_or, take, arith, ◌∙◌, ap}
use Rattle.std.proofs.lemmas.List.{take_all}
use Rattle.occ_text.specs.Spelling.{value, digit_of}
use Rattle.occ_text.proofs.Numbers.{value_so_far}
use Rattle.occ_text.proofs.number.number.Goals as goal

pub returns-in_err-checked_mul : goal.returns-in_err-checked_mul
returns-in_err-checked_mul c =
    let now : c.loop-byte.number ≡ value c.args.base (take c.loop-byte.byte-index c.args.digits.now) = c.loop-byte.invariant.0 in
    let far = rw (← now) at (value_so_far c.args.base c.args.digits.now c.loop-byte.byte-index c.requires c.loop-byte-test.true) in
    rw c.from_residual.ensures (λ lt. c.in_err-checked_mul.ensures (omega (arith, far, lt)))

pub returns-in_err-number : goal.returns-in_err-number
returns-in_err-number c =
    let now : c.loop-byte.number ≡ value c.args.base (take c.loop-byte.byte-index c.args.digits.now) = c.loop-byte.invariant.0 in
    let far = rw (← now) at (value_so_far c.args.base c.args.digits.now c.loop-byte.byte-index c.requires c.loop-byte-test.true) in
    let digit : c.from.result ≡ digit_of (get_or c.args.digits.now c.loop-byte.byte-index 0) = c.from.ensures ∙ c.digit.ensures.value in
    let tens = c.in_ok-checked_mul.ensures.1 in
    rw c.from_residual-in_err-number.ensures (λ lt. c.in_err-number.ensures (omega (arith, far, lt, digit, tens)))

pub returns : goal.returns
returns c =
    let whole : take c.loop-byte.byte-index c.args.digits.now ≡ c.args.digits.now = take_all c.loop-byte.byte-index c.args.digits.now c.loop-byte-test.false in
    let same : c.loop-byte.number ≡ value c.args.base c.args.digits.now = c.loop-byte.invariant.0 ∙ ap (value c.args.base) whole in
    (omega (arith, same, c.loop-byte.invariant.1), same)
