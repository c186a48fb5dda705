use Rattle.std.proofs.lemmas.Result.{err_from_is_err_and}
use Rattle.occ_text.specs.Reading.{char_at, chars_from}
use Rattle.occ_text.proofs.Steps.{fails_along, char_is_less, chars_end, chars_close, chars_go_on, chars_fail}
use Rattle.occ_text.proofs.literal.characters.Goals as goal

pub returns-then-first-eq34-clause-value : goal.returns-then-first-eq34-clause-value
returns-then-first-eq34-clause-value c = chars_close c.loop-rest.text.items c.loop-rest.rest.now (chars_from 0 c.args.bytes.now) c.loop-rest.invariant c.in-len1-up.len_at_least c.if-first-eq34.true

pub returns-in_err-byte-clause-value : goal.returns-in_err-byte-clause-value
returns-in_err-byte-clause-value c =
    let p = err_from_is_err_and c.from_residual.result c.from_residual.ensures.1 in
    rw (p.1, p.2) (fails_along c.in_err-byte.field-0.0 (char_at 34 c.loop-rest.rest.now) (chars_from 0 c.args.bytes.now) (chars_fail c.loop-rest.text.items c.loop-rest.rest.now (chars_from 0 c.args.bytes.now) c.loop-rest.invariant c.if-first-eq34.false) c.in_err-byte.ensures.value)

pub loop-rest-smaller : goal.loop-rest-smaller
loop-rest-smaller c = char_is_less c.loop-rest.rest.now c.in_ok-byte.byte c.in_ok-byte.after.now c.in_ok-byte.ensures.value

pub loop-rest-preserved : goal.loop-rest-preserved
loop-rest-preserved c = rw c.in_ok-push.ensures.items (chars_go_on c.loop-rest.text.items c.loop-rest.rest.now (chars_from 0 c.args.bytes.now) c.loop-rest.invariant c.in_ok-byte.byte c.in_ok-byte.after.now c.in_ok-byte.ensures.value)

pub returns-clause-value : goal.returns-clause-value
returns-clause-value c = chars_end c.loop-rest.text.items c.loop-rest.rest.now (chars_from 0 c.args.bytes.now) c.loop-rest.invariant c.in_default.len_below
