use Rattle.std.proofs.Common.{get_or, refl}
use Rattle.occ_shown.specs.Json.{escaped, escaped_byte}
use Rattle.occ_shown.proofs.Texts.{IsText, text_step, get_or_self}
use Rattle.occ_shown.proofs.json_values.write_escaped.Goals as goal

pub loop-i-preserved : goal.loop-i-preserved
loop-i-preserved c =
    let text : IsText escaped_byte escaped = record { none = refl; more = λ x xs. refl } in
    text_step text c.args.bytes.now c.loop-i.i (get_or c.args.bytes.now c.loop-i.i 0) c.loop-i-test.true (get_or_self c.args.bytes.now c.loop-i.i 0 c.loop-i-test.true) c.args.out.now.items c.loop-i.out.items _ c.loop-i.invariant c.in_ok-write_byte.ensures
