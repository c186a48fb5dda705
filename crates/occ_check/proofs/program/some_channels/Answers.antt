use Rattle.std.proofs.Common.{rules}
use Rattle.occ_check.proofs.MainProcess.{first_refused, many_refused, names_end, names_next, names_refused}
use Rattle.occ_check.proofs.program.some_channels.Goals as goal

pub returns-then-len-gt2 : goal.returns-then-len-gt2
returns-then-len-gt2 c = many_refused c.args.formals.now.name c.args.formals.now.spec c.args.formals.now.others.items (search rules)

pub returns-then-not-is_byte_channel : goal.returns-then-not-is_byte_channel
returns-then-not-is_byte_channel c = first_refused c.args.formals.now.name c.args.formals.now.spec c.args.formals.now.others.items (search rules)

pub returns-then-not-is_byte_channel-2 : goal.returns-then-not-is_byte_channel-2
returns-then-not-is_byte_channel-2 c =
    names_refused c.args.formals.now.name c.args.formals.now.spec c.args.formals.now.others.items c.loop-formal.formal-index c.loop-formal.names c.loop-formal.before.now c.spec_after-before.result.now
    c.formal-item.result (search rules) (search rules) (rw c.deref-formal-items.ensures.value at c.loop-formal.invariant) c.spec_after-before.ensures (search rules)

pub loop-formal-preserved : goal.loop-formal-preserved
loop-formal-preserved c =
    names_next c.args.formals.now.name c.args.formals.now.spec c.deref-formal-items.result.now c.loop-formal.formal-index c.loop-formal.names c.loop-formal.before.now c.spec_after-before.result.now
    c.formal-item.result c.loop-formal-test.true c.formal-item.is c.loop-formal.invariant c.spec_after-before.ensures (search rules) c.push-in-loop-formal.new.self (search rules)

pub returns : goal.returns
returns c =
    names_end c.args.formals.now.name c.args.formals.now.spec c.args.formals.now.others.items c.loop-formal.formal-index c.loop-formal.names c.loop-formal.before.now
    (search rules) (search rules) (search rules) (rw c.deref-formal-items.ensures.value at c.loop-formal.invariant)
