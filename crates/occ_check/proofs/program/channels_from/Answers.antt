use Rattle.std.proofs.Common.{arith, rules}
use Rattle.occ_check.proofs.MainProcess.{channels_end, channels_next}
use Rattle.occ_check.proofs.program.channels_from.Goals as goal

pub loop-name-preserved : goal.loop-name-preserved
loop-name-preserved c = (
  omega arith,
  channels_next c.args.names.now c.loop-name.name-index c.name-item.result c.loop-name.all.items c.push.new.self.items c.in_ok-new.field-0 c.loop-name-test.true c.name-item.is c.loop-name.invariant.1
      c.in_ok-push.ensures.items (search rules),
)

pub returns : goal.returns
returns c = channels_end c.args.names.now c.loop-name.name-index c.loop-name.all.items c.loop-name-test.false c.loop-name.invariant.1
