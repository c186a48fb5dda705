use Rattle.std.proofs.Common.{sym}
use Rattle.occ_term.proofs.FrameWrites.{counter_read}
use Rattle.occ_term.proofs.frame.counter_at.Goals as goal

pub returns : goal.returns
returns c = sym (counter_read c.args.counters.now c.args.slot)
