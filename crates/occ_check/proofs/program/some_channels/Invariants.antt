use Rattle.occ_check.proofs.MainProcess.{Names}
use Rattle.occ_check.proofs.program.some_channels.Given as goal

abbrev pub invariant-loop-formal : goal.invariant-loop-formal
invariant-loop-formal l = Names l.formals.name l.formals.spec l.formal-items l.formal-index l.names l.before
