use Rattle.std.proofs.Common.{subst}
use Rattle.occ_program.specs.Trying.{TellsEnd}
use Rattle.occ_program.proofs.seeding.ends_by.Goals as goal

pub returns-clause-ends : goal.returns-clause-ends
returns-clause-ends c = subst (TellsEnd c.ends_on.result c.args.options.now c.args.source.now c.args.keyboard.now) c.in_ok-plan.ensures c.ends_on.ensures.ends
