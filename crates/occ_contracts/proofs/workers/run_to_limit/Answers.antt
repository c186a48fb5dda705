use Rattle.occ_contracts.proofs.Gathering.{whole_unless_ended}
use Rattle.occ_contracts.proofs.workers.run_to_limit.Goals as goal

pub returns-in-Ok-clause-whole : goal.returns-in-Ok-clause-whole
returns-in-Ok-clause-whole g c = whole_unless_ended c.args.code.now c.args.keyboard.now c.args.limit c.in-Ok.network c.ending.result c.choices.result.now c.choices.ensures c.in-Ok.ensures.run c.ending.ensures
