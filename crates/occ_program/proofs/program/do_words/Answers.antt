use Rattle.occ_program.proofs.Statuses.{compared_status}
use Rattle.occ_program.proofs.program.do_words.Goals as goal

pub returns-in-Some-clause-came : goal.returns-in-Some-clause-came
returns-in-Some-clause-came g c = compared_status _ _ c.keep_words.result c.in-Some.is c.keep_words.ensures.came
