use Rattle.occ_run.proofs.Gathered.{run_of}
use Rattle.occ_run.proofs.run.outcome_of.Goals as goal

pub returns-in-Ok-clause-run : goal.returns-in-Ok-clause-run
returns-in-Ok-clause-run c = λ p keyboard limit g. run_of p keyboard limit c.args.network c.in-Ok.outcome g c.in-Ok.ensures.network c.in-Ok.ensures.choices c.in-Ok.ensures.shows
