use Rattle.occ_play.proofs.Headline.{answers_are_of_runs}
use Rattle.occ_play.proofs.laws.answers_are_of_runs.Goals as goal

pub returns : goal.returns
returns c = answers_are_of_runs
