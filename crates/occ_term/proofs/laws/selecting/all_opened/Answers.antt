use Rattle.occ_term.proofs.AllOpened.{all_opened}
use Rattle.occ_term.proofs.laws.selecting.all_opened.Goals as goal

pub returns : goal.returns
returns c = all_opened
