use Rattle.occ_program.proofs.Statuses.{looked_or_played, searched_status}
use Rattle.occ_program.proofs.program.search_or_run.Goals as goal

pub returns-in-Some-clause-came : goal.returns-in-Some-clause-came
returns-in-Some-clause-came g c = searched_status _ _ c.explore_words.result c.requires.alone c.in-Some.is c.explore_words.ensures.came

pub returns-in-None-clause-came : goal.returns-in-None-clause-came
returns-in-None-clause-came g c = looked_or_played _ c.look_or_run.result c.requires.alone c.in-None.is c.look_or_run.ensures.looked c.look_or_run.ensures.played
