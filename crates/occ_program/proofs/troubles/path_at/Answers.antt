use Rattle.occ_program.proofs.Paths.{found, none_found}
use Rattle.occ_program.proofs.troubles.path_at.Goals as goal

pub returns-in-Some : goal.returns-in-Some
returns-in-Some c = found c.args.paths.now c.args.place c.in-Some.path.now c.in-Some.ensures.lookup.3.0 c.in-Some.ensures.lookup.1

pub returns-in-None : goal.returns-in-None
returns-in-None c = none_found c.args.paths.now c.args.place c.in-None.ensures.lookup.3
