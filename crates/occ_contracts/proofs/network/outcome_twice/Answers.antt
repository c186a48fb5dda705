use Rattle.occ_contracts.proofs.Networks.{came_to_same}
use Rattle.occ_contracts.proofs.network.outcome_twice.Goals as goal

pub returns-clause-given : goal.returns-clause-given
returns-clause-given c =
    let n = c.replayed.ensures in
    let one = c.into_outcome.ensures in
    let other = c.into_outcome-2.ensures in
    came_to_same c.args.one _ n.net n.state c.requires _ _ one.network one.choices one.shows one.refused other.network other.choices other.shows other.refused
