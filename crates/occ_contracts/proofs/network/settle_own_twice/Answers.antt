use Rattle.occ_contracts.proofs.Networks.{both_settled, both_spent}
use Rattle.occ_contracts.proofs.network.settle_own_twice.Goals as goal

pub returns-clause-left : goal.returns-clause-left
returns-clause-left c =
    let n = c.replayed.ensures in
    both_settled c.args.one.now n.net n.state c.args.pick c.args.segment _ c.requires.network _ c.requires.segment _ _ _ _ c.settle_own.ensures.settled c.settle_own-2.ensures.settled

pub returns-clause-spent : goal.returns-clause-spent
returns-clause-spent c = both_spent c.args.segment _ c.requires.segment _ _ c.settle_own.ensures.spent c.settle_own-2.ensures.spent
