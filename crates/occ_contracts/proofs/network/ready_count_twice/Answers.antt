use Rattle.std.proofs.Common.{◌∙◌, sym, subst}
use Rattle.occ_net.specs.Networks.{IsState}
use Rattle.occ_contracts.proofs.network.ready_count_twice.Goals as goal

pub returns : goal.returns
returns c =
    let n = c.replayed.ensures in
    let other = subst (λ m. IsState m n.net) (sym c.requires) n.state in
    let one = c.ready_count.ensures n.net n.state in
    let two = c.ready_count-2.ensures n.net other in
    one ∙ sym two
