use Rattle.std.proofs.Common.{◌∙◌, sym, ap, subst}
use Rattle.occ_net.specs.Networks.{IsState, Past}
use Rattle.occ_net_replay.specs.Replay.{ending_of}
use Rattle.occ_contracts.proofs.network.ending_twice.Goals as goal

pub returns : goal.returns
returns c =
    let n = c.replayed.ensures in
    let other = subst (λ m. IsState m n.net) (sym c.requires) n.state in
    let one = c.ending.ensures n.net n.state in
    let two = c.ending-2.ensures n.net other in
    one ∙ ap (λ (m : Past). ending_of m.program.errors n.net) (sym c.requires) ∙ sym two
