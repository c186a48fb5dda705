use Rattle.std.proofs.Common.{◌∙◌, sym, subst}
use Rattle.occ_net.specs.Networks.{IsState}
use Rattle.occ_contracts.proofs.network.trace_twice.Goals as goal

pub returns : goal.returns
returns c =
    let n = c.replayed.ensures in
    sym (c.trace.ensures n.net n.state) ∙ c.trace-2.ensures n.net (subst (λ m. IsState m n.net) (sym c.requires) n.state)
