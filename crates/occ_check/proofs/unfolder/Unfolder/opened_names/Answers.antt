use Rattle.std.proofs.Common.{◌∙◌, ap}
use Rattle.occ_check_lines.specs.Declaration.{pairs_of}
use Rattle.occ_check.specs.Progress.{innermost_at}
use Rattle.occ_check.specs.Weights.{weight}
use Rattle.occ_check.proofs.Weights.{same_weight}
use Rattle.occ_check.proofs.unfolder.Unfolder.opened_names.Goals as goal

pub returns-clause-weight : goal.returns-clause-weight
returns-clause-weight c = ap weight c.in_ok-enter.ensures.scope ∙ same_weight (pairs_of c.args.opened.names.items) (innermost_at c.args.self.now)
