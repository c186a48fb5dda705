use Rattle.occ_term.specs.View.{expression_of}
use Rattle.occ_term.proofs.TypedValues.{can_be_bounded}
use Rattle.occ_term.proofs.value.value_of.Goals as goal

pub evaluate-requires : goal.evaluate-requires
evaluate-requires c = can_be_bounded (expression_of c.args.e.now) c.args.frame.now c.requires
