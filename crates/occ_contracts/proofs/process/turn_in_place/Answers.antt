use Rattle.std.proofs.Common.{◌∙◌}
use Rattle.occ_contracts.proofs.Turning.{comes_to}
use Rattle.occ_contracts.proofs.process.turn_in_place.Goals as goal

pub returns : goal.returns
returns c = comes_to c.args.segment.now _ _ _ _ (c.deref.ensures ∙ c.body.ensures) c.requires.same c.after.ensures.turn c.advance.ensures
