use Rattle.occ_usage.proofs.UseSets.{adds_then}
use Rattle.occ_usage.proofs.heads.note_input_to.Goals as goal

pub returns : goal.returns
returns c = adds_then c.in_ok-note_input.ensures c.in_ok-note_targets.ensures
