use Rattle.occ_usage.proofs.UseSets.{adds_before}
use Rattle.occ_usage.proofs.heads.note_assignment.Goals as goal

pub returns : goal.returns
returns c = adds_before c.in_ok-note_targets.ensures c.in_ok-note_items.ensures
