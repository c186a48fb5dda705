use Rattle.occ_usage.proofs.UseSets.{adds_then}
use Rattle.occ_usage.proofs.heads.note_output_of.Goals as goal

pub returns : goal.returns
returns c = adds_then c.in_ok-note_output.ensures c.in_ok-note_items.ensures
