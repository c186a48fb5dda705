use Rattle.std.proofs.Common.{ap, map, ◌∙◌}
use Rattle.occ_check_lines.specs.View.{evaluated_of}
use Rattle.occ_check_lines.proofs.Leaving.{joined_seen}
use Rattle.occ_check_lines.proofs.reading.joined.Goals as goal

pub returns : goal.returns
returns c = joined_seen _ _ _ _ c.in_ok-append.ensures (c.in_ok-all.ensures ∙ ap (map evaluated_of) c.as_slice.ensures)
