use Rattle.std.proofs.Common.{sym, ◌∙◌, ap}
use Rattle.occ_term.specs.Uses.{reading, numbers_in}
use Rattle.occ_term.specs.Values.{span}
use Rattle.occ_usage.proofs.UseSets.{adds_as, only_between}
use Rattle.occ_usage.proofs.expressions.note_cell.Goals as goal

pub returns : goal.returns
returns c = adds_as c.in_ok-note_span.ensures (ap (λ n. reading (numbers_in (span n 1))) c.from.ensures ∙ ap reading (sym (only_between c.args.cell)))
