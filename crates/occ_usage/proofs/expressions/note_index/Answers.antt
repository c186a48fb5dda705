use Rattle.std.proofs.Common.{sym, ◌∙◌, ap}
use Rattle.occ_term.specs.Uses.{writing, numbers_in}
use Rattle.occ_term.specs.Values.{span}
use Rattle.occ_usage.proofs.UseSets.{adds_as, only_between}
use Rattle.occ_usage.proofs.expressions.note_index.Goals as goal

pub returns : goal.returns
returns c = adds_as c.in_ok-note_span.ensures (ap (λ n. writing (numbers_in (span n 1))) c.from.ensures ∙ ap writing (sym (only_between c.args.index)))
