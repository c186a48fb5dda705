use Rattle.std.proofs.Common.{List, ap, ◌∙◌}
use Rattle.occ_term.specs.Uses.{uses_of, with_use}
use Rattle.occ_usage.specs.Noted.{uses_in}
use Rattle.occ_term.specs.View.{term_of}
use Rattle.occ_usage.specs.declared.noted.Use.{Use}
use Rattle.occ_usage.proofs.checked.term_uses.Goals as goal

pub returns : goal.returns
returns c = c.in_ok-note_term.ensures.adds.is ∙ ap (λ (us : List Use). with_use (uses_in us) (uses_of (term_of c.args.term.now))) c.new-noted.ensures
