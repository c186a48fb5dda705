use Rattle.occ_program.proofs.Terminals.{unneeded}
use Rattle.occ_program.proofs.reading.is_wanted.Goals as goal

pub returns : goal.returns
returns g c = λ none. unneeded c.options_of.result _ c.args.source.now c.options_of.ensures (c.may_input.ensures none)
