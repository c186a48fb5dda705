use Rattle.std.proofs.Common.{rules}
use Rattle.occ_tree_grammar.specs.Processes.Views.{program_of}
use Rattle.occ_check_meaning.proofs.WellFormed.{well_formed}
use Rattle.occ_check.specs.CheckRefuses.{CheckRefuses}
use Rattle.occ_check.proofs.WholePrograms.{all_refused, found_unfolds}
use Rattle.occ_check.proofs.program.unfold.Goals as goal

pub returns-in_err-term-clause-refused : goal.returns-in_err-term-clause-refused
returns-in_err-term-clause-refused c =
    let refused : CheckRefuses c.in_err-term.field-0.0 (program_of c.args.program.now) = all_refused c.in_err-term.field-0.0 (program_of c.args.program.now) c.in_err-term.ensures in
    search rules

pub new-requires : goal.new-requires
new-requires c = well_formed (program_of c.args.program.now) _ (found_unfolds (program_of c.args.program.now) c.in_ok-term.term c.in_ok-term.numbers c.in_ok-term.ensures)

pub returns-clause-found : goal.returns-clause-found
returns-clause-found c =
    rw c.new.ensures (found_unfolds (program_of c.args.program.now) c.in_ok-term.term c.in_ok-term.numbers c.in_ok-term.ensures)
