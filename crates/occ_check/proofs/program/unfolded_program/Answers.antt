use Rattle.std.proofs.Common.{◌≡◌, Some, rules}
use Rattle.occ_tree_grammar.specs.Processes.Views.{program_of}
use Rattle.occ_term.specs.View.{term_of}
use Rattle.occ_check_meaning.specs.Programs as programs
use Rattle.occ_check_lines.specs.Declaration.{pairs_of}
use Rattle.occ_check.specs.Program.{main_in}
use Rattle.occ_check_lines.specs.View.{Refuses, numbers_of}
use Rattle.occ_check.proofs.WholePrograms.{at_nowhere, body_done, body_refused}
use Rattle.occ_check.proofs.program.unfolded_program.Goals as goal

pub returns-in_err-term : goal.returns-in_err-term
returns-in_err-term c =
    let found : programs.main_of (program_of c.args.program.now) ≡ Some (main_in c.in_ok-main.main) = rw c.deref.ensures.value at c.in_ok-main.ensures in
    let are = rw c.as_slice.ensures at c.in_ok-names-2.ensures in
    let refused : Refuses c.in_err-term.field-0.0 (programs.program_unfolded (program_of c.args.program.now)) =
    body_refused (program_of c.args.program.now) (main_in c.in_ok-main.main) found c.in_ok-names.names c.in_ok-names.ensures (pairs_of c.in_ok-names-2.names.items) are
    _ (numbers_of c.in_ok-at_start.field-0) (at_nowhere c.new.result.blocks.items _ c.new.ensures) c.in_ok-at_start.ensures c.in_err-term.field-0.0 c.in_err-term.ensures in
    search rules

pub returns : goal.returns
returns c =
    let found : programs.main_of (program_of c.args.program.now) ≡ Some (main_in c.in_ok-main.main) = rw c.deref.ensures.value at c.in_ok-main.ensures in
    let are = rw c.as_slice.ensures at c.in_ok-names-2.ensures in
    body_done (program_of c.args.program.now) (main_in c.in_ok-main.main) found c.in_ok-names.names c.in_ok-names.ensures (pairs_of c.in_ok-names-2.names.items) are
    _ (numbers_of c.in_ok-at_start.field-0) (at_nowhere c.new.result.blocks.items _ c.new.ensures) c.in_ok-at_start.ensures (term_of c.in_ok-term.term, numbers_of c.behind_items.new.unfolder.numbers) c.in_ok-term.ensures
