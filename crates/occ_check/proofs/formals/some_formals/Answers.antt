use Rattle.std.proofs.Common.{map, rules, ◌∙◌, ap}
use Rattle.occ_tree_grammar.specs.Lines.Views as lines
use Rattle.occ_check_meaning.specs.Calls.{formal_names}
use Rattle.occ_check.specs.Call.{formals_of}
use Rattle.occ_check_lines.specs.View.{names_in}
use Rattle.occ_check.proofs.Calls.{list_stops, twice_stops}
use Rattle.occ_check.proofs.formals.some_formals.Goals as goal

pub returns-in_err-all : goal.returns-in_err-all
returns-in_err-all c =
    let fs = c.args.formals.now in
    let r = list_stops (names_in c.args.context.scope) c.args.context.line (lines.spec_of fs.spec) fs.name (map lines.formal_of fs.others.items) c.in_err-all.field-0.0 c.in_err-all.ensures in
    search rules

pub returns-in_err-once : goal.returns-in_err-once
returns-in_err-once c =
    let fs = c.args.formals.now in
    let same = c.as_slice.ensures ∙ c.in_ok-names.ensures ∙ ap (λ xs. formal_names (formals_of xs)) c.deref.ensures.value in
    let r =
    twice_stops (names_in c.args.context.scope) c.args.context.line (lines.spec_of fs.spec) fs.name (map lines.formal_of fs.others.items) (formals_of c.in_ok-all.all.items)
    c.as_slice.result.now c.in_err-once.field-0.0 c.in_ok-all.ensures same c.in_err-once.ensures in
    search rules
