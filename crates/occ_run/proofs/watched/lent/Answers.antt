use Rattle.std.proofs.Common.{◌≡◌, ◌∙◌, List, [], true, length, IfOk, ap, sym, subst}
use mathlib.Core.List.{IsPrefix}
use Rattle.occ_term.specs.Runs.{Entry, entries}
use Rattle.occ_board.specs.Traces.{publishing}
use Rattle.occ_shown.specs.Answers.{names_of}
use Rattle.occ_run.proofs.Told.{told_is}
use Rattle.occ_run.proofs.watched.lent.Goals as goal

pub returns-then-branch-clause-shown : goal.returns-then-branch-clause-shown
returns-then-branch-clause-shown g c = λ net at.
    let held : List Entry = c.args.publisher.now.published in
    let all : List Entry = c.in_ok-note.note.entries in
    let begins : IsPrefix held all = (subst (λ r. IfOk r (λ n. IsPrefix held n.entries × (n.last ≡ true))) c.in_ok-note.was c.run_told-progress.ensures.noted).0 in
    let told = c.in_ok-is_shown.ensures.0 c.if-branch.true in
    let named = ap (λ cs. entries (names_of cs) 1 c.trace.result.now) c.channels-2.ensures in
    let traced = ap (λ xs. entries (names_of c.args.code.now.channels) 1 xs) (sym (c.trace.ensures net at)) in
    c.in-Some.ensures.closed ∙ ap (λ (l : List Entry). publishing l [] true) (told_is held all c.in-Some.told.now _ _ begins (ap length c.published-held.ensures) c.in-Some.ensures.told (told ∙ named ∙ traced))
