use Rattle.std.proofs.Common.{◌≡◌, ◌∙◌, List, [], ◌∷◌, ◌++◌, drop, fold, sym, ap, subst}
use Rattle.std.proofs.lemmas.List.{append-nil}
use Rattle.occ_board.specs.declared.trace.Change.{Change}
use Rattle.occ_board.specs.declared.trace.Change.TheVariants.{Reach}
use Rattle.occ_board.specs.Traces.{applied_to, added}
use Rattle.occ_board.proofs.Orders.{applies, added_append, at_err, steps}
use Rattle.occ_board.proofs.publisher.show.Goals as goal

pub publish_as-writer-requires : goal.publish_as-writer-requires
publish_as-writer-requires g c next is views k at =
    let old = c.args.writer in
    let shown = c.append.new.self.desk.shown.value in
    let pending : List Change = drop old.behind old.log.items in
    let desk = c.append.ensures.desk in
    let state = is ∙ (ap (λ (cs : List Change). fold applied_to (shown.entries.items, shown.front) cs) c.in-Ok.ensures.pending ∙ applies shown.entries.items shown.front pending c.args.next) in
    let entries : next.entries.items ≡ shown.entries.items ++ added pending = ap (λ t. t.0) state in
    let front : next.front ≡ c.args.next = ap (λ t. t.1) state in
    let whole : c.args.next.edition.entries ≡ shown.entries.items ++ added pending = c.requires.1 ∙ ap (λ d. d.shown.value.entries.items ++ added pending) (sym desk) in
    steps _ g.J.Naming.may _ _ shown.entries.items next.entries.items shown.front next.front (added pending, sym entries) (ap (λ f. f.book) front ∙ c.requires.0)
    (ap (λ f. f.edition.entries) front ∙ (whole ∙ sym entries)) (subst g.J.Naming.may (sym c.requires.1 ∙ (whole ∙ sym entries)) c.requires.2) views k at

pub returns-in_default-published-clause-kept : goal.returns-in_default-published-clause-kept
returns-in_default-published-clause-kept g c failed =
    let kept = at_err _ _ _ _ c.in_default-published.is c.publish_as-writer.ensures.values in kept.0 ∙ ap (λ d. d.shown.value) c.append.ensures.desk

pub returns-in_default-published-clause-pending : goal.returns-in_default-published-clause-pending
returns-in_default-published-clause-pending g c failed =
    let old = c.args.writer in
    let pending : List Change = drop old.behind old.log.items in
    let kept = at_err _ _ _ _ c.in_default-published.is c.publish_as-writer.ensures.values in
    ap added kept.1 ∙ (ap added c.in-Ok.ensures.pending ∙ (added_append pending (Reach c.args.next ∷ []) ∙ append-nil (added pending)))
