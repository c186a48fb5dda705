use Rattle.std.proofs.Common.{◌≡◌, ◌∙◌, List, [], ◌∷◌, ◌++◌, Bool, false, drop, ap}
use Rattle.occ_term.specs.Runs.{Entry}
use Rattle.occ_board.specs.declared.trace.Change.{Change}
use Rattle.occ_board.specs.declared.trace.Change.TheVariants.{Show}
use Rattle.occ_board.specs.Traces.{added, publishing}
use Rattle.occ_board.proofs.Orders.{added_append, ahead_more}
use Rattle.occ_board.proofs.publisher.Publisher.append.Goals as goal

pub invariant_of-self : goal.invariant_of-self
invariant_of-self g c =
    let old = c.self.inside.writer in
    let shown = old.desk.shown.value in
    let pending : List Change = drop old.behind old.log.items in
    let more = ap added c.in_default.ensures.pending ∙ added_append pending (Show c.args.shown ∷ []) in
    let going : c.self.inside.front.edition.last ≡ false = ap (λ p. p.closed) c.self.view_is ∙ c.requires in
    (c.self.invariant.0, rw (c.append.ensures.desk, more) (ahead_more _ shown.entries.items (added pending) (c.args.shown ∷ []) shown.front c.self.inside.front c.self.invariant.1), λ last. absurd (cc (last, going)))

pub returns-in_default : goal.returns-in_default
returns-in_default g c =
    let now = c.args.self.now in
    let old = c.self.inside.writer in
    let new = c.append.new.self in
    let pending : List Change = drop old.behind old.log.items in
    let waiting : List Entry = added (drop new.behind new.log.items) in
    let last = c.self.inside.front.edition.last in
    let published = ap (λ d. d.shown.value.entries.items) c.append.ensures.desk ∙ ap (λ p. p.published) c.self.view_is in
    let more : waiting ≡ now.pending ++ c.args.shown ∷ [] =
    ap added c.in_default.ensures.pending ∙ (added_append pending (Show c.args.shown ∷ []) ∙ ap (λ p. p.pending ++ c.args.shown ∷ []) c.self.view_is) in
    let going : last ≡ false = ap (λ p. p.closed) c.self.view_is ∙ c.requires in
    ap (λ (l : List Entry). publishing l waiting last) published
    ∙ (ap (λ (l : List Entry). publishing now.published l last) more ∙ ap (λ (b : Bool). publishing now.published (now.pending ++ c.args.shown ∷ []) b) going)
