use Rattle.std.proofs.Common.{subst, sym}
use Rattle.std.proofs.lemmas.Option.{get_or_from_slice_get}
use Rattle.std.specs.Option.{IfNone}
use Rattle.occ_net_tables.specs.Kept.{communications_from}
use Rattle.occ_net_tables.specs.Passing.{AreElsewhere}
use Rattle.occ_net_tables.proofs.Passing.{elsewhere_read, passed_elsewhere, passes_to}
use Rattle.occ_net_tables.proofs.trace_entries.Entries.next_on.Goals as goal

pub returns-in_err-place-clause-none : goal.returns-in_err-place-clause-none
returns-in_err-place-clause-none c =
    let none = elsewhere_read c.args.chan c.self.inside.heads.now c.self.inside.pieces.shapes.now c.self.inside.pieces.lengths.now c.self.inside.pieces.words.now c.in_err-place.ensures.none in
    subst (λ r. IfNone r (AreElsewhere c.args.chan c.args.self.now)) (sym c.from_residual.ensures) (subst (AreElsewhere c.args.chan) c.self.view_is none)

pub returns-clause-some : goal.returns-clause-some
returns-clause-some c =
    let heads = c.self.inside.heads.now in
    let p = c.self.inside.pieces in
    let place = c.in_ok-place.place in
    let first = c.in_ok-place.ensures.some in
    let q = c.behind_several-pieces.result in
    let left = c.behind-self-inside-2.ensures in
    passes_to c.args.chan heads (communications_from heads p) c.args.self.now place first _ q.shapes.now q.lengths.now q.words.now _ _ _ _
    (get_or_from_slice_get heads place first.head _ first.at) (c.behind_several-pieces.ensures heads) (passed_elsewhere c.args.chan heads place p.shapes.now p.lengths.now p.words.now first.elsewhere)
    c.self.view_is c.behind-self-inside.ensures left.shapes left.lengths left.words
