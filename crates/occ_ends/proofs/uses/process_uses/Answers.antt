use Rattle.std.specs.Prelude.{reverse}
use Rattle.std.proofs.Common.{◌≡◌, ◌++◌, ◌∙◌, map, ap}
use Rattle.occ_term.specs.Processes.{processes_of}
use Rattle.occ_term.specs.View.{term_of}
use Rattle.occ_ends.specs.Ends.{ListsUses, noted_for}
use Rattle.occ_ends.proofs.Listing.{lists_then}
use Rattle.occ_ends.proofs.uses.process_uses.Goals as goal

pub returns : goal.returns
returns c =
    let all : ListsUses c.new-list.result.items (processes_of (term_of c.args.term.now)) c.add_process.new.list.items = lists_then c.in_ok-add_branches.ensures c.in_ok-add_process.ensures in
    let whole : c.add_process.new.list.items ≡ all.more = all.added ∙ ap (λ l. l ++ all.more) c.new-list.ensures.items in
    ap (map noted_for) (c.reverse.ensures.items ∙ ap reverse whole) ∙ all.are
