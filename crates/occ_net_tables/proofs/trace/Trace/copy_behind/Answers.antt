use Rattle.std.proofs.Common.{◌∙◌, ap, drop}
use Rattle.occ_net_tables.specs.Flat.{communications_in}
use Rattle.occ_net_tables.specs.Kept.{kept_in}
use Rattle.occ_net_tables.specs.TracePlaces.{Place}
use Rattle.occ_net_tables.proofs.ReadLists.{behind_read, on_ok}
use Rattle.occ_net_tables.proofs.trace.Trace.copy_behind.Goals as goal

pub returns : goal.returns
returns c =
    let l = c.self.inside.lists in
    let m = c.args.mark.now in
    on_ok c.take.result c.take.ensures.heads
    (λ taken before after is at.
    taken
    ∙ ap (λ (p : Place). communications_in (drop p.heads l.heads.items) (drop p.shapes l.shapes.items) (drop p.lengths l.lengths.items) (drop p.words l.words.items)) at
    ∙ behind_read l (kept_in l) before after c.self.invariant (c.self.view_is ∙ is))
