use Rattle.std.proofs.Common.{◌∙◌, ◌-◌, ap}
use Rattle.occ_term.specs.Frames.{at, frame_from}
use Rattle.occ_term.specs.Values.{values_from}
use Rattle.occ_net_tables.proofs.TakenOver.{taken_row}
use Rattle.occ_net_tables.proofs.copying.take_row.Goals as goal

pub returns-in-Some : goal.returns-in-Some
returns-in-Some c =
    c.set_span.ensures ∙ ap (λ vs. frame_from c.args.row.now.first vs c.args.to.now) (c.in-Some.ensures ∙ ap (λ n. values_from c.args.row.now.first n (at c.args.from.now)) c.count.ensures)
    ∙ taken_row c.args.row.now.first (c.args.row.now.end - c.args.row.now.first) c.args.from.now c.args.to.now
