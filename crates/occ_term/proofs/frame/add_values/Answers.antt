use Rattle.std.proofs.Common.{◌∙◌, ◌++◌, ◌-◌, ap}
use Rattle.occ_term.specs.Frames.{at}
use Rattle.occ_term.specs.Values.{values_from}
use Rattle.occ_term.proofs.FrameRows.{values_of_numbers}
use Rattle.occ_term.proofs.frame.add_values.Goals as goal

pub returns-in_ok-extend_from_slice-in-Some : goal.returns-in_ok-extend_from_slice-in-Some
returns-in_ok-extend_from_slice-in-Some c =
    c.in_ok-extend_from_slice-in-Some.ensures.items
    ∙ ap (λ l. c.args.values.now.items ++ l)
    (c.in-Some.ensures ∙ ap (λ n. values_from c.args.row.now.first n (at c.args.from.now)) c.count.ensures ∙ values_of_numbers c.args.row.now.first (c.args.row.now.end - c.args.row.now.first) (at c.args.from.now))
