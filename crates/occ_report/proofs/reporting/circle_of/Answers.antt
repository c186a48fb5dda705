use Rattle.std.proofs.Common.{map}
use Rattle.occ_choices.specs.Plans.{choices_of}
use Rattle.occ_ends.specs.Ends.{noted_for}
use Rattle.occ_report.proofs.Lines.{circle_is}
use Rattle.occ_report.proofs.reporting.circle_of.Goals as goal

pub returns : goal.returns
returns c = λ t uses.
    circle_is (map noted_for c.args.uses.now) t c.args.code.now c.args.keyboard.now (choices_of c.args.plan.now) c.in_ok-tables.field-0 c.in_ok-tables.ensures c.in_ok-circle.field-0 uses c.in_ok-circle.ensures
