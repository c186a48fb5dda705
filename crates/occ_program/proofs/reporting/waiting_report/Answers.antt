use Rattle.std.proofs.Common.{◌∙◌, ◌++◌, ap, subst}
use Rattle.std.specs.Prelude.{codes}
use Rattle.occ_program.specs.Explained.{ReportsRun}
use Rattle.occ_program.proofs.reporting.waiting_report.Goals as goal

pub returns : goal.returns
returns c = (
  c.in_ok-report.report.items,
  subst (λ cs. ReportsRun c.args.words.now c.args.inputs.now cs c.in_ok-report.report.items) c.as_slice.ensures.value c.in_ok-report.ensures,
  c.in_ok-extend_from_slice.ensures.items ∙ ap (λ t. t ++ c.as_slice-2.result.now) c.in_ok-text.ensures ∙ ap (λ t. codes "while others go on:\n" ++ t) c.as_slice-2.ensures.value,
)
