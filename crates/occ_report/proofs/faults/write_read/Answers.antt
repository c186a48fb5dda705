use Rattle.std.proofs.Common.{◌≡◌, ◌++◌, OnOk, subst}
use Rattle.occ_text.specs.Words.{logical_lines}
use Rattle.occ_report.proofs.Reading.{read_as}
use Rattle.occ_report.proofs.faults.write_read.Goals as goal

pub returns : goal.returns
returns c =
    let a = c.args in
    subst (λ text. OnOk c.write_variables.result (c.write_variables.new.out.items ≡ a.out.now.items ++ text))
    (read_as (logical_lines a.told.lines.now) a.body.now a.task.now a.line a.told.unfolded.now.cells _ _ _ _ _ _ _ _ _ _ _ _ _
    c.calls-calls.ensures c.in_ok-holding.ensures c.as_slice-holders.ensures.value c.in_ok-call.ensures c.in_ok-led.ensures c.as_slice.ensures.value c.cells.ensures c.code_before-code.ensures
    c.in_ok-read.ensures c.as_slice-2.ensures.value c.in_ok-found.ensures c.as_slice-3.ensures.value)
    c.write_variables.ensures
