use Rattle.std.proofs.Common.{◌∙◌, ◌++◌, ap, map}
use Rattle.occ_choices.specs.Plans.{choices_of}
use Rattle.occ_ends.specs.Ends.{noted_for}
use Rattle.occ_text.specs.Words.{logical_lines}
use Rattle.occ_report.specs.Reports.{circle_text}
use Rattle.occ_report.proofs.Lines.{report_is}
use Rattle.occ_report.proofs.reporting.report.Goals as goal

pub returns : goal.returns
returns c = λ t uses.
    report_is (map noted_for c.args.uses.now) t c.args.code.now c.args.keyboard.now (choices_of c.args.plan.now) c.args.places.now c.args.source.now (logical_lines c.as_slice-lines.result.now) c.args.unfolded.now.cells c.in_ok-ending.field-0 c.in_ok-ending.ensures
    c.trace-trace.result.now c.len-communications.result (λ k net h. c.trace-trace.ensures c.args.code.now k net h) c.len-communications.ensures.len
    c.new-out.result.items c.write_kind.new.out.items c.write_head.new.out.items c.write_circle.new.out.items _ _ c.in_ok-left.left c.in_ok-waiting.waiting.items c.new-out.ensures.items (rw c.as_slice.ensures.value at c.in_ok-write_kind.ensures) c.in_ok-write_head.ensures c.min-count.ensures
    uses c.in_ok-found.found (λ p k net h. rw c.channels-channels.ensures at c.in_ok-found.ensures p k net h)
    c.in_ok-left.ensures c.in_ok-waiting.ensures
    c.write_lines.new.out.items (λ q k net h. rw (c.channels-channels.ensures, c.as_slice-reading.ensures.value, c.as_slice-writing.ensures.value) at c.in_ok-write_lines.ensures q k net h)
    c.write_ended.new.out.items (λ p k net h. c.in_ok-write_ended.ensures p k net h)
    (λ p k net h. c.in_ok-write_circle.ensures p k net h ∙ ap (λ l. c.write_ended.new.out.items ++ circle_text net.tasks l) c.as_slice-members.ensures.value) c.len-processes.ensures (rw c.as_slice-lines.ensures.value c.in_ok-read.ensures)
