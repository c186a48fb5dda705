use Rattle.std.proofs.Common.{◌∙◌, ◌-◌, List, ap, length, sym}
use Rattle.occ_chart.proofs.Drawing.{charted, count_is, entries_length}
use Rattle.occ_chart.specs.LeftOut.{count_seen, listed}
use Rattle.occ_shown.specs.Answers.{entries_in, names_of}
use Rattle.occ_term.specs.Runs.{Entry}
use Rattle.occ_chart.proofs.charting.chart.Goals as goal

pub returns : goal.returns
returns c =
    let cs = c.args.channels.now in
    let left = c.args.left_out.now in
    let trace = c.args.trace.now in
    let es : List Entry = entries_in cs trace in
    let given = c.entries-entries.ensures.entries in
    let all = c.count_seen-all.ensures.is ∙ ap (count_seen left) given ∙ count_is left (names_of cs) 1 trace in
    let list = c.in_ok-list.ensures.are ∙ ap (listed left c.if_last-skipped.result c.count-count.result cs) given in
    let many = c.len.ensures ∙ ap length given ∙ sym (entries_length (names_of cs) 1 trace) in
    charted es left c.args.part c.args.ending _ c.args.stubs.now c.in_ok-standing.standing.items c.as_slice-feet.result.now c.args.circle.now c.in_ok-list.list.items c.as_slice-shown.result.now c.in_ok-found.found.items c.as_slice-columns.result.now
    c.in_ok-over.over.items c.as_slice-heads.result.now c.count_seen-all.result c.count-count.result c.if_last-skipped.result (c.len.result - c.count_seen-all.result) c.in_ok-notes.notes.before.items c.in_ok-notes.notes.after.items c.in_ok-notes.notes.ending.items c.in_ok-bytes.bytes.items c.in_ok-bytes.ensures.l
    all c.count-count.ensures.count c.if_last-skipped.ensures list c.as_slice-shown.ensures.value c.in_ok-standing.ensures c.as_slice-feet.ensures.value c.in_ok-found.ensures c.as_slice-columns.ensures.value c.in_ok-over.ensures
    c.as_slice-heads.ensures.value (ap (λ n. n - c.count_seen-all.result) many) c.in_ok-notes.ensures.before c.in_ok-notes.ensures.after c.in_ok-notes.ensures.ending c.in_ok-bytes.ensures.laid c.in_ok-bytes.ensures.is
