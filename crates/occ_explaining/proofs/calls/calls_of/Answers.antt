use Rattle.std.proofs.Common.{◌∙◌, ◌+◌, ◌++◌, ap, drop, map, subst}
use Rattle.occ_text.specs.Words.{logical_lines, words}
use Rattle.occ_explaining.specs.Calls.{call_of, call_pair, named, owner_in}
use Rattle.occ_explaining.proofs.Owning.{GoneThrough, cut_line, gone_on}
use Rattle.occ_explaining.proofs.calls.calls_of.Goals as goal

pub loop-line-preserved : goal.loop-line-preserved
loop-line-preserved c =
    let line = c.line-item.result in
    let xs = c.args.lines.now in
    let rest = logical_lines (drop (c.loop-line.line-index + 1) xs) in
    let calls = map call_pair c.loop-line.calls.items in
    let before = subst (λ ls. GoneThrough (logical_lines xs) (logical_lines ls) c.loop-line.owners.items calls) (cut_line xs c.loop-line.line-index line c.loop-line-test.true c.line-item.is) c.loop-line.invariant in
    gone_on (logical_lines xs) line.number line.level (words line.words.items) rest c.loop-line.owners.items _ calls _ (named c.owner_at-owner.result) (named c.begun_or.result)
    before (c.owner_at-owner.ensures ∙ ap (λ o. owner_in o line.level) c.as_slice.ensures.value) c.begun_or.ensures
    c.set_deeper.ensures.len c.set_deeper.ensures.set.0 c.set_deeper.ensures.set.1
    (c.in_ok-add_call.ensures ∙ ap (λ o. calls ++ call_of (named c.owner_at-owner.result) o) c.proc_called.ensures)
