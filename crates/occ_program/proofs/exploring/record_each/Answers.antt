use Rattle.std.proofs.Common.{◌≡◌, ◌+◌, arith, subst, suc, sym, take}
use Rattle.occ_choices.specs.Lines.{choice_text}
use Rattle.occ_files.specs.Leaving.{LeavesOne, LeavesAll}
use Rattle.occ_program.specs.Pages.{answer_files, answer_path}
use Rattle.occ_program.proofs.Recorded.{all_files, all_so_far, first_files, on_err}
use Rattle.occ_program.proofs.exploring.record_each.Goals as goal

pub returns-in_err-record_answer-clause-err : goal.returns-in_err-record_answer-clause-err
returns-in_err-record_answer-clause-err g c =
    let left = g.F.Folder.left in
    let a = c.answer-item.result in
    let stem = c.args.stem.now in
    on_err c.from_residual.result
    (first_files (left c.args.folder.now) (left c.loop-answer.folder) (left c.record_answer.new.folder) stem c.args.answers.now c.loop-answer.answer-index c.loop-answer.number a c.loop-answer-test.true c.answer-item.is
    c.loop-answer.invariant.counted c.loop-answer.invariant.recorded c.in_err-record_answer.ensures.err)

pub loop-answer-preserved : goal.loop-answer-preserved
loop-answer-preserved g c =
    let left = g.F.Folder.left in
    let a = c.answer-item.result in
    let stem = c.args.stem.now in
    let same = c.loop-answer.invariant.counted in
    let one : c.loop-answer.answer-index + 1 ≡ suc c.loop-answer.answer-index = omega arith in
    let whole : LeavesAll (left c.args.folder.now) (left c.record_answer.new.folder) (take (suc c.loop-answer.answer-index) (answer_files stem 1 c.args.answers.now)) =
    all_so_far (left c.args.folder.now) (left c.loop-answer.folder) (left c.record_answer.new.folder) stem c.args.answers.now c.loop-answer.answer-index c.loop-answer.number a c.loop-answer-test.true c.answer-item.is
    same c.loop-answer.invariant.recorded
    (subst (λ t. LeavesOne (left c.loop-answer.folder) (left c.record_answer.new.folder) (answer_path stem c.loop-answer.number) (choice_text t)) c.as_slice.ensures.value c.in_ok-record_answer.ensures.ok)
    in
    record {
      counted = omega (arith, same);
      recorded = subst (λ n. LeavesAll (left c.args.folder.now) (left c.record_answer.new.folder) (take n (answer_files stem 1 c.args.answers.now))) (sym one) whole;
    }

pub returns-clause-ok : goal.returns-clause-ok
returns-clause-ok g c =
    let left = g.F.Folder.left in
    let stem = c.args.stem.now in
    subst (LeavesAll (left c.args.folder.now) (left c.loop-answer.folder)) (all_files stem 1 c.args.answers.now c.loop-answer.answer-index c.loop-answer-test.false) c.loop-answer.invariant.recorded
