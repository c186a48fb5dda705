use Rattle.occ_program.proofs.Recorded.{one_recorded}
use Rattle.occ_program.proofs.exploring.record_only.Goals as goal

pub returns-in-Some : goal.returns-in-Some
returns-in-Some g c =
    let left = g.F.Folder.left in
    one_recorded c.args.words.now.record c.in-Some.stem c.args.answer.now c.as_slice.result.now (left c.args.folder.now) (left c.record_answer.new.folder) c.record_answer.result c.in-Some.is c.as_slice.ensures.value
    c.record_answer.ensures.ok c.record_answer.ensures.err
