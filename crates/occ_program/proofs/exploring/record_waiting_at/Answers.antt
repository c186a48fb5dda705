use Rattle.occ_program.proofs.Recorded.{nobody_recorded, waiting_recorded}
use Rattle.occ_program.proofs.exploring.record_waiting_at.Goals as goal

pub returns-in-Some-clause-ok : goal.returns-in-Some-clause-ok
returns-in-Some-clause-ok g c =
    let left = g.F.Folder.left in
    (waiting_recorded c.args.stem.now c.args.waiting.now c.in-Some.waiting c.as_slice.result.now (left c.args.folder.now) (left c.record_answer.new.folder) c.record_answer.result c.in-Some.is c.as_slice.ensures.value c.record_answer.ensures.ok c.record_answer.ensures.err).0

pub returns-in-Some-clause-err : goal.returns-in-Some-clause-err
returns-in-Some-clause-err g c =
    let left = g.F.Folder.left in
    (waiting_recorded c.args.stem.now c.args.waiting.now c.in-Some.waiting c.as_slice.result.now (left c.args.folder.now) (left c.record_answer.new.folder) c.record_answer.result c.in-Some.is c.as_slice.ensures.value c.record_answer.ensures.ok c.record_answer.ensures.err).1

pub returns-in-None-clause-ok : goal.returns-in-None-clause-ok
returns-in-None-clause-ok g c = nobody_recorded c.args.stem.now c.args.waiting.now (g.F.Folder.left c.args.folder.now) c.in-None.is
