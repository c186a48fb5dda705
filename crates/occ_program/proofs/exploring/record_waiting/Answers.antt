use Rattle.std.proofs.Common.{take, ℕ}
use Rattle.std.specs.Prelude.{OnErr, OnOk}
use Rattle.occ_files.specs.Leaving.{LeavesAll}
use Rattle.occ_program.proofs.Recorded.{named_recorded, none_recorded}
use Rattle.occ_program.proofs.exploring.record_waiting.Goals as goal

pub returns-in-Some-clause-ok : goal.returns-in-Some-clause-ok
returns-in-Some-clause-ok g c =
    let left = g.F.Folder.left in
    named_recorded (λ files r. OnOk r (LeavesAll (left c.args.folder.now) (left c.record_waiting_at.new.folder) files)) c.record_waiting_at.result c.args.words.now.record c.in-Some.stem c.args.waiting.now c.in-Some.is c.record_waiting_at.ensures.ok

pub returns-in-Some-clause-err : goal.returns-in-Some-clause-err
returns-in-Some-clause-err g c =
    let left = g.F.Folder.left in
    named_recorded (λ files r. OnErr r ((n : ℕ) × LeavesAll (left c.args.folder.now) (left c.record_waiting_at.new.folder) (take n files))) c.record_waiting_at.result c.args.words.now.record c.in-Some.stem c.args.waiting.now c.in-Some.is c.record_waiting_at.ensures.err

pub returns-in-None-clause-ok : goal.returns-in-None-clause-ok
returns-in-None-clause-ok g c = none_recorded c.args.words.now.record c.args.waiting.now (g.F.Folder.left c.args.folder.now) c.in-None.is
