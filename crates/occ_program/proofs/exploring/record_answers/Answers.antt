use Rattle.occ_program.proofs.Recorded.{each_recorded}
use Rattle.occ_program.proofs.exploring.record_answers.Goals as goal

pub returns-in-Some : goal.returns-in-Some
returns-in-Some g c =
    let left = g.F.Folder.left in
    each_recorded c.args.words.now.record c.in-Some.stem c.args.answers.now c.first_answers.result.now (left c.args.folder.now) (left c.record_each.new.folder) c.record_each.result c.in-Some.is c.first_answers.ensures.first
    c.record_each.ensures.ok c.record_each.ensures.err
