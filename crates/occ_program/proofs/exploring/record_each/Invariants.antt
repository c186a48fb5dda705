use Rattle.std.proofs.Common.{◌≡◌, ◌+◌, take}
use Rattle.occ_files.specs.Leaving.{LeavesAll}
use Rattle.occ_program.specs.Pages.{answer_files}
use Rattle.occ_program.proofs.exploring.record_each.Given as goal

abbrev pub invariant-loop-answer : goal.invariant-loop-answer
invariant-loop-answer g l = record {
  counted : l.number ≡ 1 + l.answer-index;
  recorded : LeavesAll (g.F.Folder.left l.fn.folder) (g.F.Folder.left l.folder) (take l.answer-index (answer_files l.stem 1 l.answers));
}
