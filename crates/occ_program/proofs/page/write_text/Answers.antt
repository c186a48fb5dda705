use Rattle.std.proofs.Common.{◌∙◌, subst}
use Rattle.occ_files.specs.Leaving.{LeavesOne}
use Rattle.occ_program.proofs.page.write_text.Goals as goal

pub returns-in-Ok-clause-left : goal.returns-in-Ok-clause-left
returns-in-Ok-clause-left g c =
    let left = g.F.Folder.left in
    let h = c.in-Ok.ensures.saved in
    subst (LeavesOne (left c.args.folder.now) (left c.save.new.self) c.args.path.now) (h.is ∙ c.new.ensures) h.left
