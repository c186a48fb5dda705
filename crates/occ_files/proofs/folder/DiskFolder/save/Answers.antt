use Rattle.occ_files.proofs.PiecesWritten.{on_disk}
use Rattle.occ_files.proofs.folder.DiskFolder.save.Goals as goal

pub returns-clause-saved : goal.returns-clause-saved
returns-clause-saved g c = on_disk c.save.result (g.P.Pieces.is_left c.args.pieces.now) c.args.path.now c.save.ensures
