use Rattle.std.proofs.Common.{rules, subst}
use Rattle.occ_machine.specs.declared.task.Task.{Task}
use Rattle.occ_run.specs.Tokens.{AreOthers}
use Rattle.crossbeam_utils.specs.Seq.{cell_view}
use Rattle.occ_run.proofs.Moves.{goes_out}
use Rattle.occ_run.proofs.tokens.go_out_as.Goals as goal

pub split_pass-requires : goal.split_pass-requires
split_pass-requires g c =
    let others : AreOthers g.O.Named.task.number (cell_view c.args.all.now).out = subst (λ (t : Task). AreOthers t.number (cell_view c.args.all.now).out) c.requires.named c.requires.other in
    (search rules, (search rules, (c.requires.own, goes_out _ _ g.O.Named.task c.requires.keeps others)))
