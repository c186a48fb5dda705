use Rattle.occ_run.proofs.tokens.go_out.Given as goal

abbrev pub ghosts-go_out_as : goal.ghosts-go_out_as
ghosts-go_out_as a = record { task = a.task.now }
