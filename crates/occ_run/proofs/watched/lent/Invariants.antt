use Rattle.occ_run.proofs.watched.lent.Given as goal

-- the run that begins
abbrev pub ghosts-run_told : goal.ghosts-run_told
ghosts-run_told g a = record { program = a.progress.network.program; keyboard = a.progress.network.keyboard; limit = a.progress.limit; tokens = a.tokens.table.shared.table_id; takings = a.head }
