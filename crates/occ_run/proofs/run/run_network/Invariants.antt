use Rattle.occ_run.proofs.run.run_network.Given as goal

-- the run that begins
abbrev pub ghosts-run_all : goal.ghosts-run_all
ghosts-run_all g a = record { program = a.progress.network.program; keyboard = a.progress.network.keyboard; limit = a.progress.limit; tokens = a.tokens.table.shared.table_id; takings = a.head }
