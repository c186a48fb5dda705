use Rattle.rows.proofs.threads.watched.a_refused_run_ends_its_publisher.Given as goal

-- the board that was just opened, which may show anything
abbrev pub ghosts-refusal : goal.ghosts-refusal
ghosts-refusal g a = record { book = a.opened; may = λ xs. Unit {0} }

abbrev pub ghosts-refusal-2 : goal.ghosts-refusal-2
ghosts-refusal-2 g a = record { book = a.opened; may = λ xs. Unit {0} }
