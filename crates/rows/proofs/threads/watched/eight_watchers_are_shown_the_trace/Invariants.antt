use Rattle.rows.proofs.threads.watched.eight_watchers_are_shown_the_trace.Given as goal

-- the board that was just opened, which may show anything
abbrev pub ghosts-eight_shown : goal.ghosts-eight_shown
ghosts-eight_shown g a = record { book = a.opened; may = λ xs. Unit {0} }
