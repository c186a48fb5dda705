use Rattle.rows.proofs.threads.watched.a_run_is_shown_behind_what_was_held.Given as goal

-- the board that was just opened, which may show anything
abbrev pub ghosts-held_and_shown : goal.ghosts-held_and_shown
ghosts-held_and_shown g a = record { book = a.opened; may = λ xs. Unit {0} }
