use Rattle.rows.proofs.threads.held.check_held.Given as goal

-- the board that was just opened, which may show anything
abbrev pub ghosts-shown : goal.ghosts-shown
ghosts-shown g a = record { book = a.opened; may = λ xs. Unit {0} }
