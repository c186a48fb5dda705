use Rattle.rows.proofs.board.a_published_entry_is_seen.Given as goal

-- the board that was just opened, which may show anything
abbrev pub ghosts-looks : goal.ghosts-looks
ghosts-looks g a = record { book = a.opened; may = λ xs. Unit {0} }
