use Rattle.occ_play.specs.Watching.{IsShownOfText}
use Rattle.occ_program.proofs.watching.play_watching.Given as goal

-- the board that was just opened: it may show what runs of the source communicate, and nothing else
abbrev pub ghosts-play_named : goal.ghosts-play_named
ghosts-play_named g a = record { book = a.opened; may = IsShownOfText a.options.now a.source.now a.keyboard.now a.limit }
