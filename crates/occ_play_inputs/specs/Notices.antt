-- What is told before standard input is read.
-- Manual: nothing; this is (own).
use Rattle.std.specs.Prelude.{Bool, List, None, Option, Some, [], codes, false, true, ℕ}

-- where it is a terminal, how the keyboard is ended; or the source, where no file of it is named
abbrev pub notice_of : {Path : Type 0} → Option Path → Bool → List ℕ
notice_of (Some path) true = codes "the program reads the keyboard: type its input, then Ctrl-D on a line of its own\n"
notice_of None true = codes "no FILE is named: type the source, then Ctrl-D on a line of its own\n"
notice_of path false = []
