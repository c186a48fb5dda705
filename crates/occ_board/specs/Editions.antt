-- Which histories of editions are legal.
use Rattle.std.specs.Prelude.{◌≡◌, Bool, true, false, MatchBool, List, [], ◌∷◌}
use mathlib.Core.List.{IsPrefix}
use Rattle.logbook.specs.Pages.{Book}
use Rattle.occ_term.specs.Runs.{Entry}
use Rattle.occ_board.specs.declared.shown.Edition.{Edition}

abbrev pub edition : List Entry → Bool → Edition
edition entries last = record { entries = entries; last = last }

-- what a new board has published
abbrev pub blank : Edition
blank = edition [] false

-- x may come after e: e was not the last, and x has at least its entries
abbrev pub Follows : Edition → Edition → Type 0
Follows e x = (e.last ≡ false) × IsPrefix e.entries x.entries

-- x is e, or came after it
abbrev pub Extends : Edition → Edition → Type 0
Extends e x = IsPrefix e.entries x.entries × (e.last ≡ true → x ≡ e)

-- where x goes past e it extends it, and else e extends x
abbrev pub GoesPast : (past : Bool) → (e x : Edition) → Type 0
GoesPast past e x = MatchBool past (Extends e x) (Extends x e)

-- each of the editions follows the one before it, and the first follows e
abbrev pub Rises : Edition → List Edition → Type 0
Rises e [] = Unit {0}
Rises e (x ∷ xs) = Follows e x × Rises x xs

-- the last of the editions, or e where there is none
abbrev pub newest_after : Edition → List Edition → Edition
newest_after e [] = e
newest_after e (x ∷ xs) = newest_after x xs

abbrev pub IsLegal : List Edition → Type 0
IsLegal log = Rises blank log

abbrev pub newest : List Edition → Edition
newest log = newest_after blank log

-- an edition of a history
pub record Reached : Type 0 where
  pub book : Book
  pub edition : Edition

abbrev pub reached : Book → Edition → Reached
reached book e = record { book = book; edition = e }
