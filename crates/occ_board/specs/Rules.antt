-- The rule of the history, and what its step tells.
use Rattle.std.specs.Prelude.{ℕ, ◌≡◌, true, List, [], ◌∷◌, ◌++◌, length}
use Rattle.logbook.specs.Pages.{Cell, Step, View, Book, Named}
use mathlib.Core.List.{IsPrefix}
use mathlib.Core.Option.{some}
use lib.ListN.{get_elem?}
use Rattle.occ_term.specs.Runs.{Entry}
use Rattle.occ_board.specs.declared.shown.Edition.{Edition}
use Rattle.occ_board.specs.Editions.{IsLegal, Reached}

-- the first word is the length of the history, which is legal. The second is not used
pub record IsLogged (cells : List Cell) (log : List Edition) : Type 0 where
  pub words : cells ≡ (length log, true) ∷ (0, true) ∷ []
  pub legal : IsLegal log

abbrev pub book_head : Book → Named
book_head b = record { tracked = true; key = 0; book = b }

-- where the length was the one expected, the edition was added to all that had been seen
abbrev pub AddsEdition : Step Edition → View Edition ℕ → ℕ → View Edition ℕ → Type 0
AddsEdition s v found w = found ≡ s.old → (w.0 ≡ v.0 ++ s.ask ∷ []) × IsLegal w.0

-- what is shown is an edition of the board's history and may be shown, and begins with what each watcher saw
abbrev pub KeepsViews : Book → (may : List Entry → Type 0) → List Entry → Reached → List (List Entry) → Type 0
KeepsViews book may entries f views = (f.book ≡ book) × (f.edition.entries ≡ entries) × may entries × ((seat : ℕ) (v : List Entry) → get_elem? views seat ≡ some v → IsPrefix v entries)

-- what was shown began with the view, and what is shown afterwards is the new view, and may be shown
abbrev pub EntersView : Book → (may : List Entry → Type 0) → List Entry → List Entry → List Entry → Reached → List Entry → Type 0
EntersView book may v before after f w = IsPrefix v before × (w ≡ after) × (f.book ≡ book) × (f.edition.entries ≡ after) × may after
