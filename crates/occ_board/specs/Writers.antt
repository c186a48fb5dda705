-- What the writer has whose list readers see.
use Rattle.std.specs.Prelude.{◌≡◌, List, [], ◌++◌, drop}
use Rattle.left_right.specs.declared.Absorb.{Ghosts}
use Rattle.left_right.specs.declared.writer.Writer.{Writer}
use Rattle.logbook.specs.Pages.{Book}
use Rattle.occ_term.specs.Runs.{Entry}
use Rattle.occ_board.specs.declared.trace.Change.{Change}
use Rattle.occ_board.specs.declared.trace.Trace.{Trace}
use Rattle.occ_board.specs.Editions.{Reached}
use Rattle.occ_board.specs.Traces.{added, IsAhead}

module _ {V P A S : Type 0} {g : Ghosts Trace Change S} where
  -- the entries that readers see
  abbrev pub published_in : Writer Trace Change V P A S g → List Entry
  published_in w = w.desk.shown.value.entries.items

  -- those that they do not see yet
  abbrev pub pending_in : Writer Trace Change V P A S g → List Entry
  pending_in w = added (drop w.behind w.log.items)

  -- all of them
  abbrev pub held_in : Writer Trace Change V P A S g → List Entry
  held_in w = published_in w ++ pending_in w

  -- readers see all entries, as this edition of the history
  abbrev pub ShowsAll : Writer Trace Change V P A S g → Reached → Type 0
  ShowsAll w f = (published_in w ≡ f.edition.entries) × (w.desk.shown.value.front ≡ f) × (pending_in w ≡ [])

  -- what readers see is an edition of the history, whose newest edition has no more than all entries
  abbrev pub HasReached : Book → Writer Trace Change V P A S g → Reached → Type 0
  HasReached book w newest = IsAhead book (published_in w) (pending_in w) w.desk.shown.value.front newest
