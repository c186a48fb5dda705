-- What the publisher's changes do.
use Rattle.std.specs.Prelude.{◌≡◌, Bool, false, List, [], ◌∷◌, ◌++◌, MatchResult, Option, None, Result, Some}
use mathlib.Core.List.{IsPrefix}
use Rattle.logbook.specs.Pages.{Book}
use Rattle.occ_term.specs.Runs.{Entry}
use Rattle.occ_board.specs.declared.shown.Edition.{Edition}
use Rattle.occ_board.specs.Editions.{edition, Extends, Reached, reached}
use Rattle.occ_board.specs.declared.trace.Change.{Change}
use Rattle.occ_board.specs.declared.trace.Change.TheVariants.{Show, Reach}

abbrev pub applied_to : List Entry × Reached → Change → List Entry × Reached
applied_to t (Show s) = (t.0 ++ s ∷ [], t.1)
applied_to t (Reach f) = (t.0, f)

-- the entries that these changes add
abbrev pub added : List Change → List Entry
added [] = []
added (Show s ∷ cs) = s ∷ added cs
added (Reach f ∷ cs) = added cs

-- A publisher: what is shown, what was appended since, and whether the last list is shown
pub record Publishing : Type 0 where
  pub published : List Entry
  pub pending : List Entry
  pub closed : Bool

abbrev pub publishing : List Entry → List Entry → Bool → Publishing
publishing published pending closed = record { published = published; pending = pending; closed = closed }

-- what is published, and behind it what is pending
abbrev pub held_by : Publishing → List Entry
held_by p = p.published ++ p.pending

-- the publisher when it has published all that, perhaps as its last list
abbrev pub all_published : Publishing → (last : Bool) → Publishing
all_published p last = publishing (held_by p) [] last

-- the entry stands behind what was pending; or it comes back, and nothing changes
abbrev pub PutsEntry : {U E : Type 0} → (old new : Publishing) → Entry → Result U (Entry × E) → Type 0
PutsEntry old new e r =
    MatchResult r (λ _. new ≡ publishing old.published (old.pending ++ e ∷ []) false) (λ back. (back.0 ≡ e) × (new ≡ old))

-- What is shown is an edition of the history, and the newest edition has no more than what is shown and pending
abbrev pub IsAhead : Book → List Entry → List Entry → Reached → Reached → Type 0
IsAhead book published pending shown newest =
    (shown ≡ reached book (edition published newest.edition.last)) × (newest.book ≡ book) × IsPrefix newest.edition.entries (published ++ pending)

-- A watcher: the list that it saw last, and the newest edition that it knows of
pub record Watching : Type 0 where
  pub seen : List Entry
  pub known : Edition

abbrev pub watching : List Entry → Edition → Watching
watching seen known = record { seen = seen; known = known }

-- what it sees now begins with what it saw before, and with what it knew of
abbrev pub SeesOn : (old new : Watching) → Type 0
SeesOn old new = IsPrefix old.seen new.seen × IsPrefix old.known.entries new.seen

-- it knows of what it sees, and that extends what it knew of
abbrev pub Learns : (old new : Watching) → Type 0
Learns old new = (new.known.entries ≡ new.seen) × Extends old.known new.known

-- what a watcher saw last, which is nothing where it has no place
abbrev pub seen_by : {R : Type 0} → (R → List Entry) → Option R → List Entry
seen_by seen None = []
seen_by seen (Some r) = seen r
