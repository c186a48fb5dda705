-- Which processes have no column of their own, and what is drawn of a run then.
-- Manual: nothing; this is (own).
use Rattle.std.specs.Prelude.{Bool, List, [], drop, false, if◌then◌else◌, slice_get, take, unwrap_or, ℕ, ◌&&◌, ◌+◌, ◌∷◌}
use Rattle.occ_board.specs.Entries.{entry}
use Rattle.occ_shown.specs.Answers.{entries_in}
use Rattle.occ_term.specs.declared.names.Channel.{Channel}
use Rattle.occ_term.specs.declared.communication.End.{End}
use Rattle.occ_term.specs.declared.communication.End.TheVariants.{Process as OfProcess, Keyboard, Screen, Error}
use Rattle.occ_term.specs.declared.communication.Communication.{Communication}
use Rattle.occ_term.specs.Runs.{Entry}
use Rattle.occ_chart.specs.Columns.{Footing}

-- ---- a list says of each process, by its number, whether it is left out

abbrev pub is_left_out : List Bool → ℕ → Bool
is_left_out left n = unwrap_or (slice_get left n) false

abbrev pub is_other : List Bool → End → Bool
is_other left (OfProcess n) = is_left_out left n
is_other left Keyboard = false
is_other left Screen = false
is_other left Error = false

-- how many are
abbrev pub count_others : List Bool → ℕ
count_others [] = 0
count_others (b ∷ bs) = if b then count_others bs + 1 else count_others bs

-- ---- what is drawn

-- those that are left out stand in one column, as if they were one process, with a number that none has
abbrev pub others : End
others = OfProcess 4294967295

abbrev pub stands_as : List Bool → End → End
stands_as left x = if is_other left x then others else x

abbrev pub seen_entry : List Bool → Entry → Entry
seen_entry left e = entry e.number e.channel e.name (stands_as left e.sender) (stands_as left e.receiver) e.tag e.message

-- what two of them say to each other is not drawn
abbrev pub is_among_others : List Bool → Entry → Bool
is_among_others left e = is_other left e.sender && is_other left e.receiver

-- and all else is, with the number that it has in the trace
abbrev pub seen_entries : List Bool → List Entry → List Entry
seen_entries left [] = []
seen_entries left (e ∷ es) = if is_among_others left e then seen_entries left es else seen_entry left e ∷ seen_entries left es

-- nor is drawn what one of them waits for
abbrev pub seen_feet : List Bool → List Footing → List Footing
seen_feet left [] = []
seen_feet left (s ∷ ss) = if is_left_out left s.process then seen_feet left ss else s ∷ seen_feet left ss

-- ---- what the code does; private contracts alone cite it

abbrev pub is_between_others : List Bool → Communication → Bool
is_between_others left x = is_other left x.sender && is_other left x.receiver

abbrev pub count_seen : List Bool → List Communication → ℕ
count_seen left [] = 0
count_seen left (x ∷ xs) = if is_between_others left x then count_seen left xs else count_seen left xs + 1

-- so many of those that are seen, behind so many
abbrev pub listed : List Bool → (skipped count : ℕ) → List Channel → List Communication → List Entry
listed left skipped count cs xs = take count (drop skipped (seen_entries left (entries_in cs xs)))
