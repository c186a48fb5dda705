-- Which processes that are left may be at the ends of channels, and who waits for whom.
-- Manual: the usage rules check list, for what a process may input from and output to. The rest is (own).
use Rattle.std.specs.Prelude.{All, Bool, IsTrue, List, None, Option, Some, [], false, if◌then◌else◌, length, map, nat_lt, not, option_map, option_to_list, reverse, slice_get, true, ℕ, ◌%◌, ◌&&◌, ◌+◌, ◌++◌, ◌<◌, ◌≤◌, ◌∷◌, ◌≡◌, ◌⊎◌, Vec}
use Rattle.std.specs.Option.{option_and_then}
use Rattle.occ_term.specs.Frames.{is_held}
use Rattle.occ_term.specs.Processes.{Numbered, branches_in, processes_of}
use Rattle.occ_term.specs.Terms.{Term}
use Rattle.occ_term.specs.Uses.{Numbers, Uses, uses_of}
use Rattle.occ_machine.specs.declared.task.Arm.{Arm}
use Rattle.occ_machine.specs.declared.task.Task.{Task}
use Rattle.occ_machine.specs.declared.task.Wait.{Wait}
use Rattle.occ_machine.specs.declared.task.Wait.TheVariants.{Ready, Took, Offers, Awaits, Chooses, Joins, Halted, Done, Faulted}
use Rattle.occ_net_replay.specs.Replay.{Tasks, is_done, ready_from}
use Rattle.occ_net_tables.specs.Keys.{flat}
use Rattle.occ_usage.specs.Noted.{uses_in}
use Rattle.occ_explore_laws.specs.declared.graph.Edge.{Edge}
use Rattle.occ_explore_laws.specs.Walks.{Fan, IsEdge}
use Rattle.occ_ends.specs.declared.uses.ProcessUses.{ProcessUses}
use Rattle.occ_ends.specs.declared.ends.Ends.{Ends}
use Rattle.occ_usage.specs.declared.noted.Use.{Use}
use Rattle.occ_net_tables.specs.declared.tables.Tables.{Tables}
use Rattle.occ_net_tables.specs.Holding.{HeldBy}

-- ---- what processes use

-- a process with all that it uses, its branches' uses among it, and how many processes are within it: its branches, theirs, and so on
pub record Using : Type 0 where
  pub number : ℕ
  pub within : ℕ
  pub uses : Uses

abbrev pub using : Numbered → Using
using p = record { number = p.number; within = length (branches_in p.term); uses = uses_of p.term }

-- the processes of a term, in the order in which they begin there
abbrev pub all_using : Term → List Using
all_using t = map using (processes_of t)

abbrev pub noted_for : ProcessUses → Using
noted_for p = record { number = p.number; within = p.within; uses = uses_in p.uses }

-- ---- ends of channels

-- whether it may still take a turn: it is not at its end, and neither halted nor at a fault, and doesn't wait for its branches, which
-- then stand for it
abbrev pub is_standing : Wait → Bool
is_standing Ready = true
is_standing (Took arm indices m) = true
is_standing (Offers c m) = true
is_standing (Awaits c) = true
is_standing (Chooses pri arms) = true
is_standing (Joins ns) = false
is_standing Halted = false
is_standing Done = false
is_standing (Faulted e) = false

abbrev pub task_stands : Option (Option Task) → Bool
task_stands None = false
task_stands (Some None) = false
task_stands (Some (Some t)) = is_standing t.wait

abbrev pub stands : Tasks → ℕ → Bool
stands tasks n = task_stands (slice_get tasks n)

-- the first of two, where it is one
abbrev pub or_first : Option ℕ → Option ℕ → Option ℕ
or_first None y = y
or_first (Some x) y = Some x

-- the first of these that stands, and that may use the channel so
abbrev pub first_with : (ℕ → Bool) → (Uses → Numbers) → ℕ → List Using → Option ℕ
first_with stand kind c [] = None
first_with stand kind c (p ∷ ps) = if stand p.number && kind p.uses c then Some p.number else first_with stand kind c ps

-- who may input from a channel, of those that stand; by the usage rules no two may
abbrev pub reader_among : List Using → Tasks → ℕ → Option ℕ
reader_among us tasks c = first_with (stands tasks) (λ u. u.ins) c us

abbrev pub writer_among : List Using → Tasks → ℕ → Option ℕ
writer_among us tasks c = first_with (stands tasks) (λ u. u.outs) c us

-- of so many channels
abbrev pub of_declared : ℕ → (ℕ → Option ℕ) → ℕ → Option ℕ
of_declared channels end c = if nat_lt c channels then end c else None

abbrev pub end_noted : List (Option ℕ) → ℕ → Option ℕ
end_noted ends c = flat (slice_get ends c)

-- the last of these that is in the set, and that may use the channel so
abbrev pub last_with : (set : ℕ → Bool) → (Uses → Numbers) → ℕ → List Using → Option ℕ
last_with set kind c [] = None
last_with set kind c (p ∷ ps) = or_first (last_with set kind c ps) (if set p.number && kind p.uses c then Some p.number else None)

-- Who is to input from a channel: who stands and may. Where nobody does, the innermost of those that come again and may, which is the last
-- of them: a branch stands behind who forked it.
abbrev pub reader_due : List Using → (again : ℕ → Bool) → Tasks → ℕ → Option ℕ
reader_due us again tasks c = or_first (reader_among us tasks c) (last_with again (λ u. u.ins) c us)

abbrev pub writer_due : List Using → (again : ℕ → Bool) → Tasks → ℕ → Option ℕ
writer_due us again tasks c = or_first (writer_among us tasks c) (last_with again (λ u. u.outs) c us)

-- by what processes use
pub record AreEnds (us : List Using) (tasks : Tasks) (channels : ℕ) (ends : Ends) : Type 0 where
  pub readers : (c : ℕ) → end_noted ends.readers.items c ≡ of_declared channels (reader_among us tasks) c
  pub writers : (c : ℕ) → end_noted ends.writers.items c ≡ of_declared channels (writer_among us tasks) c

pub record AreDue (us : List Using) (again : ℕ → Bool) (tasks : Tasks) (channels : ℕ) (ends : Ends) : Type 0 where
  pub readers : (c : ℕ) → end_noted ends.readers.items c ≡ of_declared channels (reader_due us again tasks) c
  pub writers : (c : ℕ) → end_noted ends.writers.items c ≡ of_declared channels (writer_due us again tasks) c

-- ---- who waits for whom

-- what a test says of a process that has begun
abbrev pub task_is : (Wait → Bool) → Option (Option Task) → Bool
task_is test None = false
task_is test (Some None) = false
task_is test (Some (Some t)) = test t.wait

abbrev pub is_unended : Wait → Bool
is_unended w = not (is_done w)

-- those of these that have begun, and are not at their ends
abbrev pub unended_among : Tasks → List ℕ → List ℕ
unended_among tasks [] = []
unended_among tasks (n ∷ ns) = (if task_is is_unended (slice_get tasks n) then n ∷ [] else []) ++ unended_among tasks ns

-- who may output to the channel of an arm; an arm with SKIP has none
abbrev pub arm_writer : (writer : ℕ → Option ℕ) → Arm → Option ℕ
arm_writer writer a = option_and_then writer a.chan

abbrev pub arm_writers : (writer : ℕ → Option ℕ) → List Arm → List ℕ
arm_writers writer [] = []
arm_writers writer (a ∷ arms) = option_to_list (arm_writer writer a) ++ arm_writers writer arms

-- Whom a process waits for: who is at the other end of the channel on which it offers a message, or awaits one; of its branches those that
-- are not at their ends. One that chooses waits for those of each arm, but only where no process can go on: else another arm may
-- still be served.
abbrev pub waits_on : (reader writer : ℕ → Option ℕ) → Tasks → (still : Bool) → Wait → List ℕ
waits_on reader writer tasks still Ready = []
waits_on reader writer tasks still (Took arm indices m) = []
waits_on reader writer tasks still (Offers c m) = option_to_list (reader c)
waits_on reader writer tasks still (Awaits c) = option_to_list (writer c)
waits_on reader writer tasks still (Chooses pri arms) = if still then arm_writers writer arms else []
waits_on reader writer tasks still (Joins ns) = unended_among tasks ns
waits_on reader writer tasks still Halted = []
waits_on reader writer tasks still Done = []
waits_on reader writer tasks still (Faulted e) = []

abbrev pub task_waits_for : (reader writer : ℕ → Option ℕ) → Tasks → (still : Bool) → Option (Option Task) → List ℕ
task_waits_for reader writer tasks still None = []
task_waits_for reader writer tasks still (Some None) = []
task_waits_for reader writer tasks still (Some (Some t)) = waits_on reader writer tasks still t.wait

abbrev pub is_none_left : List ℕ → Bool
is_none_left [] = true
is_none_left (n ∷ ns) = false

-- no process can go on
abbrev pub stands_still : Tasks → Bool
stands_still tasks = is_none_left (ready_from 0 tasks)

abbrev pub others_of : (reader writer : ℕ → Option ℕ) → Tasks → ℕ → List ℕ
others_of reader writer tasks n = task_waits_for reader writer tasks (stands_still tasks) (slice_get tasks n)

-- the same, by who is noted
abbrev pub others_noted : Ends → Tasks → ℕ → List ℕ
others_noted ends = others_of (end_noted ends.readers.items) (end_noted ends.writers.items)

-- each of these waits for the one behind it, and the last one for the first
abbrev pub Circles : (ℕ → List ℕ) → List ℕ → Type 0
Circles others ns = (i m k : ℕ) → slice_get ns i ≡ Some m → slice_get ns ((i + 1) % length ns) ≡ Some k → IsTrue (is_held (others m) k)

-- none of these stands twice
abbrev pub IsOnce : List ℕ → Type 0
IsOnce ns = (i j m : ℕ) → slice_get ns i ≡ Some m → slice_get ns j ≡ Some m → i ≡ j

-- A circle, once round; none only where there is none, among processes whose number is below that.
pub record IsCircle (others : ℕ → List ℕ) (below : ℕ) (ns : List ℕ) : Type 0 where
  pub waits : Circles others ns
  pub once : IsOnce ns
  pub unless : ns ≡ [] → (ms : List ℕ) → Circles others ms → All (λ m. m < below) ms → ms ≡ []

-- ---- private contracts alone cite what follows

-- these were added, the last one first
pub record ListsUses (before : List ProcessUses) (ps : List Numbered) (after : List ProcessUses) : Type 0 where
  pub more : List ProcessUses
  pub added : after ≡ before ++ more
  pub are : map noted_for (reverse more) ≡ map using ps

abbrev pub marked : Bool → ℕ → Option ℕ → Option ℕ
marked here n end = or_first end (if here then Some n else None)

-- where nobody was noted for a channel of the set, this process is
pub record Marks (old : List (Option ℕ)) (set : Numbers) (n : ℕ) (new : List (Option ℕ)) : Type 0 where
  pub ends : (c : ℕ) → slice_get new c ≡ option_map (marked (set c) n) (slice_get old c)
  pub as_many : length new ≡ length old

-- the first of these that stands, and may use the channel so, is noted where nobody was
pub record MarkedIn (stand : ℕ → Bool) (kind : Uses → Numbers) (ps : List Using) (old new : List (Option ℕ)) : Type 0 where
  pub ends : (c : ℕ) → slice_get new c ≡ option_map (λ end. or_first end (first_with stand kind c ps)) (slice_get old c)
  pub as_many : length new ≡ length old

-- ---- the graph of who waits for whom: the node of a process has its number and one

abbrev pub edge_to : ℕ → ℕ → Edge
edge_to n next = record { to = next + 1; choice = record { which = n; pick = 0 }; behind = 0; tail = 0 }

abbrev pub edges_to : ℕ → List ℕ → ℕ → List Edge
edges_to n [] below = []
edges_to n (m ∷ ms) below = (if nat_lt m below then edge_to n m ∷ [] else []) ++ edges_to n ms below

-- edges from node 0, to each process
pub record IsRoot (below : ℕ) (edges : List Edge) : Type 0 where
  pub many : length edges ≡ below
  pub are : (n : ℕ) → n < below → slice_get edges n ≡ Some (edge_to n n)

pub record IsFanOf (others : ℕ → List ℕ) (below n : ℕ) (fans : List Fan) : Type 0 where
  pub fan : Fan
  pub there : slice_get fans (n + 1) ≡ Some fan
  pub is : fan ≡ edges_to n (others n) below

-- node 0, and those of the first so many processes
pub record AreWaits (others : ℕ → List ℕ) (below count : ℕ) (fans : List Fan) : Type 0 where
  pub many : length fans ≡ count + 1
  pub root : Fan
  pub first : slice_get fans 0 ≡ Some root
  pub is_root : IsRoot below root
  pub each : (n : ℕ) → n < count → IsFanOf others below n fans

-- no edge leads further
pub record LeadWithin (below count : ℕ) (fans : List Fan) : Type 0 where
  pub many : length fans ≡ count + 1
  pub within : (k : ℕ) (e : Edge) → IsEdge fans k e → (e.to ≤ below) × (e.behind ≡ 0)

-- ---- once round a circle

-- the one at this place does not stand before it
abbrev pub IsFresh : List ℕ → ℕ → Type 0
IsFresh ns place = (k : ℕ) → k < place → slice_get ns k ≡ slice_get ns place → ⊥

-- from `first` on none stands twice before `end`, where the first of them comes again; or none of all does
pub record IsAgain (ns : List ℕ) (first end : ℕ) : Type 0 where
  pub some : first < end
  pub within : end ≤ length ns
  pub apart : (i j : ℕ) → i < j → j < end → slice_get ns i ≡ slice_get ns j → ⊥
  pub again : ((first ≡ 0) × (end ≡ length ns)) ⊎ (slice_get ns end ≡ slice_get ns first)

-- some that stand in a circle, none twice
pub record IsRing (others : ℕ → List ℕ) (ns : List ℕ) : Type 0 where
  pub some : 0 < length ns
  pub waits : Circles others ns
  pub once : IsOnce ns

-- ---- of whatever network the tables hold, and of a term whose uses these are

-- whom a process waits for, by who is noted
abbrev pub waits_noted : Ends → Tasks → Bool → Wait → List ℕ
waits_noted ends tasks still wait = waits_on (end_noted ends.readers.items) (end_noted ends.writers.items) tasks still wait

abbrev pub ListsWaits : {A : Type 0} → Ends → Tables → Bool → Wait → Vec ℕ A → Type 0
ListsWaits ends tables still wait others = HeldBy tables (λ net. others.items ≡ waits_noted ends net.tasks still wait)

-- one more, where it is not at its end, of whatever network the tables hold
abbrev pub AddsUnended : {A : Type 0} → Tables → ℕ → (old new : Vec ℕ A) → Type 0
AddsUnended tables n old new = HeldBy tables (λ net. new.items ≡ old.items ++ (if task_is is_unended (slice_get net.tasks n) then n ∷ [] else []))

abbrev pub ListsUnended : {A : Type 0} → Tables → List ℕ → Vec ℕ A → Type 0
ListsUnended tables ns others = HeldBy tables (λ net. others.items ≡ unended_among net.tasks ns)

-- those that a process waits for
abbrev pub ListsOthers : {A : Type 0} → Ends → Tables → ℕ → Vec ℕ A → Type 0
ListsOthers ends tables n others = HeldBy tables (λ net. others.items ≡ others_noted ends net.tasks n)

abbrev pub HoldWaits : Ends → Tables → ℕ → List Fan → Type 0
HoldWaits ends tables below fans = HeldBy tables (λ net. AreWaits (others_noted ends net.tasks) below below fans)

abbrev pub HoldsCircle : {A : Type 0} → Ends → Tables → ℕ → Vec ℕ A → Type 0
HoldsCircle ends tables below ns = HeldBy tables (λ net. IsCircle (others_noted ends net.tasks) below ns.items)

-- whoever is next: what circles, some, makes this ring
abbrev pub MakesRing : (ns ring : List ℕ) → Type 0
MakesRing ns ring = (others : ℕ → List ℕ) → 0 < length ns → Circles others ns → IsRing others ring

-- the last of these that is in the set, and may use the channel so, is noted where nobody was
pub record MarkedLast (set : ℕ → Bool) (kind : Uses → Numbers) (ps : List Using) (old new : List (Option ℕ)) : Type 0 where
  pub ends : (c : ℕ) → slice_get new c ≡ option_map (λ end. or_first end (last_with set kind c ps)) (slice_get old c)
  pub as_many : length new ≡ length old

abbrev pub MarksReaders : Ends → List Use → ℕ → Ends → Type 0
MarksReaders old uses n new = Marks old.readers.items (uses_in uses).ins n new.readers.items

abbrev pub MarksWriters : Ends → List Use → ℕ → Ends → Type 0
MarksWriters old uses n new = Marks old.writers.items (uses_in uses).outs n new.writers.items

abbrev pub MarksAll : Tables → (Uses → Numbers) → List ProcessUses → (old new : List (Option ℕ)) → Type 0
MarksAll tables kind ps old new = HeldBy tables (λ net. MarkedIn (stands net.tasks) kind (map noted_for ps) old new)

abbrev pub AreEndsBy : List ProcessUses → Tables → ℕ → Ends → Type 0
AreEndsBy ps tables channels ends = HeldBy tables (λ net. AreEnds (map noted_for ps) net.tasks channels ends)

abbrev pub MarksLast : (set : ℕ → Bool) → (Uses → Numbers) → List ProcessUses → (old new : List (Option ℕ)) → Type 0
MarksLast set kind ps old new = MarkedLast set kind (map noted_for ps) old new

abbrev pub AreDueBy : List ProcessUses → Tables → (again : ℕ → Bool) → ℕ → Ends → Type 0
AreDueBy ps tables again channels ends = HeldBy tables (λ net. AreDue (map noted_for ps) again net.tasks channels ends)

-- behind all that stood there
abbrev pub AddsUses : {A : Type 0} → Vec ProcessUses A → List Numbered → Vec ProcessUses A → Type 0
AddsUses old ps new = ListsUses old.items ps new.items

abbrev pub AddsBehind : {A : Type 0} → Vec ProcessUses A → (others all : List Numbered) → Vec ProcessUses A → Type 0
AddsBehind old others all new = (before : List ProcessUses) → ListsUses before others old.items → ListsUses before all new.items

-- those of one before whatever others, where it is put before them so
abbrev pub AddsAhead : {A S : Type 0} → (branches : S → List Numbered) → (put : S → S) → (old new : Vec ProcessUses A) → Type 0
AddsAhead {S = S} branches put old new = (others : S) → AddsBehind old (branches others) (branches (put others)) new
