-- Which processes wait for good: whatever choices follow, they take no turn.
-- Manual: the usage rules check list, for who may be at the other end of a channel. The rest is (own).
use Rattle.std.specs.Prelude.{Bool, IsFalse, IsTrue, List, None, Option, Some, [], false, length, map, not, slice_get, true, ℕ, ◌&&◌, ◌+◌, ◌++◌, ◌<◌, ◌^◌, ◌||◌, ◌∷◌, ◌≡◌, ◌≤◌, ◌⊎◌, Vec}
use Rattle.occ_term.specs.Frames.{is_held}
use Rattle.occ_term.specs.Processes.{numbered, processes_of}
use Rattle.occ_term.specs.Terms.{Term}
use Rattle.occ_term.specs.UnfoldedProgram.{UnfoldedProgram, meaning}
use Rattle.occ_machine.specs.Compiled.{Program}
use Rattle.occ_machine.specs.declared.task.Arm.{Arm}
use Rattle.occ_machine.specs.declared.task.Task.{Task}
use Rattle.occ_machine.specs.declared.task.Wait.{Wait}
use Rattle.occ_machine.specs.declared.task.Wait.TheVariants.{Ready, Took, Offers, Awaits, Chooses, Joins, Halted, Done, Faulted}
use Rattle.occ_net_replay.specs.declared.choice.Choice.{Choice}
use Rattle.occ_net_replay.specs.Replay.{HasTask, Net, OneTurn, Tasks, ending_of, is_done, may_go, offers_on}
use Rattle.occ_net_replay.specs.Waiting.{IsReplay, listens_on}
use Rattle.occ_net_tables.specs.Holding.{HeldBy}
use Rattle.occ_net_tables.specs.declared.tables.Tables.{Tables}
use Rattle.occ_usage.specs.Noted.{uses_in}
use Rattle.occ_ends.specs.declared.kinds.Left.{Left}
use Rattle.occ_ends.specs.declared.uses.ProcessUses.{ProcessUses}
use Rattle.occ_term.specs.Uses.{Numbers, Uses, uses_of}
use Rattle.occ_ends.specs.Ends.{Using, all_using, is_unended, noted_for, task_is}
use Rattle.occ_ends.specs.Endless.{HeldIn, flag}
use Rattle.occ_ends.specs.Kinds.{AreThose, HasCircle, IsUnfinished, SomeHalted, is_at_channel}

-- further choices lead from a network to another one; none after an ending
pub data LeadsLater (p : Program) (a : Net) : List Choice → Net → Type 0 where
  stays : LeadsLater p a [] a
  goes_on : {cs : List Choice} {c : Choice} {b d : Net} → LeadsLater p a cs b → ending_of p.errors b ≡ None → OneTurn p c b d → LeadsLater p a (cs ++ c ∷ []) d

-- a set of processes, by their numbers
abbrev pub Set : Type 0
Set = ℕ → Bool

-- who is in the set has the task that it had
abbrev pub KeepsTasks : Set → Net → Net → Type 0
KeepsTasks set a b = (n : ℕ) → IsTrue (set n) → slice_get b.tasks n ≡ slice_get a.tasks n

-- Whatever choices follow, so many at most: who is in the set has the task that it had, and no turn is its own.
pub record WaitForGood (p : Program) (most : ℕ) (net : Net) (set : Set) : Type 0 where
  pub as_they_are : (cs : List Choice) (b : Net) → length cs ≤ most → LeadsLater p net cs b → KeepsTasks set net b
  pub no_turn : (cs : List Choice) (c : Choice) (b d : Net) → length cs < most → LeadsLater p net cs b → ending_of p.errors b ≡ None → (o : OneTurn p c b d) → IsFalse (set o.number)

-- ---- who waits for good, by what processes use

-- one of these is in the set, and not at its end
pub record HasLeft (tasks : Tasks) (set : Set) (ns : List ℕ) : Type 0 where
  pub number : ℕ
  pub task : Task
  pub held : IsTrue (is_held ns number)
  pub inside : IsTrue (set number)
  pub there : HasTask tasks number task
  pub unended : IsFalse (is_done task.wait)

-- one of these processes is not in the set
pub record IsOutside (us : List Using) (set : Set) (x : Using) : Type 0 where
  pub place : ℕ
  pub there : slice_get us place ≡ Some x
  pub out : IsFalse (set x.number)

-- Who stands at this may not go on. No process outside the set, with its branches, inputs from the channel on which it offers a message, or
-- outputs to one on which it listens. Where it waits for its branches, one of them is in the set and not at its end.
pub record IsLeftWithin (us : List Using) (tasks : Tasks) (set : Set) (w : Wait) : Type 0 where
  pub still : IsFalse (may_go w)
  pub unread : (x : Using) (c : ℕ) → IsOutside us set x → IsTrue (offers_on w c) → IsFalse (x.uses.ins c)
  pub unwritten : (x : Using) (c : ℕ) → IsOutside us set x → IsTrue (listens_on w c) → IsFalse (x.uses.outs c)
  pub unjoined : (ns : List ℕ) → w ≡ Joins ns → HasLeft tasks set ns

-- Each of the set that has begun is left so. With a process outside, all within it are outside: its branches, theirs, and so on, whose
-- numbers are next behind its own.
pub record IsClosedSet (us : List Using) (tasks : Tasks) (set : Set) : Type 0 where
  pub left : (n : ℕ) (t : Task) → IsTrue (set n) → HasTask tasks n t → IsLeftWithin us tasks set t.wait
  pub whole : (x : Using) (n : ℕ) → IsOutside us set x → x.number < n → n < x.number + 1 + x.within → IsFalse (set n)

-- in a replay, where it and what follows have fewer than 2 to the 64 choices
abbrev pub ClosedSetsWaitForGood : Type 0
ClosedSetsWaitForGood =
    (u : UnfoldedProgram) (p : Program) (quantum : ℕ) (keyboard : List ℕ) (cs : List Choice) (net : Net) (most : ℕ) (set : Set)
    → IsReplay u p quantum keyboard cs net → length cs + most < 2 ^ 64 → IsClosedSet (all_using (meaning u)) net.tasks set → WaitForGood p most net set

-- ---- who waits for one another

-- one of the set, with its branches, uses the channel so
pub record IsUsedWithin (t : Term) (set : Set) (kind : Uses → Numbers) (c : ℕ) : Type 0 where
  pub number : ℕ
  pub term : Term
  pub there : slice_get (processes_of t) number ≡ Some (numbered number term)
  pub inside : IsTrue (set number)
  pub uses : IsTrue (kind (uses_of term) c)

-- It stands at a channel. One of the set inputs from that on which it offers a message, and one outputs to each on which it listens.
pub record WaitsWithin (t : Term) (tasks : Tasks) (set : Set) (n : ℕ) : Type 0 where
  pub task : Task
  pub there : HasTask tasks n task
  pub at : IsTrue (is_at_channel task.wait)
  pub read : (c : ℕ) → IsTrue (offers_on task.wait c) → IsUsedWithin t set (λ u. u.ins) c
  pub written : (c : ℕ) → IsTrue (listens_on task.wait c) → IsUsedWithin t set (λ u. u.outs) c

-- Each of the set waits for others of it, as in a circle. By the usage rules nobody outside comes to the other ends of their channels.
abbrev pub CirclesWaitForGood : Type 0
CirclesWaitForGood =
    (u : UnfoldedProgram) (p : Program) (quantum : ℕ) (keyboard : List ℕ) (cs : List Choice) (net : Net) (most : ℕ) (set : Set)
    → IsReplay u p quantum keyboard cs net → length cs + most < 2 ^ 64 → ((n : ℕ) → IsTrue (set n) → WaitsWithin (meaning u) net.tasks set n) → WaitForGood p most net set

-- ---- the greatest closed set

-- who is in the first set is in the second
abbrev pub IsWithin : (inner outer : Set) → Type 0
IsWithin inner outer = (n : ℕ) → IsTrue (inner n) → IsTrue (outer n)

-- it has numbers of processes alone
abbrev pub HasProcesses : Tasks → Set → Type 0
HasProcesses tasks set = (n : ℕ) → IsTrue (set n) → n < length tasks

-- a closed set, within which each other one is
pub record IsGreatest (us : List Using) (tasks : Tasks) (set : Set) : Type 0 where
  pub closed : IsClosedSet us tasks set
  pub most : (other : Set) → HasProcesses tasks other → IsClosedSet us tasks other → IsWithin other set

-- one of the set, which stands at a channel
pub record StandsInSet (set : Set) (tasks : Tasks) (n : ℕ) : Type 0 where
  pub inside : IsTrue (set n)
  pub task : Task
  pub there : HasTask tasks n task
  pub at : IsTrue (is_at_channel task.wait)

-- those of the greatest closed set that stand at channels
pub record AreWaiting (us : List Using) (tasks : Tasks) (ns : List ℕ) : Type 0 where
  pub set : Set
  pub greatest : IsGreatest us tasks set
  pub are : AreThose (StandsInSet set tasks) ns

-- of whatever network of this program the tables hold
abbrev pub AreWaitingIn : {A : Type 0} → List ProcessUses → Program → Tables → Vec ℕ A → Type 0
AreWaitingIn uses p tables ns = HeldIn p tables (λ net. AreWaiting (map noted_for uses) net.tasks ns.items)

-- ---- who waits for good, and is not idle

-- Where these wait, some wait in a circle, some were halted, or one of these was to come to its end.
pub data IsAmiss (us : List Using) (p : Program) (tasks : Tasks) (ns : List ℕ) : Type 0 where
  circling : HasCircle us p tasks → IsAmiss us p tasks ns
  halting : SomeHalted tasks → IsAmiss us p tasks ns
  lacking : (n : ℕ) → IsTrue (is_held ns n) → IsUnfinished p.bodies tasks n → IsAmiss us p tasks ns

-- Those that wait for good, where something is amiss; else nobody, as of idle ones.
pub record AreStuck (us : List Using) (p : Program) (tasks : Tasks) (ns : List ℕ) : Type 0 where
  pub all : List ℕ
  pub waiting : AreWaiting us tasks all
  pub told : (IsAmiss us p tasks all × (ns ≡ all)) ⊎ (ns ≡ [])
  pub unless : IsAmiss us p tasks all → ns ≡ all

-- of whatever network of this program the tables hold
abbrev pub AreStuckIn : {A : Type 0} → List ProcessUses → Program → Tables → Vec ℕ A → Type 0
AreStuckIn uses p tables ns = HeldIn p tables (λ net. AreStuck (map noted_for uses) p net.tasks ns.items)

-- ---- private contracts alone cite what follows

-- some process outside the flagged ones may use the channel so
abbrev pub used_outside : (Uses → Numbers) → List Using → List Bool → ℕ → Bool
used_outside kind [] flags c = false
used_outside kind (x ∷ us) flags c = (not (flag flags x.number) && kind x.uses c) || used_outside kind us flags c

abbrev pub reads_outside : ProcessUses → List Bool → ℕ → Bool
reads_outside p flags c = not (flag flags p.number) && (uses_in p.uses).ins c

abbrev pub writes_outside : ProcessUses → List Bool → ℕ → Bool
writes_outside p flags c = not (flag flags p.number) && (uses_in p.uses).outs c

-- such a process may output to the channel of an arm; SKIP has none
abbrev pub arm_used : List Using → List Bool → Option ℕ → Bool
arm_used us flags None = false
arm_used us flags (Some c) = used_outside (λ u. u.outs) us flags c

abbrev pub arms_used : List Using → List Bool → List Arm → Bool
arms_used us flags [] = false
arms_used us flags (a ∷ arms) = arm_used us flags a.chan || arms_used us flags arms

abbrev pub branch_left : Tasks → List Bool → ℕ → Bool
branch_left tasks flags n = flag flags n && task_is is_unended (slice_get tasks n)

abbrev pub some_left : Tasks → List Bool → List ℕ → Bool
some_left tasks flags [] = false
some_left tasks flags (n ∷ ns) = branch_left tasks flags n || some_left tasks flags ns

-- whether one that stands at this is left, by those outside the flagged ones
abbrev pub is_left_by : Tasks → List Using → List Bool → Wait → Bool
is_left_by tasks us flags Ready = false
is_left_by tasks us flags (Took arm indices m) = false
is_left_by tasks us flags (Offers c m) = not (used_outside (λ u. u.ins) us flags c)
is_left_by tasks us flags (Awaits c) = not (used_outside (λ u. u.outs) us flags c)
is_left_by tasks us flags (Chooses pri arms) = not (arms_used us flags arms)
is_left_by tasks us flags (Joins ns) = some_left tasks flags ns
is_left_by tasks us flags Halted = true
is_left_by tasks us flags Done = true
is_left_by tasks us flags (Faulted e) = true

abbrev pub LeftBy : Tables → List ProcessUses → List Bool → Wait → Bool → Type 0
LeftBy tables uses flags w b = HeldBy tables (λ net. b ≡ is_left_by net.tasks (map noted_for uses) flags w)

-- who has not begun is left
abbrev pub task_is_left : Tasks → List Using → List Bool → Option (Option Task) → Bool
task_is_left tasks us flags None = true
task_is_left tasks us flags (Some None) = true
task_is_left tasks us flags (Some (Some t)) = is_left_by tasks us flags t.wait

abbrev pub TaskLeftBy : Tables → List ProcessUses → List Bool → ℕ → Bool → Type 0
TaskLeftBy tables uses flags n b = HeldBy tables (λ net. b ≡ task_is_left net.tasks (map noted_for uses) flags (slice_get net.tasks n))

-- each flagged one of the first so many is left
abbrev pub AreLeftBy : Tables → List ProcessUses → List Bool → ℕ → Type 0
AreLeftBy tables uses flags count =
    HeldBy tables (λ net. (n : ℕ) → n < count → IsTrue (flag flags n) → IsTrue (task_is_left net.tasks (map noted_for uses) flags (slice_get net.tasks n)))

-- none of so many behind that number is flagged
abbrev pub NoneWithin : List Bool → (n within : ℕ) → Type 0
NoneWithin flags n within = (k : ℕ) → n < k → k < n + 1 + within → IsFalse (flag flags k)

abbrev pub OutWithAll : List Bool → (n within : ℕ) → Type 0
OutWithAll flags n within = IsFalse (flag flags n) → NoneWithin flags n within

abbrev pub AreOutWithAll : List ProcessUses → List Bool → Type 0
AreOutWithAll uses flags = (x : Using) → IsOutside (map noted_for uses) (flag flags) x → NoneWithin flags x.number x.within

-- of whatever network the tables hold, the flagged ones are a closed set
abbrev pub IsClosedIn : List ProcessUses → Program → Tables → List Bool → Type 0
IsClosedIn uses p tables flags = HeldIn p tables (λ net. IsClosedSet (map noted_for uses) net.tasks (flag flags))

-- flags at other places alone are changed
abbrev pub ClearsWithin : (first last : ℕ) → (old new : List Bool) → Type 0
ClearsWithin first last old new = (k : ℕ) → (k < first) ⊎ (last ≤ k) → flag new k ≡ flag old k

-- each closed set of these tasks that was within the flagged ones is within them still
abbrev pub StaysInside : List Using → Tasks → (old new : List Bool) → Type 0
StaysInside us tasks old new = (set : Set) → IsClosedSet us tasks set → IsWithin set (flag old) → IsWithin set (flag new)

abbrev pub KeepsClosed : {A : Type 0} → List ProcessUses → Tables → (old new : Vec Bool A) → Type 0
KeepsClosed uses tables old new = HeldBy tables (λ net. StaysInside (map noted_for uses) net.tasks old.items new.items)

abbrev pub KeepsWhole : {A : Type 0} → List ProcessUses → (old new : Vec Bool A) → Type 0
KeepsWhole uses old new = (tasks : Tasks) → StaysInside (map noted_for uses) tasks old.items new.items

-- of one process alone
abbrev pub KeepsBeside : {A : Type 0} → ProcessUses → (old new : Vec Bool A) → Type 0
KeepsBeside process old new = (us : List Using) (tasks : Tasks) (place : ℕ) → slice_get us place ≡ Some (noted_for process) → StaysInside us tasks old.items new.items

abbrev pub IsGreatestIn : {A : Type 0} → List ProcessUses → Program → Tables → Vec Bool A → Type 0
IsGreatestIn uses p tables flags = HeldIn p tables (λ net. IsGreatest (map noted_for uses) net.tasks (flag flags.items))

-- it is flagged, and stands at a channel
abbrev pub waits_at : List Bool → Tasks → ℕ → Bool
waits_at flags tasks n = flag flags n && task_is is_at_channel (slice_get tasks n)

-- one of the first numbers is among the others
abbrev pub some_held : (ns others : List ℕ) → Bool
some_held [] others = false
some_held (n ∷ ns) others = is_held others n || some_held ns others

abbrev pub has_any : List ℕ → Bool
has_any [] = false
has_any (n ∷ ns) = true

-- whether something is amiss where those that are left are these, and those wait
abbrev pub amiss_by : Left → (waiting : List ℕ) → Bool
amiss_by left waiting = has_any left.circle.items || (has_any left.halted.items || some_held waiting left.unfinished.items)
