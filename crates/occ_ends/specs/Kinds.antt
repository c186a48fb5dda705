-- What kind of stop a run has come to: whether processes wait for one another, some were halted, some were still to end, or endless
-- ones alone are left.
-- Manual: nothing; this is (own).
use Rattle.std.specs.Prelude.{Bool, IsTrue, List, [], false, if◌then◌else◌, length, map, slice_get, suc, true, zero, ℕ, ◌++◌, ◌<◌, ◌≡◌, ◌∷◌, Vec}
use Rattle.occ_term.specs.Frames.{is_held}
use Rattle.occ_machine.specs.Compiled.{Program}
use Rattle.occ_machine.specs.Machine.{Body}
use Rattle.occ_machine.specs.SameStop.{IsRising}
use Rattle.occ_machine.specs.declared.task.Task.{Task}
use Rattle.occ_machine.specs.declared.task.Wait.{Wait}
use Rattle.occ_machine.specs.declared.task.Wait.TheVariants.{Ready, Took, Offers, Awaits, Chooses, Joins, Halted, Done, Faulted}
use Rattle.occ_net_replay.specs.Replay.{HasTask, Tasks}
use Rattle.occ_net_tables.specs.Holding.{HeldBy}
use Rattle.occ_net_tables.specs.declared.tables.Tables.{Tables}
use Rattle.occ_ends.specs.declared.kinds.Kind.{Kind}
use Rattle.occ_ends.specs.declared.kinds.Kind.TheVariants as K
use Rattle.occ_ends.specs.declared.kinds.Left.{Left}
use Rattle.occ_ends.specs.declared.uses.ProcessUses.{ProcessUses}
use Rattle.occ_ends.specs.Ends.{Circles, IsCircle, Using, noted_for, of_declared, others_of, reader_due, task_is, writer_due}
use Rattle.occ_ends.specs.Endless.{ComeAgain, HeldIn, IsEndless, flag}

-- ---- what processes stand at

-- halted, or at a fault
abbrev pub has_halted : Wait → Bool
has_halted Ready = false
has_halted (Took arm indices m) = false
has_halted (Offers c m) = false
has_halted (Awaits c) = false
has_halted (Chooses pri arms) = false
has_halted (Joins ns) = false
has_halted Halted = true
has_halted Done = false
has_halted (Faulted e) = true

-- it offers a message, awaits one, or chooses
abbrev pub is_at_channel : Wait → Bool
is_at_channel Ready = false
is_at_channel (Took arm indices m) = false
is_at_channel (Offers c m) = true
is_at_channel (Awaits c) = true
is_at_channel (Chooses pri arms) = true
is_at_channel (Joins ns) = false
is_at_channel Halted = false
is_at_channel Done = false
is_at_channel (Faulted e) = false

pub record IsHalted (tasks : Tasks) (n : ℕ) : Type 0 where
  pub task : Task
  pub there : HasTask tasks n task
  pub has : IsTrue (has_halted task.wait)

-- it stands at a channel, and was to come to its end
pub record IsUnfinished (bodies : List Body) (tasks : Tasks) (n : ℕ) : Type 0 where
  pub task : Task
  pub there : HasTask tasks n task
  pub at : IsTrue (is_at_channel task.wait)
  pub to_end : IsEndless bodies tasks n → ⊥

-- ---- kinds

-- Whom a process waits for, by what processes use, of a network with so many channels, where these come again.
abbrev pub others_among : List Using → (channels : ℕ) → (again : ℕ → Bool) → Tasks → ℕ → List ℕ
others_among us channels again tasks = others_of (of_declared channels (reader_due us again tasks)) (of_declared channels (writer_due us again tasks)) tasks

-- Some wait in a circle, each for the next.
pub record HasCircle (us : List Using) (p : Program) (tasks : Tasks) : Type 0 where
  pub again : ℕ → Bool
  pub come : ComeAgain p.bodies tasks again
  pub ring : List ℕ
  pub some : 0 < length ring
  pub waits : Circles (others_among us (length p.channels) again tasks) ring

-- A circle, once round, if there is one.
pub record TellsCircle (us : List Using) (p : Program) (tasks : Tasks) (ring : List ℕ) : Type 0 where
  pub again : ℕ → Bool
  pub come : ComeAgain p.bodies tasks again
  pub is : IsCircle (others_among us (length p.channels) again tasks) (length tasks) ring

abbrev pub SomeHalted : Tasks → Type 0
SomeHalted tasks = (n : ℕ) × IsHalted tasks n

abbrev pub SomeUnfinished : List Body → Tasks → Type 0
SomeUnfinished bodies tasks = (n : ℕ) × IsUnfinished bodies tasks n

-- The kind is the first of these that holds: processes wait in a circle; some were halted; some were not at their ends, and were to come
-- to them; all that are left at channels are endless.
abbrev pub IsKind : List Using → Program → Tasks → Kind → Type 0
IsKind us p tasks K.Circle = HasCircle us p tasks
IsKind us p tasks K.Halted = (HasCircle us p tasks → ⊥) × SomeHalted tasks
IsKind us p tasks K.Unfinished = (HasCircle us p tasks → ⊥) × (SomeHalted tasks → ⊥) × SomeUnfinished p.bodies tasks
IsKind us p tasks K.Idle = (HasCircle us p tasks → ⊥) × (SomeHalted tasks → ⊥) × (SomeUnfinished p.bodies tasks → ⊥)

-- ---- who is told of

-- they are all of which it is said, in rising order
pub record AreThose (Says : ℕ → Type 0) (ns : List ℕ) : Type 0 where
  pub each : (n : ℕ) → IsTrue (is_held ns n) → Says n
  pub all : (n : ℕ) → Says n → IsTrue (is_held ns n)
  pub rising : IsRising ns

-- Of a state: a circle of processes that wait, once round, if there is one; those that were halted; and those that were to come to their
-- ends.
pub record IsRest (us : List Using) (p : Program) (tasks : Tasks) (left : Left) : Type 0 where
  pub circle : TellsCircle us p tasks left.circle.items
  pub halted : AreThose (IsHalted tasks) left.halted.items
  pub unfinished : AreThose (IsUnfinished p.bodies tasks) left.unfinished.items

abbrev pub kind_by : (circle halted unfinished : List ℕ) → Kind
kind_by (n ∷ ns) halted unfinished = K.Circle
kind_by [] (n ∷ ns) unfinished = K.Halted
kind_by [] [] (n ∷ ns) = K.Unfinished
kind_by [] [] [] = K.Idle

abbrev pub kind_of : Left → Kind
kind_of left = kind_by left.circle.items left.halted.items left.unfinished.items

-- of whatever network of this program the tables hold
abbrev pub IsLeftIn : List ProcessUses → Program → Tables → Left → Type 0
IsLeftIn uses p tables left = HeldIn p tables (λ net. IsRest (map noted_for uses) p net.tasks left)

abbrev pub IsKindIn : List ProcessUses → Program → Tables → Kind → Type 0
IsKindIn uses p tables kind = HeldIn p tables (λ net. IsKind (map noted_for uses) p net.tasks kind)

-- ---- private contracts alone cite what follows

-- those of the first so many numbers for which a test holds
abbrev pub those : (ℕ → Bool) → ℕ → List ℕ
those test zero = []
those test (suc n) = those test n ++ (if test n then n ∷ [] else [])

abbrev pub halts_at : Tasks → ℕ → Bool
halts_at tasks n = task_is has_halted (slice_get tasks n)

abbrev pub is_left_at : List Bool → Tasks → ℕ → Bool
is_left_at flags tasks n = if flag flags n then false else task_is is_at_channel (slice_get tasks n)

abbrev pub AreThoseIn : {A : Type 0} → Tables → (Tasks → ℕ → Bool) → ℕ → Vec ℕ A → Type 0
AreThoseIn tables test count ns = HeldBy tables (λ net. ns.items ≡ those (test net.tasks) count)
