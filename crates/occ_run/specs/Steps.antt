-- What a worker's steps under the lock do.
-- Manual: nothing; this is (own).
use Rattle.std.specs.Prelude.{IsSome, None, Option, Some, false, if◌then◌else◌, is_some, length, min, ℕ, ◌+◌, ◌-◌, ◌<◌, ◌^◌, ◌≤◌, ◌≡◌, ◌⊎◌}
use Rattle.occ_net_replay.specs.Replay.{Net, ending_of}
use Rattle.occ_net.specs.declared.leasing.Lease.{Lease}
use Rattle.occ_net.specs.Leases.{CanTakeTurn, Leases, LeasesOne}
use Rattle.occ_net.specs.Networks.{InState, IsState, Past, ready_in, with_out}
use Rattle.occ_net.specs.Stretches.{AreOwn, CanGoOn, SettlesAll}
use Rattle.occ_run.specs.declared.progress.Next.{Next}
use Rattle.occ_run.specs.declared.progress.Next.TheVariants as next
use Rattle.occ_run.specs.declared.progress.Progress.{Progress}
use Rattle.occ_run.specs.declared.progress.Stop.{Stop}
use Rattle.occ_run.specs.declared.progress.Stop.TheVariants.{Memory}
use Rattle.occ_run.specs.declared.stretch.Stretch.{Stretch}
use Rattle.occ_run.specs.declared.progress.Wake.{Wake}
use Rattle.occ_run.specs.declared.progress.Wake.TheVariants.{Nobody, One, All}

-- a further turn may be settled: nothing was refused, the limit is not reached, and the network goes on
pub record IsOpen (b : Progress) : Type 0 where
  pub unrefused : b.stop ≡ None
  pub below : length b.network.choices < b.limit
  pub goes_on : (net : Net) → IsState b.network net → ending_of b.network.program.errors net ≡ None

-- none may: something was refused, or the limit is reached, or the network has an ending
abbrev pub IsOver : Progress → Type 0
IsOver b =
    IsSome b.stop
    ⊎ (b.limit ≤ length b.network.choices)
    ⊎ ((net : Net) → IsState b.network net → IsSome (ending_of b.network.program.errors net))

-- a count goes up by one, to 2 ^ 32 - 1 at most
abbrev pub counted_up : ℕ → ℕ
counted_up n = min (n + 1) (2 ^ 32 - 1)

-- the first reason to stop stands
abbrev pub first_stop : Option Stop → Stop → Option Stop
first_stop before stop = if is_some before then before else Some stop

-- nobody goes out, comes in, rests or is woken
pub record KeepsCounts (old new : Progress) : Type 0 where
  pub out : new.out ≡ old.out
  pub resting : new.resting ≡ old.resting

-- a turn of an open run is leased, and one more is out
pub record Runs (old : Progress) (lease : Lease) (new : Progress) : Type 0 where
  pub going : IsOpen old
  pub leases : (net : Net) → IsState old.network net → LeasesOne old.network net lease new.network
  pub can : CanTakeTurn lease
  pub goes_on : CanGoOn lease
  pub stop : new.stop ≡ old.stop
  pub out : new.out ≡ counted_up old.out
  pub resting : new.resting ≡ old.resting

-- a run is open, and no turn can be leased; one more worker rests
pub record Rests (old new : Progress) : Type 0 where
  pub going : IsOpen old
  pub leases : (net : Net) → IsState old.network net → Leases old.network net None new.network
  pub stop : new.stop ≡ old.stop
  pub out : new.out ≡ old.out
  pub resting : new.resting ≡ counted_up old.resting

-- a run is over already, or an open one stops since a growth was refused; nothing else changes
pub record LeavesRun (old new : Progress) : Type 0 where
  pub network : new.network ≡ old.network
  pub why : (IsOver old × (new.stop ≡ old.stop)) ⊎ (IsOpen old × (new.stop ≡ Some Memory))
  pub counts : KeepsCounts old new

-- What a worker does next: it runs the turn that it has leased, or rests where there is none to be leased, or leaves.
abbrev pub IsStep : Progress → Progress → Next → Type 0
IsStep old new (next.Run lease most) = Runs old lease new
IsStep old new next.Rest = Rests old new
IsStep old new next.Leave = LeavesRun old new

-- turns in a row are the network's own
abbrev pub AreTurnsOf : Past → Stretch → Type 0
AreTurnsOf n s = InState n (λ net. AreOwn n net s.number s.count s.after)

-- turns of an open run are settled, each with the number of choices so far as its pick
pub record TakesThem (old new : Progress) (number count : ℕ) : Type 0 where
  pub going : IsOpen old
  pub within : length old.network.choices + count ≤ old.limit
  pub small : count < 2 ^ 32
  pub settles : SettlesAll old.network number count (length old.network.choices) new.network
  pub stop : new.stop ≡ old.stop

-- turns that come when the run is over, or are more than the limit leaves, are dropped, and their process is in again
pub record Drops (old new : Progress) (number count : ℕ) : Type 0 where
  pub over : IsOver old ⊎ (old.limit < length old.network.choices + count)
  pub released : new.network ≡ with_out old.network number false
  pub stop : new.stop ≡ old.stop

-- an open run stops, since a growth was refused for turns: their process is in again
pub record StopsAt (old new : Progress) (number : ℕ) : Type 0 where
  pub going : IsOpen old
  pub released : new.network ≡ with_out old.network number false
  pub stop : new.stop ≡ Some Memory

-- a process that was refused a turn is in again, and the run stops, if it has not stopped
abbrev pub GivesBack : Progress → Progress → (number : ℕ) → Type 0
GivesBack old new number = (new.network ≡ with_out old.network number false) × (new.stop ≡ first_stop old.stop Memory)

abbrev pub TakesIn : Progress → Progress → ℕ → ℕ → Type 0
TakesIn old new number count = TakesThem old new number count ⊎ Drops old new number count ⊎ StopsAt old new number

-- Who is woken: where workers rest, one of them where more processes are ready than are out, all where the run is over, and else
-- nobody. Those that are woken no longer count as resting.
abbrev pub IsWake : Progress → Progress → Wake → Type 0
IsWake old new Nobody =
    (new.resting ≡ old.resting)
    × ((old.resting ≡ 0) ⊎ (IsOpen old × ((net : Net) → IsState old.network net → length (ready_in net) ≤ old.out)))
IsWake old new One = (new.resting + 1 ≡ old.resting) × IsOpen old × ((net : Net) → IsState old.network net → old.out < length (ready_in net))
IsWake old new All = (new.resting ≡ 0) × (0 < old.resting) × IsOver old
