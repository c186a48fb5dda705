-- Where offers stand, which arm is taken, and how a process takes a message.
-- Manual: nothing; this is (own).
use Rattle.std.specs.Prelude.{Bool, List, None, Option, Some, [], false, if◌then◌else◌, length, nat_eq, nat_lt, slice_get, true, ℕ, ◌||◌, ◌≡◌}
use Rattle.occ_machine.specs.declared.task.Arm.{Arm}
use Rattle.occ_machine.specs.declared.task.Wait.{Wait}
use Rattle.occ_machine.specs.declared.task.Wait.TheVariants.{Awaits, Chooses}
use Rattle.occ_net_replay.specs.Replay.{arm_chosen}
use Rattle.occ_net_tables.specs.Keys.{entry_in}
use Rattle.occ_term.specs.Selecting.{ready_among}

-- ---- where offers stand

abbrev pub is_same_number : Option ℕ → ℕ → Bool
is_same_number None c = false
is_same_number (Some d) c = nat_eq c d

abbrev pub is_entry : Option ℕ → Bool
is_entry None = false
is_entry (Some n) = true

-- on the channel that is named, if one is, and on those at which somebody stands in the table
abbrev pub offered_by : Option ℕ → List (Option ℕ) → ℕ → Bool
offered_by named table c = is_same_number named c || is_entry (entry_in table c)

-- the keyboard's channel, where not all of its bytes are taken
abbrev pub keyboard_at : List ℕ → ℕ → Option ℕ
keyboard_at keyboard used = if nat_lt used (length keyboard) then Some 0 else None

-- ---- arms

abbrev pub arm_at : List Arm → Option ℕ → Option Arm
arm_at arms None = None
arm_at arms (Some place) = slice_get arms place

-- an input takes its message as an arm with number 0
abbrev pub input_arm : ℕ → Arm
input_arm c = record { number = 0; chan = Some c; indices = [] }

-- a process that waits so takes a message from the channel by this arm
pub data TakesBy (pick : ℕ) (offers : ℕ → Bool) (c : ℕ) : Wait → Arm → Type 0 where
  by_input : TakesBy pick offers c (Awaits c) (input_arm c)
  by_choice : {pri : Bool} {arms : List Arm} {a : Arm} → arm_chosen pri pick offers arms ≡ Some a → a.chan ≡ Some c → TakesBy pick offers c (Chooses pri arms) a

-- ---- private contracts alone cite these

-- those that are ready, where offers stand so, and of these one
abbrev pub offered_arms : Option ℕ → List (Option ℕ) → List Arm → List Arm
offered_arms named table arms = ready_among (λ (a : Arm). a.chan) (offered_by named table) arms

abbrev pub offered_at : Option ℕ → List (Option ℕ) → List Arm → ℕ → Option Arm
offered_at named table arms n = slice_get (offered_arms named table arms) n

abbrev pub offered_arm : Bool → ℕ → Option ℕ → List (Option ℕ) → List Arm → Option Arm
offered_arm pri pick named table arms = arm_chosen pri pick (offered_by named table) arms
