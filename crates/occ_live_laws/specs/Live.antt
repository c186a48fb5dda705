-- Replays that never look past the keyboard's bytes, and what more bytes change of them: nothing.
-- Manual: nothing; this is (own).
use Rattle.std.specs.Prelude.{Bool, IsFalse, IsTrue, List, None, Some, [], false, length, nat_eq, slice_set, ℕ, ⊤, ◌++◌, ◌<◌, ◌^◌, ◌||◌, ◌∷◌, ◌≡◌}
use Rattle.occ_term.specs.Runs.{bytes_of, messages_on}
use Rattle.occ_term.specs.UnfoldedProgram.{IsWellFormed, Lawful, UnfoldedProgram}
use Rattle.occ_term.specs.declared.ending.Ending.{Ending}
use Rattle.occ_machine.specs.Compiled.{IsCompiledFrom, Program}
use Rattle.occ_machine.specs.declared.task.Task.{Task}
use Rattle.occ_machine.specs.declared.task.Wait.{Wait}
use Rattle.occ_machine.specs.declared.task.Wait.TheVariants.{Ready, Took, Offers, Awaits, Chooses, Joins, Halted, Done, Faulted}
use Rattle.occ_net_replay.specs.declared.choice.Choice.{Choice}
use Rattle.occ_net_replay.specs.Following.{AreBytes}
use Rattle.occ_net_replay.specs.Replay.{HasTask, Net, OneTurn, Replays, arm_chosen, ending_of, first_net, offers_among}
use Rattle.occ_net_replay.specs.Waiting.{IsReplay, listens_on}

-- ---- more bytes

-- the same network with these bytes behind those that are left: the same tasks, communications, turns and faults
abbrev pub with_more : List ℕ → Net → Net
with_more more net = record net { keyboard = net.keyboard ++ more }

-- ---- what looks at the keyboard

-- where offers stand, if a byte of the keyboard stands too
abbrev pub or_keyboard : (ℕ → Bool) → ℕ → Bool
or_keyboard offers c = nat_eq c 0 || offers c

-- What a process does that stands at this is the same with a byte of the keyboard as without: it is at no input from the keyboard,
-- and at a choice it takes the same arm, or it has no arm for the keyboard.
abbrev pub IsDeaf : (pick : ℕ) (offers : ℕ → Bool) → Wait → Type 0
IsDeaf pick offers Ready = ⊤
IsDeaf pick offers (Took arm indices m) = ⊤
IsDeaf pick offers (Offers c m) = ⊤
IsDeaf pick offers (Awaits c) = nat_eq c 0 ≡ false
IsDeaf pick offers (Chooses pri arms) = arm_chosen pri pick (or_keyboard offers) arms ≡ arm_chosen pri pick offers arms
IsDeaf pick offers (Joins ns) = ⊤
IsDeaf pick offers Halted = ⊤
IsDeaf pick offers Done = ⊤
IsDeaf pick offers (Faulted e) = ⊤

-- A turn by which a process comes to this task doesn't look past the bytes: one is left, or it makes no difference.
abbrev pub StaysWithin : (pick : ℕ) → Net → (n : ℕ) → Task → Type 0
StaysWithin pick net n after = net.keyboard ≡ [] → IsDeaf pick (offers_among (slice_set net.tasks n (Some after))) after.wait

-- a process that does not wait for a message of the keyboard is deaf
abbrev pub OthersAreDeaf : Type 0
OthersAreDeaf = (pick : ℕ) (offers : ℕ → Bool) (w : Wait) → IsFalse (listens_on w 0) → IsDeaf pick offers w

-- ---- replays within the bytes

-- a replay of which no turn looks past the keyboard's bytes
pub data ReplaysWithin (p : Program) (keyboard : List ℕ) : List Choice → Net → Type 0 where
  begins : ReplaysWithin p keyboard [] (first_net p keyboard)
  goes_on : {cs : List Choice} {c : Choice} {a b : Net} → ReplaysWithin p keyboard cs a → ending_of p.errors a ≡ None → (o : OneTurn p c a b) → StaysWithin c.pick a o.number o.after
      → ReplaysWithin p keyboard (cs ++ c ∷ []) b

-- it is a replay
abbrev pub WithinReplays : Type 0
WithinReplays = (p : Program) (keyboard : List ℕ) (cs : List Choice) (net : Net) → ReplaysWithin p keyboard cs net → Replays p keyboard cs net

-- With more bytes it is the same replay, and more are left: the same tasks, the same communications, turns and faults, and so the same
-- ending and the same answer.
abbrev pub MoreBytes : Type 0
MoreBytes = (p : Program) (keyboard more : List ℕ) (cs : List Choice) (net : Net) → ReplaysWithin p keyboard cs net → ReplaysWithin p (keyboard ++ more) cs (with_more more net)

-- between two turns no process waits for a byte of the keyboard
abbrev pub NobodyHears : Net → Type 0
NobodyHears net = (i : ℕ) (t : Task) → HasTask net.tasks i t → IsTrue (listens_on t.wait 0) → ⊥

abbrev pub NobodyWaits : Type 0
NobodyWaits = (p : Program) (keyboard : List ℕ) (cs : List Choice) (net : Net) → ReplaysWithin p keyboard cs net → NobodyHears net

-- ---- turn by turn

-- The same of one turn: where nobody waits for a byte and the turn doesn't look past the bytes, it is the same turn with more of them, and behind
-- it nobody waits for a byte again.
pub record IsSameTurn (p : Program) (c : Choice) (a b : Net) (n : ℕ) (after : Task) (more : List ℕ) : Type 0 where
  pub turn : OneTurn p c (with_more more a) (with_more more b)
  pub number : turn.number ≡ n
  pub task : turn.after ≡ after
  pub hears : NobodyHears b

abbrev pub TurnsWithMore : Type 0
TurnsWithMore = (p : Program) (c : Choice) (a b : Net) (more : List ℕ) → NobodyHears a → (o : OneTurn p c a b) → StaysWithin c.pick a o.number o.after → IsSameTurn p c a b o.number o.after more

-- In a lawful program a turn that looks past the bytes is another one with one byte more, whatever that byte is: so what comes next depends on
-- whether there is one.
abbrev pub LooksMatter : Type 0
LooksMatter =
    (u : UnfoldedProgram) (p : Program) (quantum : ℕ) (keyboard : List ℕ) (cs : List Choice) (c : Choice) (a b other : Net) (byte : ℕ)
    → IsReplay u p quantum keyboard cs a → (o : OneTurn p c a b) → (StaysWithin c.pick a o.number o.after → ⊥)
    → OneTurn p c (with_more (byte ∷ []) a) other → other ≡ with_more (byte ∷ []) b → ⊥

-- ---- bytes that come while it goes on

-- A replay that has been given some bytes so far: it begins without any, gets more between two turns, and takes turns that do not look
-- past those that it has.
pub data LiveReplay (p : Program) : (read : List ℕ) → List Choice → Net → Type 0 where
  starts : LiveReplay p [] [] (first_net p [])
  reads : {read : List ℕ} {cs : List Choice} {net : Net} → LiveReplay p read cs net → (more : List ℕ) → LiveReplay p (read ++ more) cs (with_more more net)
  turns : {read : List ℕ} {cs : List Choice} {c : Choice} {a b : Net} → LiveReplay p read cs a → ending_of p.errors a ≡ None → (o : OneTurn p c a b) → StaysWithin c.pick a o.number o.after
      → LiveReplay p read (cs ++ c ∷ []) b

-- At every moment it is the replay for all bytes so far, and with any bytes behind these.
abbrev pub LiveReplays : Type 0
LiveReplays = (p : Program) (read more : List ℕ) (cs : List Choice) (net : Net) → LiveReplay p read cs net → ReplaysWithin p (read ++ more) cs (with_more more net)

-- Once it is known that no byte is left, it goes on as any replay of the bytes does.
abbrev pub LiveAtEnd : Type 0
LiveAtEnd = (p : Program) (read : List ℕ) (cs : List Choice) (net : Net) → LiveReplay p read cs net → Replays p read cs net

-- ---- bytes that were read ahead

-- the same network with these bytes left
abbrev pub with_left : List ℕ → Net → Net
with_left left net = record net { keyboard = left }

-- some bytes were taken; with any others in the place of those that are left the same choices come to the same network, with these left
pub record TookBytes (p : Program) (keyboard : List ℕ) (cs : List Choice) (net : Net) (left others : List ℕ) : Type 0 where
  pub taken : List ℕ
  pub are : keyboard ≡ taken ++ left
  pub replays : Replays p (taken ++ others) cs (with_left others net)

-- Of bytes that are left it matters alone that there is one, and neither which they are nor how many. So bytes that were read before they
-- were asked for play no part.
abbrev pub BytesAhead : Type 0
BytesAhead =
    (p : Program) (keyboard : List ℕ) (cs : List Choice) (net : Net) (b : ℕ) (left : List ℕ) (d : ℕ) (others : List ℕ)
    → Replays p keyboard cs net → net.keyboard ≡ b ∷ left → TookBytes p keyboard cs net (b ∷ left) (d ∷ others)

-- ---- what is shown while it goes on

-- the bytes that the screen has
abbrev pub screen_bytes : Net → List ℕ
screen_bytes net = bytes_of (messages_on 1 net.trace)

-- a replay of the code of a lawful program by some first choices, and more since
pub record GoesOnTo (u : UnfoldedProgram) (p : Program) (quantum : ℕ) (keyboard : List ℕ) (first since : List Choice) (last : Net) : Type 0 where
  pub well_formed : IsWellFormed u
  pub lawful : Lawful u
  pub compiled : IsCompiledFrom u quantum p
  pub bytes : AreBytes keyboard
  pub few : length first < 2 ^ 64
  pub replays : Replays p keyboard (first ++ since) last

-- What the screen has at a moment is a beginning of what it has later, whatever bytes come and whatever is chosen.
abbrev pub ShownStays : Type 0
ShownStays =
    (u : UnfoldedProgram) (p : Program) (quantum : ℕ) (read more : List ℕ) (first since : List Choice) (net last : Net)
    → LiveReplay p read first net → GoesOnTo u p quantum (read ++ more) first since last → (shown : List ℕ) × (screen_bytes last ≡ screen_bytes net ++ shown)

-- the same where it is known which bytes there are
abbrev pub ShownGrows : Type 0
ShownGrows =
    (u : UnfoldedProgram) (p : Program) (quantum : ℕ) (keyboard : List ℕ) (first since : List Choice) (net last : Net)
    → Replays p keyboard first net → GoesOnTo u p quantum keyboard first since last → (shown : List ℕ) × (screen_bytes last ≡ screen_bytes net ++ shown)

-- Where it has ended, this is the end, whatever bytes would have followed and whatever would have been chosen.
abbrev pub EndsForAll : Type 0
EndsForAll =
    (u : UnfoldedProgram) (p : Program) (quantum : ℕ) (read more : List ℕ) (first since : List Choice) (net last : Net) (e : Ending)
    → LiveReplay p read first net → ending_of p.errors net ≡ Some e → GoesOnTo u p quantum (read ++ more) first since last → (since ≡ []) × (last ≡ with_more more net)
