-- A choice among alternatives in a replay: which arm is taken, and by whose number.
-- Manual: nothing; this is (own).
use Rattle.std.specs.Prelude.{Bool, IsTrue, List, Option, Some, nat_eq, ℕ, ◌≡◌}
use Rattle.occ_term.specs.declared.message.Message.{Message}
use Rattle.occ_term.specs.UnfoldedProgram.{UnfoldedProgram}
use Rattle.occ_machine.specs.Compiled.{Program}
use Rattle.occ_machine.specs.declared.task.Arm.{Arm}
use Rattle.occ_machine.specs.declared.task.Task.{Task}
use Rattle.occ_machine.specs.declared.task.Wait.TheVariants.{Offers, Chooses}
use Rattle.occ_net_replay.specs.declared.choice.Choice.{Choice}
use Rattle.occ_net_replay.specs.Replay.{Net, HasTask, OneTurn, arm_chosen, standing, took_arm, took_turn}
use Rattle.occ_net_replay.specs.Waiting.{IsReplay, listens_on}

-- A process that comes to a choice with a ready arm takes at once the one that the rule gives by the number of that turn.
abbrev pub ChoicesTakeReadyArms : Type 0
ChoicesTakeReadyArms =
    (u : UnfoldedProgram) (p : Program) (quantum : ℕ) (keyboard : List ℕ) (cs : List Choice) (net : Net) (c : Choice) (b : Net) (o : OneTurn p c net b) (pri : Bool) (arms : List Arm) (arm : Arm)
    → IsReplay u p quantum keyboard cs net → o.after.wait ≡ Chooses pri arms → arm_chosen pri c.pick (standing (took_turn net o.number o.after)) arms ≡ Some arm
    → (m : Option Message) × HasTask b.tasks o.number (took_arm o.after arm m)

-- An offer that reaches a process which waits at a choice is taken by one of its arms on that channel, which the rule gives by the
-- number of the turn of the one that offers.
abbrev pub OffersReachChoices : Type 0
OffersReachChoices =
    (u : UnfoldedProgram) (p : Program) (quantum : ℕ) (keyboard : List ℕ) (cs : List Choice) (net : Net) (c : Choice) (b : Net) (o : OneTurn p c net b) (chan : ℕ) (m : Message) (i : ℕ) (t : Task) (pri : Bool) (arms : List Arm)
    → IsReplay u p quantum keyboard cs net → o.after.wait ≡ Offers chan m → HasTask net.tasks i t → t.wait ≡ Chooses pri arms → IsTrue (listens_on t.wait chan)
    → (arm : Arm) × (arm_chosen pri c.pick (λ d. nat_eq d chan) arms ≡ Some arm) × (arm.chan ≡ Some chan) × HasTask b.tasks i (took_arm t arm (Some m))
