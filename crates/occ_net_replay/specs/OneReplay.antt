-- The choices, the code and the keyboard determine a replay.
-- Manual: nothing; this is (own).
use Rattle.std.specs.Prelude.{List, length, ℕ, ◌<◌, ◌^◌, ◌≡◌}
use Rattle.occ_term.specs.UnfoldedProgram.{UnfoldedProgram, IsWellFormed, Lawful}
use Rattle.occ_machine.specs.Compiled.{Program, IsCompiledFrom}
use Rattle.occ_net_replay.specs.declared.choice.Choice.{Choice}
use Rattle.occ_net_replay.specs.Following.{AreBytes}
use Rattle.occ_net_replay.specs.Replay.{Net, Replays}

-- Two replays of the code of a lawful program by the same choices come to one network: its tasks, the bytes left, what was output and
-- input on each channel, the communications, the turns and the faults.
abbrev pub OneReplay : Type 0
OneReplay =
    (u : UnfoldedProgram) (p : Program) (quantum : ℕ) (keyboard : List ℕ) (cs : List Choice) (a b : Net)
    → IsWellFormed u → Lawful u → IsCompiledFrom u quantum p → AreBytes keyboard → length cs < 2 ^ 64
    → Replays p keyboard cs a → Replays p keyboard cs b → a ≡ b
