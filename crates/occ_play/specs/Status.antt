-- The exit status of a program that played so.
-- Manual: nothing; this is (own).
use Rattle.std.specs.Prelude.{ℕ, Result, Ok, Err}
use Rattle.occ_text.specs.declared.fault.TextFault.TheVariants as text
use Rattle.occ_tree_grammar.specs.declared.fault.ParseFault.TheVariants as tree
use Rattle.occ_usage.specs.declared.checked.UsageFault.TheVariants as usage
use Rattle.occ_check_lines.specs.declared.fault.CheckFault.TheVariants as check
use Rattle.occ_code.specs.declared.compiling.CodeFault.TheVariants as code
use Rattle.occ_run.specs.declared.fault.RunFault.TheVariants as run
use Rattle.occ_term.specs.declared.ending.Ending.{Ending}
use Rattle.occ_term.specs.declared.ending.Ending.TheVariants.{Ended, Stopped, Fault, StoppedBy, Limit}
use Rattle.occ_play.specs.declared.playing.Played.{Played}
use Rattle.occ_play.specs.declared.fault.PlayFault.{PlayFault}
use Rattle.occ_play.specs.declared.fault.PlayFault.TheVariants as play

abbrev pub ending_status : Ending → ℕ
ending_status Ended = 0
ending_status Stopped = 2
ending_status (Fault fault) = 3
ending_status (StoppedBy fault) = 2
ending_status Limit = 4

-- 1 for a refused source, 5 for want of memory and for threads that gave no answer, 6 for a failed write, 7 for a quantum or a number
-- of workers that is not from 1 to 64
abbrev pub fault_status : PlayFault → ℕ
fault_status (play.Text text.Memory) = 5
fault_status (play.Text fault) = 1
fault_status (play.Parse tree.Memory) = 5
fault_status (play.Parse fault) = 1
fault_status (play.Check check.Memory) = 5
fault_status (play.Check fault) = 1
fault_status (play.Usage usage.Memory) = 5
fault_status (play.Usage fault) = 1
fault_status (play.Code code.Memory) = 5
fault_status (play.Code code.BadQuantum) = 7
fault_status (play.Code fault) = 1
fault_status (play.Write written) = 6
fault_status (play.Run run.BadWorkers) = 7
fault_status (play.Run fault) = 5
fault_status (play.Memory e) = 5

abbrev pub status : Result Played PlayFault → ℕ
status (Ok played) = ending_status played.ending
status (Err fault) = fault_status fault
