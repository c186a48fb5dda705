-- Exit statuses of a program that played nothing, or could not write what it played; and what failed.
-- Manual: nothing; this is (own).
use Rattle.std.specs.Prelude.{ℕ, ⊤, ◌≡◌, ◌≢◌}
use Rattle.clap.specs.Values.{kind_of}
use Rattle.clap.specs.declared.error.Error.{Error}
use Rattle.clap.specs.declared.error.kind.ErrorKind.TheVariants.{DisplayHelp, DisplayVersion, OutOfMemory}
use Rattle.occ_choices.specs.declared.fault.ChoiceFault.TheVariants as choice
use Rattle.occ_files.specs.declared.fault.InputFault.{InputFault}
use Rattle.occ_files.specs.declared.fault.InputFault.TheVariants as input
use Rattle.occ_files.specs.declared.reason.Reason.{Reason}
use Rattle.occ_play_inputs.specs.declared.failure.Failure.{Failure}
use Rattle.occ_play_inputs.specs.declared.failure.Failure.TheVariants.{Help, Words, Bare, Arguments, Paths, Read, Choices, Write, Memory}
use Rattle.occ_play_inputs.specs.declared.failure.Stream.{Stream}
use Rattle.occ_play_inputs.specs.declared.failure.Stream.TheVariants as stream
use Rattle.occ_play_inputs.specs.declared.failure.Trouble.{Trouble}

abbrev pub failure_status : Failure → ℕ
failure_status (Help text) = 0
failure_status Memory = 5
failure_status (Read trouble) = 6
failure_status (Choices choice.Memory) = 5
failure_status (Choices fault) = 7
failure_status (Write trouble) = 6
failure_status (Words error) = 7
failure_status Bare = 7
failure_status Arguments = 7
failure_status Paths = 7

-- where neither help nor the version is asked for, and memory did not run out, the words are wrong
abbrev pub TellsWrongWords : Error → Failure → Type 0
TellsWrongWords error failure =
    kind_of error ≢ DisplayHelp → kind_of error ≢ DisplayVersion → kind_of error ≢ OutOfMemory → failure ≡ Words error

-- a file or a stream, and why the system could not read or write it
abbrev pub trouble : Stream → Reason → Trouble
trouble which reason = record { stream = which; reason = reason }

-- what a fault of reading is to the program
abbrev pub read_failure : Stream → InputFault → Failure
read_failure which (input.Read reason) = Read (trouble which reason)
read_failure which input.Memory = Memory

-- this one could not be read, or memory ran out
abbrev pub FailsToRead : Stream → Failure → Type 0
FailsToRead which (Read t) = t.stream ≡ which
FailsToRead which Memory = ⊤
FailsToRead which failure = ⊥

-- a file of the source
abbrev pub IsOfSource : Stream → Type 0
IsOfSource stream.Source = ⊤
IsOfSource (stream.More n) = ⊤
IsOfSource which = ⊥

-- one of these could not be read, or memory ran out
abbrev pub FailsToReadSource : Failure → Type 0
FailsToReadSource (Read t) = IsOfSource t.stream
FailsToReadSource Memory = ⊤
FailsToReadSource failure = ⊥

-- this one could not be written, or memory ran out
abbrev pub FailsToWrite : Stream → Failure → Type 0
FailsToWrite which (Write t) = t.stream ≡ which
FailsToWrite which Memory = ⊤
FailsToWrite which failure = ⊥

-- the file of choices could not be read, or is none
abbrev pub FailsToChoose : Failure → Type 0
FailsToChoose (Choices fault) = ⊤
FailsToChoose failure = FailsToRead stream.Choices failure
