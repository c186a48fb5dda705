-- What `play_live` promises: the answer for the bytes that were read, and, where the keyboard may have more, for these and any more.
-- Manual: nothing; this is (own).
use Rattle.std.specs.Prelude.{Bool, IsTrue, List, Option, Vec, ℕ, ◌++◌, ◌≡◌}
use Rattle.occ_term.specs.Runs.{shown_by}
use Rattle.occ_machine.specs.Compiled.{Program}
use Rattle.occ_choices.specs.Plans.{choices_of}
use Rattle.occ_choices.specs.declared.plan.Plan.{Plan}
use Rattle.occ_net_replay.specs.declared.choice.Choice.{Choice}
use Rattle.occ_net_replay.specs.Following.{AreBytes}
use Rattle.occ_net_tables.specs.declared.running.Outcome.{Outcome}
use Rattle.occ_files.specs.declared.reader.CountedReader.{CountedReader}
use Rattle.occ_shown.specs.Answers.{AreByteMessages, answer_text, channel_bytes, names_of}
use Rattle.occ_shown.specs.Counting.{AppendsTo}
use Rattle.occ_shown.specs.declared.counted.Counted.{Counted}
use Rattle.occ_play.specs.declared.playing.Options.{Options}
use Rattle.occ_play.specs.declared.playing.Played.{Played}
use Rattle.occ_play.specs.Playing.{IsAnswer, IsTextsCode, RefusesCode, Wrote}
use Rattle.occ_live.specs.Living.{FailsLive, LiveRun, TellsFailed}
use Rattle.occ_live.specs.declared.fault.LiveFault.{LiveFault}
use Rattle.occ_live.specs.declared.fault.LiveFault.TheVariants as fails
use Rattle.occ_live.specs.declared.fault.LivePlayFault.{LivePlayFault}
use Rattle.occ_live.specs.declared.fault.LivePlayFault.TheVariants as fault
use Rattle.occ_live.specs.declared.playing.LivePlayed.{LivePlayed}

-- ---- the answer

-- It is the one for the bytes that were read, as if they had been there from the start. Where the keyboard may have more, it is the one for
-- these and any bytes behind them. They were read where a read was due.
pub record IsLiveAnswer (options : Options) (source read : List ℕ) (list : List Choice) (trace : Bool) (live : LivePlayed) (bytes : List ℕ) : Type 0 where
  pub answer : IsAnswer options source read list trace live.played bytes
  pub run : LiveRun answer.code list read live.is_open live.played.choices.items answer.net
  pub for_more : IsTrue live.is_open → (more : List ℕ) → AreBytes more → IsAnswer options source (read ++ more) list trace live.played bytes

-- it was written, and nothing else
abbrev pub PlaysLive : {W A : Type 0} → (W → Option (List ℕ)) → Options → (source : List ℕ) → (read : Vec ℕ A) → Plan → Bool → (old new : Counted W) → LivePlayed → Type 0
PlaysLive contents options source read plan trace old new live = Wrote contents (IsLiveAnswer options source read.items (choices_of plan) trace live) old new

-- ---- faults

-- of an answer for the bytes that were read a beginning was written
pub record WroteBeginning {W : Type 0} (contents : W → Option (List ℕ)) (options : Options) (source read : List ℕ) (list : List Choice) (trace : Bool) (old new : Counted W) : Type 0 where
  pub played : Played
  pub front : List ℕ
  pub rest : List ℕ
  pub answer : IsAnswer options source read list trace played (front ++ rest)
  pub written : AppendsTo contents old new front

-- The run was given up, or the rest of its answer could not be written.
pub data FailsInPlay {W : Type 0} (contents : W → Option (List ℕ)) (options : Options) (source read : List ℕ) (list : List Choice) (trace : Bool) (old new : Counted W) (why : LiveFault) : Type 0 where
  within : (p : Program) → IsTextsCode options source p → FailsLive contents p read list old new why → FailsInPlay contents options source read list trace old new why
  behind : why ≡ fails.Write → WroteBeginning contents options source read list trace old new → FailsInPlay contents options source read list trace old new why

-- a refused source has nothing written
abbrev pub FailsPlay : {W A : Type 0} → (W → Option (List ℕ)) → Options → (source : List ℕ) → (read : Vec ℕ A) → Plan → Bool → (old new : Counted W) → LivePlayFault → Type 0
FailsPlay contents options source read plan trace old new (fault.Source why) = RefusesCode options source why × (new ≡ old)
FailsPlay contents options source read plan trace old new (fault.Run why) = FailsInPlay contents options source read.items (choices_of plan) trace old new why

-- nor is anything read then; what else is told has failed
abbrev pub TellsPlayFault : {K W A : Type 0} → (keys_old keys_new : CountedReader K) → (read_old read_new : Vec ℕ A) → (old new : Counted W) → LivePlayFault → Type 0
TellsPlayFault keys_old keys_new read_old read_new old new (fault.Source why) = (keys_new ≡ keys_old) × (read_new ≡ read_old)
TellsPlayFault keys_old keys_new read_old read_new old new (fault.Run why) = TellsFailed keys_old keys_new old new why

-- ---- private contracts alone cite what follows

-- what its processes put on the screen and on the error channel are bytes
abbrev pub HasByteScreens : Outcome → Type 0
HasByteScreens o = AreByteMessages 1 o.trace × AreByteMessages 2 o.trace

-- the answer of a run of this code
abbrev pub text_of : Program → Outcome → Bool → List ℕ
text_of p o trace = answer_text (shown_by (names_of p.channels) o.trace) o.ending trace

-- what it has behind the screen's bytes was written
pub record WritesRest {W : Type 0} (contents : W → Option (List ℕ)) (p : Program) (o : Outcome) (trace : Bool) (old new : Counted W) : Type 0 where
  pub rest : List ℕ
  pub are : text_of p o trace ≡ channel_bytes 1 o.trace ++ rest
  pub written : AppendsTo contents old new rest

-- a beginning of that was, or memory was refused before
abbrev pub FailsToWriteRest : {W : Type 0} → (W → Option (List ℕ)) → Program → Outcome → Bool → (old new : Counted W) → LiveFault → Type 0
FailsToWriteRest contents p o trace old new (fails.Read reason) = ⊥
FailsToWriteRest contents p o trace old new fails.Write = (front : List ℕ) × (rest : List ℕ) × (text_of p o trace ≡ channel_bytes 1 o.trace ++ front ++ rest) × AppendsTo contents old new front
FailsToWriteRest contents p o trace old new fails.Memory = new ≡ old
