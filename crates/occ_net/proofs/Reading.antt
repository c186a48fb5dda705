-- What was communicated, by channel.
use Rattle.std.proofs.Common.{◌≡◌, ◌∙◌, sym, subst, ℕ, ◌<◌, ◌^◌, ◌⊎◌, inl, inr, List, Option, None, Some, [], ap, length, map}
use Rattle.std.specs.Prelude.{slice_get}
use Rattle.occ_term.specs.declared.names.Channel.{Channel}
use Rattle.occ_term.specs.Runs.{messages_on}
use Rattle.occ_machine.specs.Compiled.{IsCompiled}
use Rattle.occ_term.specs.declared.ending.Ending.{Ending}
use Rattle.occ_term.specs.declared.ending.Ending.TheVariants as ending
use Rattle.occ_net_replay.specs.Following.{AllFit, AreBytes, Followed, or_limit}
use Rattle.occ_net_replay.specs.Replay.{Net, ending_of}
use Rattle.occ_net_replay.proofs.Law.{noted_never_end, replays_are_runs}
use Rattle.occ_term.specs.declared.communication.Communication.{Communication as Made}
use Rattle.occ_shown.specs.Answers.{AreByteMessages}
use Rattle.occ_shown.proofs.ByteMessages.{outputs_are_bytes}
use Rattle.occ_net.specs.Networks.{Past, IsState}
use Rattle.occ_net.specs.Histories.{IsHistory, protocol_on}

ended_if : (e : Option Ending) → or_limit e ≡ ending.Ended → e ≡ Some ending.Ended
ended_if None h = absurd cc
ended_if (Some x) h = ap Some h

module _ (n : Past) (compiled : IsCompiled n.program) (bytes : AreBytes n.keyboard) (few : length n.choices < 2 ^ 64) (net : Net) (state : IsState n net) where
  pub followed : Followed compiled.source n.keyboard compiled.quantum n.program.errors net
  followed = replays_are_runs compiled.source n.program compiled.quantum n.keyboard n.choices net compiled.well_formed compiled.lawful compiled.compiled bytes few state

  fits_on : (chan : ℕ) → AllFit (protocol_on n.program chan) (messages_on chan net.trace)
  fits_on chan = subst (λ (cs : List Channel). AllFit (slice_get (map (λ x. x.protocol) cs) chan) (messages_on chan net.trace)) (sym compiled.compiled.channels) (followed.fits chan)

  pub history_is : (chan : ℕ) (messages : List _) → messages_on chan net.trace ≡ messages → IsHistory n.program net chan messages
  history_is chan messages e = record { output = followed.output chan ∙ e; input = followed.input chan ∙ e; trace = e; fits = subst (AllFit (protocol_on n.program chan)) e (fits_on chan) }

  -- what has ended has noted no fault
  pub clean_is : or_limit (ending_of n.program.errors net) ≡ ending.Ended → net.noted ≡ []
  clean_is h =
      noted_never_end compiled.source n.program compiled.quantum n.keyboard n.choices net compiled.well_formed compiled.lawful compiled.compiled bytes few state (ended_if (ending_of n.program.errors net) h)

  pub bytes_are : (chan : ℕ) → (chan ≡ 1) ⊎ (chan ≡ 2) → (xs : List Made) → net.trace ≡ xs → AreByteMessages chan xs
  bytes_are chan (inl e) xs t = subst (λ c. AreByteMessages c xs) (sym e) (outputs_are_bytes compiled.source compiled.quantum n.keyboard net xs compiled.well_formed followed t).0
  bytes_are chan (inr e) xs t = subst (λ c. AreByteMessages c xs) (sym e) (outputs_are_bytes compiled.source compiled.quantum n.keyboard net xs compiled.well_formed followed t).1
