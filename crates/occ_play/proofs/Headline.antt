-- The answer of an outcome is shown by a run of the source.
use Rattle.std.proofs.Common.{◌≡◌, ◌∙◌, ◌<◌, ◌^◌, ℕ, suc, List, [], ◌∷◌, Option, Some, None, Bool, true, false, length, refl, sym, ap, subst, append-nil}
use Rattle.std.specs.Prelude.{get_or}
use Rattle.occ_term.specs.declared.names.Channel.{Channel}
use Rattle.occ_usage.specs.declared.checked.UsageFault.{UsageFault}
use Rattle.occ_usage.specs.declared.checked.UsageFault.TheVariants as usage
use Rattle.occ_usage.specs.Refusals.{UsageRefuses}
use Rattle.occ_term.specs.declared.fault.Errors.{Errors}
use Rattle.occ_term.specs.declared.fault.Errors.TheVariants.{Halt, Stop}
use Rattle.occ_term.specs.declared.fault.Fault.{Fault}
use Rattle.occ_term.specs.Runs.{communications, messages_on, shown, shown_by, EndsBy}
use Rattle.occ_term.specs.UnfoldedProgram.{UnfoldedProgram, IsWellFormed, declared, Lawful}
use Rattle.occ_machine.specs.Compiled.{Program, IsCompiledFrom}
use Rattle.occ_code.specs.CodeOf.{IsCodeOf, CodeRefuses}
use Rattle.occ_code.specs.declared.compiling.CodeFault.{CodeFault}
use Rattle.occ_code.specs.declared.compiling.CodeFault.TheVariants as code
use Rattle.occ_net_replay.specs.declared.choice.Choice.{Choice}
use Rattle.occ_term.specs.declared.ending.Ending.{Ending}
use Rattle.occ_term.specs.declared.ending.Ending.TheVariants as E
use Rattle.occ_play.specs.declared.playing.Played.{Played}
use Rattle.occ_net_tables.specs.declared.running.Outcome.{Outcome}
use Rattle.occ_shown.specs.Answers.{AreByteMessages, answer_text, names_of}
use Rattle.occ_shown.proofs.ByteMessages as byte_messages
use Rattle.occ_net_replay.specs.Following.{AllFit, AreBytes, Followed, or_limit}
use Rattle.occ_net_tables.specs.Outcomes.{Begins, IsOutcome}
use Rattle.occ_play.specs.declared.playing.Options.{Options}
use Rattle.occ_play.specs.declared.fault.PlayFault.{PlayFault}
use Rattle.occ_play.specs.declared.fault.PlayFault.TheVariants as play
use Rattle.occ_play.specs.Playing.{AnswersAreOfRuns, IsAnswer, IsTextsCode, Ran, Refuses, RefusesCode, RefusesText, Unfolds, UsageRefusesText, CodeRefusesText}
use Rattle.occ_net_replay.specs.Replay.{Replays, ending_of, ending_by, standing_by, stopped_by}
use Rattle.occ_net_replay.proofs.Law.{noted_never_end, replays_are_one_run, replays_are_runs}

-- the bytes of a keyboard
pub are_bytes : (kb : List ℕ) → ((k : ℕ) → get_or kb k 0 < 256) → AreBytes kb
are_bytes [] h = tt
are_bytes (b ∷ bs) h = (h 0, are_bytes bs (λ k. h (suc k)))

-- ---- endings

stopped_never_limit : (fault : Option Fault) → stopped_by fault ≡ E.Limit → ⊥
stopped_never_limit None q = cc
stopped_never_limit (Some e) q = cc

one_ending : {a b : Ending} → ◌≡◌ {A = Option Ending} (Some a) (Some b) → a ≡ b
one_ending q = cc

standing_never_limit : (fault : Option Fault) (b : Bool) (ready : List ℕ) → standing_by fault b ready ≡ Some E.Limit → ⊥
standing_never_limit fault true ready q = cc
standing_never_limit fault false [] q = stopped_never_limit fault (one_ending q)
standing_never_limit fault false (n ∷ ns) q = cc

pub never_limit : (errors : Errors) (fault : Option Fault) (b : Bool) (ready : List ℕ) → ending_by errors fault b ready ≡ Some E.Limit → ⊥
never_limit Halt None b ready q = standing_never_limit None b ready q
never_limit Halt (Some e) b ready q = cc
never_limit Stop fault b ready q = standing_never_limit fault b ready q

pub none_if : (o : Option Ending) → or_limit o ≡ E.Limit → (o ≡ Some E.Limit → ⊥) → o ≡ None
none_if None q h = refl
none_if (Some e) q h = absurd (h (ap (λ x. Some x) q))

ended_if : (o : Option Ending) → or_limit o ≡ E.Ended → o ≡ Some E.Ended
ended_if None q = cc
ended_if (Some e) q = ap (λ x. Some x) q

-- ---- the headline

-- a run of a list is one of the choices that were used
pub ran_alone : {options : Options} {source keyboard : List ℕ} {list : List Choice} {p : Program} (o : Outcome) → Ran options source keyboard list p o → Ran options source keyboard o.choices.items p o
ran_alone o ran =
    record {
      code = ran.code;
      is = record {
        net = ran.is.net;
        replays = ran.is.replays;
        trace = ran.is.trace;
        used = record { rest = []; is = sym (append-nil o.choices.items) };
        ending = ran.is.ending;
        whole = λ h. refl;
      };
    }

followed : (u : UnfoldedProgram) (quantum : ℕ) (p : Program) (keyboard : List ℕ) (list : List Choice) (o : Outcome) → IsWellFormed u → Lawful u → IsCompiledFrom u quantum p → AreBytes keyboard → (out : IsOutcome p keyboard list o) → length o.choices.items < 2 ^ 64 → Followed u keyboard quantum p.errors out.net
followed u quantum p keyboard list o w lawful from bytes out small = replays_are_runs u p quantum keyboard o.choices.items out.net w lawful from bytes small out.replays

-- what an outcome's communications carry on the screen's and the error channel
pub outputs_are_bytes : (u : UnfoldedProgram) (quantum : ℕ) (p : Program) (keyboard : List ℕ) (list : List Choice) (o : Outcome) → IsWellFormed u → Lawful u → IsCompiledFrom u quantum p → AreBytes keyboard → IsOutcome p keyboard list o → length o.choices.items < 2 ^ 64 → AreByteMessages 1 o.trace × AreByteMessages 2 o.trace
outputs_are_bytes u quantum p keyboard list o w lawful from bytes out small =
    byte_messages.outputs_are_bytes u quantum keyboard out.net o.trace w (followed u quantum p keyboard list o w lawful from bytes out small) out.trace

-- a code with another mode of faults is one of the same source
pub code_with : (u : UnfoldedProgram) (quantum : ℕ) (p : Program) (errors : Errors) → IsCodeOf u quantum p → IsCodeOf u quantum (record p { errors = errors })
code_with u quantum p errors h =
    record {
      does = record { channels = h.does.channels; bodies = h.does.bodies; quanta = h.does.quanta; small = h.does.small };
      emitted = h.emitted;
    }

pub headline : (options : Options) (source keyboard : List ℕ) (list : List Choice) (trace : Bool) (p : Program) (channels : List Channel) (o : Outcome) (played : Played) (bytes : List ℕ)
    → IsTextsCode options source p → AreBytes keyboard → channels ≡ p.channels → IsOutcome p keyboard list o → length o.choices.items < 2 ^ 64
    → played.ending ≡ o.ending → played.choices ≡ o.choices
    → bytes ≡ answer_text (shown_by (names_of channels) o.trace) o.ending trace
    → (a : IsAnswer options source keyboard list trace played bytes) × (shown_by (names_of channels) o.trace ≡ shown (names_of a.of_text.program.channels) a.run.follows.events)
headline options source keyboard list trace p channels o played bytes code keys chan out small same_end same_choices is =
    let u = code.program in
    let choices : o.choices.items ≡ played.choices.items = ap (λ v. v.items) (sym same_choices) in
    let replays : Replays p keyboard played.choices.items out.net = subst (λ cs. Replays p keyboard cs out.net) choices out.replays in
    let few : length played.choices.items < 2 ^ 64 = subst (λ cs. length cs < 2 ^ 64) choices small in
    let run = replays_are_one_run u p options.quantum keyboard played.choices.items out.net code.unfolds.well_formed code.lawful code.from.does keys few replays in
    let shows : o.trace ≡ communications run.follows.events = sym out.trace ∙ sym run.follows.communicates in
    let channels_are : channels ≡ u.channels = chan ∙ code.from.does.channels in (
      record {
        code = p;
        of_text = code;
        used = record {
          begins = subst (λ cs. Begins cs list) choices out.used;
          whole = λ h. sym choices ∙ out.whole (none_if (ending_of p.errors out.net) (sym out.ending ∙ sym same_end ∙ h) (never_limit p.errors _ _ _));
        };
        net = out.net;
        replays = replays;
        run = run;
        ending = same_end ∙ out.ending;
        shows =
            is ∙ ap (λ cs. answer_text (shown_by (names_of cs) o.trace) o.ending trace) channels_are
            ∙ ap (λ xs. answer_text (shown_by (names_of u.channels) xs) o.ending trace) shows
            ∙ ap (λ e. answer_text (shown (names_of u.channels) run.follows.events) e trace) (sym same_end);
      },
      ap (λ cs. shown_by (names_of cs) o.trace) channels_are ∙ ap (λ xs. shown_by (names_of u.channels) xs) shows,
    )

pub answers_are_of_runs : AnswersAreOfRuns
answers_are_of_runs options source keyboard list trace played bytes keys few a =
    let f = a.run.follows in
    let u = a.of_text.program in
    record {
      ends = subst (λ m. EndsBy m f.system played.ending) a.of_text.errors (subst (EndsBy a.code.errors f.system) (sym a.ending) f.ends);
      clean = λ h. f.noted ∙ noted_never_end u a.code options.quantum keyboard played.choices.items a.net a.of_text.unfolds.well_formed a.of_text.lawful a.of_text.from.does keys few a.replays (ended_if (ending_of a.code.errors a.net) (sym a.ending ∙ h));
      output = λ c. f.output c ∙ ap (messages_on c) (sym f.communicates);
      input = λ c. f.input c ∙ ap (messages_on c) (sym f.communicates);
      fits = λ c. subst (λ xs. AllFit ((declared u).protocols c) (messages_on c xs)) (sym f.communicates) (f.fits c);
    }

-- ---- refusals

pub usage_refuses : {source : List ℕ} (u : UnfoldedProgram) (fault : UsageFault) → Unfolds source u → UsageRefuses fault u → UsageRefusesText fault source
usage_refuses u (usage.SharedVariable line name) x h = (u, x, h)
usage_refuses u (usage.TwoInputs line name) x h = (u, x, h)
usage_refuses u (usage.TwoOutputs line name) x h = (u, x, h)
usage_refuses u usage.Memory x h = tt

pub code_refuses : {source : List ℕ} (quantum : ℕ) (u : UnfoldedProgram) (fault : CodeFault) → Unfolds source u → Lawful u → CodeRefuses fault quantum u → CodeRefusesText quantum fault source
code_refuses quantum u code.TooLarge x lawful h = (h.0, (u, x, lawful, h.1))
code_refuses quantum u code.BadQuantum x lawful h = (record { program = u; unfolds = x; lawful = lawful }, h)
code_refuses quantum u code.Memory x lawful h = (record { program = u; unfolds = x; lawful = lawful }, h)

-- a text that is refused before there is code has none for any options
pub no_code : (options : Options) (source : List ℕ) (fault : PlayFault) → RefusesText source fault → RefusesCode options source fault
no_code options source (play.Text f) h = h
no_code options source (play.Parse f) h = h
no_code options source (play.Check f) h = h
no_code options source (play.Usage f) h = h
no_code options source (play.Code f) h = absurd h
no_code options source (play.Write written) h = h
no_code options source (play.Run f) h = h
no_code options source (play.Memory e) h = h

-- a text that has no code is refused
pub refuses : (options : Options) (source : List ℕ) (fault : PlayFault) → RefusesCode options source fault → Refuses options source fault
refuses options source (play.Text f) h = h
refuses options source (play.Parse f) h = h
refuses options source (play.Check f) h = h
refuses options source (play.Usage f) h = h
refuses options source (play.Code f) h = h
refuses options source (play.Write written) h = h
refuses options source (play.Run f) h = h
refuses options source (play.Memory e) h = absurd h
