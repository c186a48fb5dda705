-- The trace of a replay of a text's code is that of a run of the text.
use Rattle.std.proofs.Common.{◌≡◌, ◌∙◌, ◌≤◌, ◌<◌, ◌^◌, ◌+◌, refl, sym, ap, subst, ℕ, List, [], ◌∷◌, length, length-append, arith}
use Rattle.occ_term.specs.declared.names.Channel.{Channel}
use Rattle.occ_term.specs.Runs.{Entry, Event, Run, entries}
use Rattle.occ_term.specs.System.{System, start}
use Rattle.occ_term.specs.UnfoldedProgram.{UnfoldedProgram, meaning}
use Rattle.occ_term.specs.declared.communication.Communication.{Communication}
use Rattle.occ_term.specs.declared.fault.Errors.{Errors}
use Rattle.occ_machine.specs.Compiled.{Program}
use Rattle.occ_net_replay.specs.declared.choice.Choice.{Choice}
use Rattle.occ_net_replay.specs.Following.{AreBytes}
use Rattle.occ_net_replay.specs.Moments.{Accompanies, after_turn, at_start}
use Rattle.occ_net_replay.specs.Replay.{Net}
use Rattle.occ_net_replay.proofs.Law.{replays_are_one_run}
use Rattle.occ_run.specs.Telling.{IsTraceOf, MayTell}
use Rattle.occ_shown.specs.Answers.{entries_in, names_of}
use Rattle.occ_play.specs.declared.playing.Options.{Options}
use Rattle.occ_play.specs.Playing.{IsTextsCode}
use Rattle.occ_play.specs.Watching.{IsTextsTrace, MayTellText}

-- a run has a turn for each choice
turns_counted : (u : UnfoldedProgram) (p : Program) (quantum : ℕ) (keyboard : List ℕ) {cs : List Choice} {net : Net} {es : List Event} {before : List System} {now : System}
    → Accompanies u p quantum keyboard cs net es before now → length es ≡ length cs
turns_counted u p quantum keyboard (at_start m) = refl
turns_counted u p quantum keyboard (after_turn {cs = ds} {c = c} {es = es} v x o s m) =
    length-append es (v ∷ []) ∙ ap (λ (k : ℕ). k + 1) (turns_counted u p quantum keyboard x) ∙ sym (length-append ds (c ∷ []))

pub of_run : (options : Options) (source keyboard : List ℕ) (limit : ℕ) (p : Program) (xs : List Communication) → IsTextsCode options source p → AreBytes keyboard → limit < 2 ^ 32 → IsTraceOf p keyboard limit xs
    → IsTextsTrace options source keyboard limit (entries_in p.channels xs)
of_run options source keyboard limit p xs code keys small t =
    let u = code.program in
    let few = t.few in
    let r = replays_are_one_run u p options.quantum keyboard t.choices t.net code.unfolds.well_formed code.lawful code.from.does keys (omega (arith, few, small)) t.replays in
    let f = r.follows in
    record {
      program = u;
      unfolds = code.unfolds;
      lawful = code.lawful;
      events = f.events;
      system = f.system;
      run = subst (λ (e : Errors). Run e options.quantum (start (meaning u) keyboard) f.events f.system) code.errors f.run;
      few = subst (λ (k : ℕ). k ≤ limit) (sym (turns_counted u p options.quantum keyboard r.accompanies)) few;
      is =
          ap (λ (ys : List Communication). entries (names_of u.channels) 1 ys) (f.communicates ∙ t.is)
          ∙ ap (λ (cs : List Channel). entries (names_of cs) 1 xs) (sym code.from.does.channels);
    }

-- so a board that may show the text's traces may show those of its code
pub may_tell : (may : List Entry → Type 0) (options : Options) (source keyboard : List ℕ) (limit : ℕ) (held : List Entry) (p : Program) → IsTextsCode options source p → AreBytes keyboard → limit < 2 ^ 32
    → MayTellText may options source keyboard limit held → MayTell may p keyboard limit held
may_tell may options source keyboard limit held p code keys small m = λ xs t. m (entries_in p.channels xs) (of_run options source keyboard limit p xs code keys small t)
