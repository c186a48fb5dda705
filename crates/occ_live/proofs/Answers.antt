-- The answer of a live run is the one for the bytes that were read, and for more.
use Rattle.std.proofs.Common.{◌≡◌, ◌∙◌, ◌-◌, ◌<◌, ◌^◌, ℕ, List, [], ◌∷◌, ◌++◌, Option, Some, None, Bool, IsTrue, true, false, drop, length, take, refl, sym, ap, subst, append_assoc, append-nil, arith}
use Rattle.std.proofs.lemmas.List.{length-drop, take-append-drop, take_all}
use Rattle.occ_term.specs.declared.ending.Ending.{Ending}
use Rattle.occ_term.specs.declared.ending.Ending.TheVariants as E
use Rattle.occ_term.specs.declared.fault.Errors.{Errors}
use Rattle.occ_term.specs.declared.fault.Errors.TheVariants.{Halt, Stop}
use Rattle.occ_term.specs.declared.fault.Fault.{Fault}
use Rattle.occ_term.specs.declared.names.Channel.{Channel}
use Rattle.occ_term.specs.Runs.{communications, shown, shown_by}
use Rattle.occ_machine.specs.Compiled.{Program}
use Rattle.occ_net_replay.specs.declared.choice.Choice.{Choice}
use Rattle.occ_net_replay.specs.Following.{AreBytes, or_limit}
use Rattle.occ_net_replay.specs.Replay.{Replays, ending_by, ending_of, standing_by, stopped_by}
use Rattle.occ_net_replay.proofs.Law.{replays_are_one_run, replays_are_runs}
use Rattle.occ_net_tables.specs.Outcomes.{Begins, IsOutcome}
use Rattle.occ_net_tables.specs.declared.running.Outcome.{Outcome}
use Rattle.occ_play.specs.declared.playing.Options.{Options}
use Rattle.occ_play.specs.declared.playing.Played.{Played}
use Rattle.occ_play.specs.Playing.{IsAnswer, IsTextsCode}
use Rattle.occ_shown.specs.Answers.{all_shown, answer_text, channel_bytes, line_break, names_of, report_text}
use Rattle.occ_shown.proofs.ByteMessages.{outputs_are_bytes}
use Rattle.occ_shown.proofs.Growth.{Appends-join}
use Rattle.occ_shown.specs.Counting.{AppendsTo, writer_of}
use Rattle.occ_shown.specs.declared.counted.Counted.{Counted}
use Rattle.occ_live.specs.declared.fault.LiveFault.{LiveFault}
use Rattle.occ_live.specs.declared.fault.LiveFault.TheVariants as fails
use Rattle.occ_live.specs.declared.living.Lived.{Lived}
use Rattle.occ_live.specs.declared.playing.LivePlayed.{LivePlayed}
use Rattle.occ_live.specs.Living.{IsLive, LiveRun}
use Rattle.occ_live.specs.Playing.{FailsInPlay, FailsToWriteRest, HasByteScreens, IsLiveAnswer, WritesRest, behind, text_of, within}

-- ---- endings

one_ending : {a b : Ending} → ◌≡◌ {A = Option Ending} (Some a) (Some b) → a ≡ b
one_ending q = cc

stopped_never_limit : (fault : Option Fault) → stopped_by fault ≡ E.Limit → ⊥
stopped_never_limit None q = cc
stopped_never_limit (Some e) q = cc

standing_never_limit : (fault : Option Fault) (b : Bool) (ready : List ℕ) → standing_by fault b ready ≡ Some E.Limit → ⊥
standing_never_limit fault true ready q = cc
standing_never_limit fault false [] q = stopped_never_limit fault (one_ending q)
standing_never_limit fault false (n ∷ ns) q = cc

never_limit : (errors : Errors) (fault : Option Fault) (b : Bool) (ready : List ℕ) → ending_by errors fault b ready ≡ Some E.Limit → ⊥
never_limit Halt None b ready q = standing_never_limit None b ready q
never_limit Halt (Some e) b ready q = cc
never_limit Stop fault b ready q = standing_never_limit fault b ready q

none_if : (o : Option Ending) → or_limit o ≡ E.Limit → (o ≡ Some E.Limit → ⊥) → o ≡ None
none_if None q h = refl
none_if (Some e) q h = absurd (h (ap (λ x. Some x) q))

-- ---- bytes behind bytes

drop_append : (xs ys : List ℕ) → drop (length xs) (xs ++ ys) ≡ ys
drop_append [] ys = refl
drop_append (x ∷ xs) ys = drop_append xs ys

all_bytes : (xs ys : List ℕ) → AreBytes xs → AreBytes ys → AreBytes (xs ++ ys)
all_bytes [] ys h g = g
all_bytes (x ∷ xs) ys h g = (h.0, all_bytes xs ys h.1 g)

-- what stands behind the screen's bytes, where these are the first
rest_behind : (p : Program) (o : Outcome) (trace : Bool) → text_of p o trace ≡ channel_bytes 1 o.trace ++ drop (length (channel_bytes 1 o.trace)) (text_of p o trace)
rest_behind p o trace =
    let screen = channel_bytes 1 o.trace in
    let error = channel_bytes 2 o.trace in
    let report = report_text trace (shown_by (names_of p.channels) o.trace).trace o.ending in
    let break = line_break (screen ++ error) report in
    let is : text_of p o trace ≡ screen ++ (error ++ (break ++ report)) = append_assoc (screen ++ error) break report ∙ append_assoc screen error (break ++ report) in
    is ∙ ap (λ l. screen ++ l) (sym (ap (drop (length screen)) is ∙ drop_append screen (error ++ (break ++ report))))

module _ {W : Type 0} (contents : W → Option (List ℕ)) (p : Program) (o : Outcome) (trace : Bool) (channels : List Channel) (whole screen : List ℕ) (k : ℕ) (old new : Counted W) (same : channels ≡ p.channels) (is : whole ≡ answer_text (all_shown channels o.trace) o.ending trace) (count : k ≡ length screen) (shown_is : screen ≡ channel_bytes 1 o.trace) where
  -- the answer is the screen's bytes, and what is written
  answer_is : text_of p o trace ≡ channel_bytes 1 o.trace ++ take (length whole - k) (drop k whole)
  answer_is =
      let text : whole ≡ text_of p o trace = is ∙ ap (λ cs. answer_text (shown_by (names_of cs) o.trace) o.ending trace) same in
      let at : k ≡ length (channel_bytes 1 o.trace) = count ∙ ap length shown_is in
      let cut : take (length whole - k) (drop k whole) ≡ drop k whole = take_all (length whole - k) (drop k whole) (omega (arith, length-drop k whole)) in
      rest_behind p o trace ∙ ap (λ l. channel_bytes 1 o.trace ++ l) (sym (cut ∙ ap (λ n. drop n whole) at ∙ ap (drop (length (channel_bytes 1 o.trace))) text))

  pub rest_written : AppendsTo contents old new (take (length whole - k) (drop k whole)) → WritesRest contents p o trace old new
  rest_written h = record { rest = take (length whole - k) (drop k whole); are = answer_is; written = h }

  pub part_written : (n : ℕ) → AppendsTo contents old new (take n (take (length whole - k) (drop k whole))) → FailsToWriteRest contents p o trace old new fails.Write
  part_written n h =
      let rest = take (length whole - k) (drop k whole) in
      let screen = channel_bytes 1 o.trace in
      (take n rest, drop n rest, answer_is ∙ ap (λ l. screen ++ l) (sym (take-append-drop n rest)) ∙ sym (append_assoc screen (take n rest) (drop n rest)), h)

-- ---- answers

module _ (options : Options) (source : List ℕ) (list : List Choice) (trace : Bool) (p : Program) (code : IsTextsCode options source p) where
  pub screens_have_bytes : (read : List ℕ) (o : Outcome) → AreBytes read → length o.choices.items < 2 ^ 64 → IsOutcome p read list o → HasByteScreens o
  screens_have_bytes read o keys small out =
      outputs_are_bytes code.program options.quantum read out.net o.trace code.unfolds.well_formed
      (replays_are_runs code.program p options.quantum read o.choices.items out.net code.unfolds.well_formed code.lawful code.from.does keys small out.replays) out.trace

  pub is_answer : (read : List ℕ) (o : Outcome) (played : Played) (bytes : List ℕ) → AreBytes read → length o.choices.items < 2 ^ 64 → IsOutcome p read list o
      → played.ending ≡ o.ending → played.choices ≡ o.choices → bytes ≡ text_of p o trace → IsAnswer options source read list trace played bytes
  is_answer read o played bytes keys small out same_end same_choices is =
      let u = code.program in
      let choices : o.choices.items ≡ played.choices.items = ap (λ v. v.items) (sym same_choices) in
      let replays : Replays p read played.choices.items out.net = subst (λ cs. Replays p read cs out.net) choices out.replays in
      let few : length played.choices.items < 2 ^ 64 = subst (λ cs. length cs < 2 ^ 64) choices small in
      let run = replays_are_one_run u p options.quantum read played.choices.items out.net code.unfolds.well_formed code.lawful code.from.does keys few replays in
      let shows : o.trace ≡ communications run.follows.events = sym out.trace ∙ sym run.follows.communicates in
      record {
        code = p;
        of_text = code;
        used = record {
          begins = subst (λ cs. Begins cs list) choices out.used;
          whole = λ h. sym choices ∙ out.whole (none_if (ending_of p.errors out.net) (sym out.ending ∙ sym same_end ∙ h) (never_limit p.errors _ _ _));
        };
        net = out.net;
        replays = replays;
        run = run;
        ending = same_end ∙ out.ending;
        shows =
            is ∙ ap (λ cs. answer_text (shown_by (names_of cs) o.trace) o.ending trace) code.from.does.channels
            ∙ ap (λ xs. answer_text (shown_by (names_of u.channels) xs) o.ending trace) shows
            ∙ ap (λ e. answer_text (shown (names_of u.channels) run.follows.events) e trace) (sym same_end);
      }

  module _ (read : List ℕ) (lived : Lived) (small : length lived.outcome.choices.items < 2 ^ 64) (x : IsLive p read list lived) where
    pub live_answer : (live : LivePlayed) (bytes : List ℕ) → live.played.ending ≡ lived.outcome.ending → live.played.choices ≡ lived.outcome.choices → live.is_open ≡ lived.is_open
        → bytes ≡ text_of p lived.outcome trace → IsLiveAnswer options source read list trace live bytes
    unfolding is_answer
    live_answer live bytes same_end same_choices same_open is = record {
      answer = is_answer read lived.outcome live.played bytes x.bytes small x.is same_end same_choices is;
      run = subst (λ cs. LiveRun p list read live.is_open cs x.is.net) (ap (λ v. v.items) (sym same_choices)) (subst (λ o. LiveRun p list read o lived.outcome.choices.items x.is.net) (sym same_open) x.run);
      for_more = λ o more are. is_answer (read ++ more) lived.outcome live.played bytes (all_bytes read more x.bytes are) small (x.for_more (subst IsTrue same_open o) more) same_end same_choices is;
    }

    -- what was written of it where the rest could not be
    module _ {W : Type 0} (contents : W → Option (List ℕ)) (first old new : Counted W) (shown_so : AppendsTo contents first old (channel_bytes 1 lived.outcome.trace)) where
      pub rest_fails : (why : LiveFault) → FailsToWriteRest contents p lived.outcome trace old new why → FailsInPlay contents options source read list trace first new why
      rest_fails (fails.Read reason) h = absurd h
      rest_fails fails.Write h =
          let o = lived.outcome in
          let screen = channel_bytes 1 o.trace in
          behind refl
          record {
            played = record { ending = o.ending; choices = o.choices };
            front = screen ++ h.0;
            rest = h.1;
            answer = is_answer read o (record { ending = o.ending; choices = o.choices }) ((screen ++ h.0) ++ h.1) x.bytes small x.is refl refl (sym h.2);
            written = Appends-join (contents (writer_of first)) (contents (writer_of old)) (contents (writer_of new)) screen h.0 shown_so h.3;
          }
      rest_fails fails.Memory h =
          let o = lived.outcome in
          within p code
          record {
            is_open = lived.is_open;
            used = o.choices.items;
            net = x.is.net;
            run = x.run;
            due = tt;
            wrote = subst (λ t. (front : List ℕ) × (rest : List ℕ) × (channel_bytes 1 t ≡ front ++ rest) × AppendsTo contents first new front) (sym x.is.trace)
                (channel_bytes 1 o.trace, [], sym (append-nil (channel_bytes 1 o.trace)), subst (λ w. AppendsTo contents first w (channel_bytes 1 o.trace)) (sym h) shown_so);
          }

      -- and where it was
      pub wrote_all : (live : LivePlayed) → live.played.ending ≡ lived.outcome.ending → live.played.choices ≡ lived.outcome.choices → live.is_open ≡ lived.is_open
          → WritesRest contents p lived.outcome trace old new → (bytes : List ℕ) × IsLiveAnswer options source read list trace live bytes × AppendsTo contents first new bytes
      wrote_all live same_end same_choices same_open h =
          let screen = channel_bytes 1 lived.outcome.trace in
          (screen ++ h.rest, live_answer live (screen ++ h.rest) same_end same_choices same_open (sym h.are), Appends-join (contents (writer_of first)) (contents (writer_of old)) (contents (writer_of new)) screen h.rest shown_so h.written)
