-- The answer of a run by workers, and what its board shows.
use Rattle.std.proofs.Common.{◌≡◌, ◌∙◌, ◌<◌, ◌≤◌, ◌⊎◌, inl, inr, ℕ, zero, suc, List, [], ◌++◌, Bool, true, false, Option, length, refl, sym, ap, subst, arith}
use Rattle.std.specs.Prelude.{nat_le}
use Rattle.std.proofs.lemmas.Bool.Decides.{nat_tests}
use Rattle.occ_term.specs.Runs.{Entry, entries, shown, shown_by}
use Rattle.occ_board.specs.Traces.{Publishing, publishing}
use Rattle.occ_choices.specs.Crews.{IsCrew, most_workers}
use Rattle.occ_machine.specs.Compiled.{Program}
use Rattle.occ_net_replay.specs.Replay.{Net, ending_of}
use Rattle.occ_net_tables.specs.declared.running.Outcome.{Outcome}
use Rattle.occ_net_tables.specs.Outcomes.{IsOutcome}
use Rattle.occ_net.specs.Networks.{IsState, Past}
use Rattle.occ_net.specs.Outcomes.{IsReplayOf}
use Rattle.occ_shown.specs.Answers.{names_of}
use Rattle.occ_shown.specs.declared.counted.Counted.{Counted}
use Rattle.occ_run.specs.Gathered.{IsGathered}
use Rattle.occ_play.specs.declared.fault.PlayFault.{PlayFault}
use Rattle.occ_play.specs.declared.fault.PlayFault.TheVariants as play
use Rattle.occ_play.specs.declared.playing.Options.{Options}
use Rattle.occ_play.specs.declared.playing.Played.{Played}
use Rattle.occ_play.specs.Playing.{AfterFault, Refuses}
use Rattle.occ_play.specs.Watching.{IsWatched, TellsOutcome, TellsSome}
use Rattle.occ_play.specs.Working.{IsAnswerWithin, IsSomeCrewsAnswer, WorkersRefuse}
use Rattle.occ_run.proofs.Gathered.{state_of}
use Rattle.occ_play.proofs.Gathered.{ending_by, is_outcome}
use Rattle.occ_play.proofs.Headline.{never_limit, none_if}
use Rattle.occ_play.proofs.Working.{workers_refuse}

-- what is told of an outcome is an answer by workers, whose run shows the outcome's communications
pub within_by : (options : Options) (source keyboard : List ℕ) (limit : ℕ) (trace : Bool) (p : Program) (n : Past) (o : Outcome) (played : Played) (bytes : List ℕ)
    → (g : IsGathered p keyboard limit n) → IsReplayOf n g.net o
    → TellsOutcome options source keyboard trace p o played bytes
    → (w : IsAnswerWithin options source keyboard limit trace played bytes) × (shown_by (names_of p.channels) o.trace ≡ shown (names_of w.answer.of_text.program.channels) w.answer.run.follows.events)
within_by options source keyboard limit trace p n o played bytes g r t =
    let same : played.choices.items ≡ o.choices.items = ap (λ v. v.items) t.choices in
    let used : played.choices.items ≡ n.choices = same ∙ r.choices in
    let out = is_outcome p keyboard limit n o g r in
    let a = t.answers played.choices.items (subst (λ cs. IsOutcome p keyboard cs o) (sym same) out) in (
      record {
        answer = a.0;
        few = subst (λ cs. length cs ≤ limit) (sym used) g.few;
        whole = λ h. ap length used ∙ g.whole (none_if (ending_of p.errors g.net) (sym (ending_by p keyboard limit n o g r) ∙ sym t.ending ∙ h) (never_limit p.errors _ _ _));
      },
      a.1,
    )

-- the board shows the run of the answer
pub watched_by : (options : Options) (source keyboard : List ℕ) (limit : ℕ) (trace : Bool) (held : List Entry) (board : Publishing) (p : Program) (n : Past) (o : Outcome) (played : Played) (bytes : List ℕ)
    → (g : IsGathered p keyboard limit n) → IsReplayOf n g.net o
    → ((net : Net) → IsState n net → board ≡ publishing (held ++ entries (names_of p.channels) 1 net.trace) [] true)
    → TellsOutcome options source keyboard trace p o played bytes
    → IsWatched options source keyboard limit trace held board played bytes
watched_by options source keyboard limit trace held board p n o played bytes g r published t =
    let w = within_by options source keyboard limit trace p n o played bytes g r t in
    let at = state_of p keyboard limit n g in
    record {
      answer = w.0;
      published =
          published g.net at ∙ ap (λ xs. publishing (held ++ entries (names_of p.channels) 1 xs) [] true) r.trace
          ∙ ap (λ s. publishing (held ++ s.trace) [] true) w.1;
    }

-- a number that is not refused
pub crew_of : (workers : ℕ) → ((workers ≡ 0) ⊎ (most_workers < workers) → ⊥) → IsCrew workers
crew_of zero h = absurd (h (inl refl))
crew_of (suc n) h = (omega arith, by (nat_le (suc n) most_workers) refl)
  where
    by : (few : Bool) → nat_le (suc n) most_workers ≡ few → suc n ≤ most_workers
    by true e = grind (arith, nat_tests)
    by false e = let more : most_workers < suc n = grind (arith, nat_tests) in absurd (h (inr more))

-- a fault after a run by workers is one of theirs
pub after_written : {W : Type 0} (contents : W → Option (List ℕ)) (old new : Counted W) (workers : ℕ) (options : Options) (source keyboard : List ℕ) (limit : ℕ) (trace : Bool) (p : Program) (n : Past) (o : Outcome)
    → IsCrew workers → (g : IsGathered p keyboard limit n) → IsReplayOf n g.net o
    → (fault : PlayFault) → AfterFault contents (TellsSome options source keyboard trace p o) (Refuses options source) old new fault
    → AfterFault contents (IsSomeCrewsAnswer workers options source keyboard limit trace) (WorkersRefuse workers options source) old new fault
after_written contents old new workers options source keyboard limit trace p n o crew g r (play.Write written) h =
    let w = within_by options source keyboard limit trace p n o h.1.1.0 h.1.0 g r h.1.1.1 in
    (h.0, (h.1.0, (crew, (h.1.1.0, w.0)), h.1.2, h.1.3))
after_written contents old new workers options source keyboard limit trace p n o crew g r (play.Text f) h = (workers_refuse workers options source (play.Text f) crew h.0, h.1)
after_written contents old new workers options source keyboard limit trace p n o crew g r (play.Parse f) h = (workers_refuse workers options source (play.Parse f) crew h.0, h.1)
after_written contents old new workers options source keyboard limit trace p n o crew g r (play.Check f) h = (workers_refuse workers options source (play.Check f) crew h.0, h.1)
after_written contents old new workers options source keyboard limit trace p n o crew g r (play.Usage f) h = (workers_refuse workers options source (play.Usage f) crew h.0, h.1)
after_written contents old new workers options source keyboard limit trace p n o crew g r (play.Code f) h = (workers_refuse workers options source (play.Code f) crew h.0, h.1)
after_written contents old new workers options source keyboard limit trace p n o crew g r (play.Run f) h = (workers_refuse workers options source (play.Run f) crew h.0, h.1)
after_written contents old new workers options source keyboard limit trace p n o crew g r (play.Memory e) h = (workers_refuse workers options source (play.Memory e) crew h.0, h.1)
