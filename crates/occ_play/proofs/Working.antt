-- The answer of a run by workers.
use Rattle.std.proofs.Common.{◌≡◌, ◌∙◌, ◌≤◌, ℕ, List, Bool, length, sym, ap, subst}
use Rattle.occ_choices.specs.Crews.{IsCrew}
use Rattle.occ_machine.specs.Compiled.{Program}
use Rattle.occ_net_replay.specs.declared.choice.Choice.{Choice}
use Rattle.occ_net_replay.specs.Replay.{ending_of}
use Rattle.occ_net_tables.specs.declared.running.Outcome.{Outcome}
use Rattle.occ_net_tables.specs.Outcomes.{IsOutcome}
use Rattle.occ_net.specs.Networks.{Past}
use Rattle.occ_net.specs.Outcomes.{IsReplayOf}
use Rattle.occ_run.specs.Gathered.{IsGathered}
use Rattle.occ_play.specs.declared.playing.Played.{Played}
use Rattle.occ_play.specs.declared.fault.PlayFault.{PlayFault}
use Rattle.occ_play.specs.declared.fault.PlayFault.TheVariants as play
use Rattle.occ_play.specs.declared.playing.Options.{Options}
use Rattle.occ_play.specs.Playing.{IsAnswer, Refuses, RefusesCode}
use Rattle.occ_play.specs.Working.{IsAnswerWithin, WorkersRefuse}
use Rattle.occ_play.proofs.Gathered.{ending_by, is_outcome}
use Rattle.occ_play.proofs.Headline.{never_limit, none_if}

pub within : (options : Options) (source keyboard : List ℕ) (limit : ℕ) (trace : Bool) (p : Program) (n : Past) (o : Outcome) (played : Played) (bytes : List ℕ)
    → (g : IsGathered p keyboard limit n) → IsReplayOf n g.net o
    → played.choices ≡ o.choices → played.ending ≡ o.ending → ((list : List Choice) → IsOutcome p keyboard list o → IsAnswer options source keyboard list trace played bytes)
    → IsAnswerWithin options source keyboard limit trace played bytes
within options source keyboard limit trace p n o played bytes g r same_choices same_ending answers =
    let same : played.choices.items ≡ o.choices.items = ap (λ v. v.items) same_choices in
    let used : played.choices.items ≡ n.choices = same ∙ r.choices in
    record {
      answer = subst (λ cs. IsAnswer options source keyboard cs trace played bytes) (sym same) (answers o.choices.items (is_outcome p keyboard limit n o g r));
      few = subst (λ cs. length cs ≤ limit) (sym used) g.few;
      whole = λ h. ap length used ∙ g.whole (none_if (ending_of p.errors g.net) (sym (ending_by p keyboard limit n o g r) ∙ sym same_ending ∙ h) (never_limit p.errors _ _ _));
    }

-- What refuses a text, refuses it for any workers: want of memory behind the layers is that of a crew.
pub workers_refuse : (workers : ℕ) (options : Options) (source : List ℕ) (fault : PlayFault) → IsCrew workers → Refuses options source fault → WorkersRefuse workers options source fault
workers_refuse workers options source (play.Text f) crew h = h
workers_refuse workers options source (play.Parse f) crew h = h
workers_refuse workers options source (play.Check f) crew h = h
workers_refuse workers options source (play.Usage f) crew h = h
workers_refuse workers options source (play.Code f) crew h = h
workers_refuse workers options source (play.Write written) crew h = h
workers_refuse workers options source (play.Run f) crew h = absurd h
workers_refuse workers options source (play.Memory e) crew h = (h, crew)

-- what refuses a text before there is code
pub early_refuse : (workers : ℕ) (options : Options) (source : List ℕ) (fault : PlayFault) → RefusesCode options source fault → WorkersRefuse workers options source fault
early_refuse workers options source (play.Text f) h = h
early_refuse workers options source (play.Parse f) h = h
early_refuse workers options source (play.Check f) h = h
early_refuse workers options source (play.Usage f) h = h
early_refuse workers options source (play.Code f) h = h
early_refuse workers options source (play.Write written) h = h
early_refuse workers options source (play.Run f) h = absurd h
early_refuse workers options source (play.Memory e) h = absurd h
