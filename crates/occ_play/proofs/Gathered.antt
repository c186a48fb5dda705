-- What the network of a run by workers comes to on one thread.
use Rattle.std.proofs.Common.{◌≡◌, ◌∙◌, ℕ, List, [], ap, append-nil, refl, subst, sym}
use Rattle.occ_machine.specs.Compiled.{Program}
use Rattle.occ_net_replay.specs.Following.{or_limit}
use Rattle.occ_net_replay.specs.Replay.{Replays, ending_of}
use Rattle.occ_net_tables.specs.declared.running.Outcome.{Outcome}
use Rattle.occ_net_tables.specs.Outcomes.{IsOutcome}
use Rattle.occ_net.specs.Networks.{Past}
use Rattle.occ_net.specs.Outcomes.{IsReplayOf}
use Rattle.occ_run.specs.Gathered.{IsGathered}

-- how the outcome ended, by the code of the run
pub ending_by : (p : Program) (keyboard : List ℕ) (limit : ℕ) (n : Past) (o : Outcome) (g : IsGathered p keyboard limit n) → IsReplayOf n g.net o → o.ending ≡ or_limit (ending_of p.errors g.net)
ending_by p keyboard limit n o g r = r.ending ∙ ap (λ (q : Program). or_limit (ending_of q.errors g.net)) g.program

-- its outcome is one of its own choices
pub is_outcome : (p : Program) (keyboard : List ℕ) (limit : ℕ) (n : Past) (o : Outcome) (g : IsGathered p keyboard limit n) → IsReplayOf n g.net o → IsOutcome p keyboard o.choices.items o
is_outcome p keyboard limit n o g r = record {
  net = g.net;
  replays = subst (λ cs. Replays p keyboard cs g.net) (sym r.choices) g.replays;
  trace = r.trace;
  used = record { rest = []; is = sym (append-nil o.choices.items) };
  ending = ending_by p keyboard limit n o g r;
  whole = λ h. refl;
}
