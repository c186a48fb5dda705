-- The outcome of a network that workers gathered.
use Rattle.std.proofs.Common.{◌≡◌, ◌∙◌, ◌≤◌, ℕ, List, ap, length, subst, sym}
use Rattle.occ_machine.specs.Compiled.{Program}
use Rattle.occ_net_replay.specs.Replay.{Net, Replays}
use Rattle.occ_net.specs.declared.outcome.Outcome.{Outcome}
use Rattle.occ_net.specs.Networks.{IsState, Past}
use Rattle.occ_net.specs.Outcomes.{Shows}
use Rattle.occ_run.specs.Gathered.{IsGathered, IsRunOf}

-- the network is in the state of the replay
pub state_of : (p : Program) (keyboard : List ℕ) (limit : ℕ) (n : Past) (g : IsGathered p keyboard limit n) → IsState n g.net
state_of p keyboard limit n g =
    let with_bytes : Replays p n.keyboard n.choices g.net = subst (λ ks. Replays p ks n.choices g.net) (sym g.bytes) g.replays in
    subst (λ q. Replays q n.keyboard n.choices g.net) (sym g.program) with_bytes

pub run_of : (p : Program) (keyboard : List ℕ) (limit : ℕ) (n : Past) (o : Outcome) → IsGathered p keyboard limit n
    → o.network ≡ n → o.choices.items ≡ n.choices → ((net : Net) → IsState n net → Shows net o) → IsRunOf p keyboard limit o
run_of p keyboard limit n o g same choices shows =
    record {
      network = record {
        program = ap (λ (m : Past). m.program) same ∙ g.program;
        bytes = ap (λ (m : Past). m.keyboard) same ∙ g.bytes;
        none_out = ap (λ (m : Past). m.out) same ∙ g.none_out;
        net = g.net;
        replays = subst (λ (m : Past). Replays p keyboard m.choices g.net) (sym same) g.replays;
        few = subst (λ (m : Past). length m.choices ≤ limit) (sym same) g.few;
        whole = λ h. ap (λ (m : Past). length m.choices) same ∙ g.whole h;
      };
      choices = choices ∙ sym (ap (λ (m : Past). m.choices) same);
      shows = shows g.net (state_of p keyboard limit n g);
    }
