-- What a run of a plan comes to.
use Rattle.std.proofs.Common.{◌≡◌, ◌∙◌, sym, ap, subst, ℕ, List, length, take}
use Rattle.std.proofs.lemmas.List.{take_at}
use Rattle.occ_machine.specs.Compiled.{Program}
use Rattle.occ_net_replay.specs.declared.choice.Choice.{Choice}
use Rattle.occ_net_replay.specs.Replay.{Net, Replays}
use Rattle.occ_net_tables.specs.declared.running.Keep.TheVariants.{Places}
use Rattle.occ_net_tables.specs.declared.running.Ran.{Ran}
use Rattle.occ_net_tables.specs.Outcomes.{Begins, IsRan}
use Rattle.occ_net_tables.specs.Places.{Placed}
use Rattle.occ_net_tables.proofs.Placing.{placed_length, places_replay}
use Rattle.occ_net.specs.Networks.{Past, IsState, fresh}
use Rattle.occ_net.specs.Outcomes.{IsOutcome, Shows}
use Rattle.occ_net.specs.declared.outcome.Outcome.{Outcome}

pub outcome_is : (p : Program) (kb : List ℕ) (list : List Choice) (ran : Ran) (h : IsRan p kb list Places ran) (o : Outcome) (n : Past) → n ≡ record (fresh p kb) { choices = ran.kept.items }
    → o.network ≡ n → o.choices.items ≡ take (length ran.kept.items) list → ((net : Net) → IsState n net → Shows net o) → IsOutcome p kb list o
outcome_is p kb list ran h o n made network choices shows =
    let both : o.network ≡ record (fresh p kb) { choices = ran.kept.items } = network ∙ made in
    let stored : o.network.choices ≡ ran.kept.items = ap (λ (m : Past). m.choices) both in
    let count : length h.given ≡ length ran.kept.items = placed_length p kb h.run.placed ∙ ap length (sym h.run.kept_is) in
    let given : h.given ≡ o.choices.items = sym (choices ∙ ap (take (length ran.kept.items)) h.used.is ∙ take_at h.given h.used.rest (length ran.kept.items) count) in
    let places : Placed p kb o.choices.items o.network.choices h.run.net =
    subst (λ (cs : List Choice). Placed p kb cs o.network.choices h.run.net) given (subst (λ (cs : List Choice). Placed p kb h.given cs h.run.net) (sym (stored ∙ h.run.kept_is)) h.run.placed)
    in
    let replays : Replays p kb ran.kept.items h.run.net = subst (λ (cs : List Choice). Replays p kb cs h.run.net) (sym h.run.kept_is) (places_replay p kb h.run.placed) in
    let state : IsState n h.run.net = subst (λ (m : Past). IsState m h.run.net) (sym made) replays in
    record {
      net = h.run.net;
      places = places;
      network = both ∙ sym (ap (λ (cs : List Choice). record (fresh p kb) { choices = cs }) stored);
      state = subst (λ (m : Past). IsState m h.run.net) (sym network) state;
      shows = shows h.run.net state;
      used = subst (λ (cs : List Choice). Begins cs list) given h.used;
      whole = λ q. sym given ∙ h.whole q;
    }
