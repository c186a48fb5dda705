-- The choices of a run of several threads fix what it came to.
use Rattle.std.proofs.Common.{◌≡◌, ◌∙◌, sym, ap, subst, arith, Bool, true, ℕ, ◌<◌, ◌^◌, List, [], ◌++◌, Option, None, Result, Ok, Err, IfOk, length}
use Rattle.occ_board.specs.Traces.{Publishing, held_by, publishing}
use Rattle.occ_term.specs.Runs.{bytes_of, messages_on}
use Rattle.occ_term.specs.declared.ending.Ending.{Ending}
use Rattle.occ_term.specs.declared.names.Channel.{Channel}
use Rattle.occ_machine.specs.Compiled.{Program, IsCompiled}
use Rattle.occ_net.proofs.States.{one_state}
use Rattle.occ_net.specs.Networks.{InState, IsState, Past, fresh}
use Rattle.occ_net.specs.declared.outcome.Outcome.{Outcome}
use Rattle.occ_net_replay.specs.declared.choice.Choice.{Choice}
use Rattle.occ_net_replay.specs.Following.{AreBytes, or_limit}
use Rattle.occ_net_replay.specs.Replay.{Net, ending_of}
use Rattle.occ_run.specs.Gathered.{IsGathered, IsRunOf}
use Rattle.occ_run.specs.Telling.{TellsTrace}
use Rattle.occ_shown.specs.Answers.{entries_in}
use Rattle.occ_contracts.specs.Agreement.{BothGive}
use Rattle.occ_contracts.specs.Networks.{told}

abbrev past : Program → List ℕ → List Choice → List Bool → Past
past p keyboard choices out = record { program = p; keyboard = keyboard; choices = choices; out = out }

module _ (p : Program) (kb : List ℕ) (limit : ℕ) where
  pub one_network : (a b : Past) → IsGathered p kb limit a → IsGathered p kb limit b → a.choices ≡ b.choices → a ≡ b
  one_network a b x y choices =
      ap (λ q. past q a.keyboard a.choices a.out) (x.program ∙ sym y.program)
      ∙ ap (λ k. past b.program k a.choices a.out) (x.bytes ∙ sym y.bytes)
      ∙ ap (λ c. past b.program b.keyboard c a.out) choices
      ∙ ap (λ o. past b.program b.keyboard b.choices o) (x.none_out ∙ sym y.none_out)

  pub networks_alike : {E F : Type 0} (r : Result Past E) (q : Result Past F) → IfOk r (IsGathered p kb limit) → IfOk q (IsGathered p kb limit) → BothGive (λ a b. a.choices ≡ b.choices → a ≡ b) r q
  networks_alike (Ok a) (Ok b) x y = one_network a b x y
  networks_alike (Ok _) (Err _) x y = tt
  networks_alike (Err _) (Ok _) x y = tt
  networks_alike (Err _) (Err _) x y = tt

  pub watched_networks_alike : {N E F : Type 0} (r : Result (Past × Publishing × N) E) (q : Result (Past × Publishing × N) F) → IfOk r (λ z. IsGathered p kb limit z.0) → IfOk q (λ z. IsGathered p kb limit z.0)
      → BothGive (λ z w. z.0.choices ≡ w.0.choices → z.0 ≡ w.0) r q
  watched_networks_alike (Ok a) (Ok b) x y = one_network a.0 b.0 x y
  watched_networks_alike (Ok _) (Err _) x y = tt
  watched_networks_alike (Err _) q x y = tt

  -- the state of a network that was gathered
  state_of : (a : Past) (x : IsGathered p kb limit a) → IsState a x.net
  state_of a x = subst (λ q. IsState (past q a.keyboard a.choices a.out) x.net) (sym x.program) (subst (λ k. IsState (past p k a.choices a.out) x.net) (sym x.bytes) x.replays)

  -- it has as many choices as it may, unless it has ended
  pub whole_unless_ended : (a : Past) (e : Option Ending) (cs : List Choice) → cs ≡ a.choices → IsGathered p kb limit a → InState a (λ net. e ≡ ending_of a.program.errors net) → e ≡ None → length cs ≡ limit
  whole_unless_ended a e cs lent x is none =
      ap (λ (l : List Choice). length l) lent ∙ x.whole (ap (λ (q : Program). ending_of q.errors x.net) (sym x.program) ∙ sym (is x.net (state_of a x)) ∙ none)

  module _ (made : IsCompiled p) (bytes : AreBytes kb) (small : limit < 2 ^ 32) where
    one_told : (a b : Outcome) → IsRunOf p kb limit a → IsRunOf p kb limit b → a.network.choices ≡ b.network.choices → told a ≡ told b
    one_told a b x y choices =
        let few : length a.network.choices < 2 ^ 64 = (let q = x.network.few in omega (arith, q, small)) in
        let network : a.network ≡ b.network = one_network a.network b.network x.network y.network choices in
        let net : x.network.net ≡ y.network.net = one_state (record (fresh p kb) { choices = a.network.choices }) made bytes few x.network.net y.network.net x.network.replays (subst (λ c. IsState (record (fresh p kb) { choices = c }) y.network.net) (sym choices) y.network.replays) in
        let used : a.choices.items ≡ b.choices.items = x.choices ∙ choices ∙ sym y.choices in
        let ending : a.ending ≡ b.ending = x.shows.ending ∙ ap (λ n. or_limit (ending_of a.network.program.errors n)) net ∙ ap (λ (m : Past). or_limit (ending_of m.program.errors y.network.net)) network ∙ sym y.shows.ending in
        let screen : a.screen.items ≡ b.screen.items = x.shows.screen ∙ ap (λ (n : Net). bytes_of (messages_on 1 n.trace)) net ∙ sym y.shows.screen in
        let error : a.error.items ≡ b.error.items = x.shows.error ∙ ap (λ (n : Net). bytes_of (messages_on 2 n.trace)) net ∙ sym y.shows.error in
        cc (ending, used, screen, error, network)

    pub told_alike : {E F : Type 0} (r : Result Outcome E) (q : Result Outcome F) → IfOk r (IsRunOf p kb limit) → IfOk q (IsRunOf p kb limit) → BothGive (λ a b. a.network.choices ≡ b.network.choices → told a ≡ told b) r q
    told_alike (Ok a) (Ok b) x y = one_told a b x y
    told_alike (Ok _) (Err _) x y = tt
    told_alike (Err _) (Ok _) x y = tt
    told_alike (Err _) (Err _) x y = tt

    pub watched_told_alike : {N E F : Type 0} (r : Result (Outcome × Publishing × N) E) (q : Result (Outcome × Publishing × N) F) → IfOk r (λ z. IsRunOf p kb limit z.0) → IfOk q (λ z. IsRunOf p kb limit z.0)
        → BothGive (λ z w. z.0.network.choices ≡ w.0.network.choices → told z.0 ≡ told w.0) r q
    watched_told_alike (Ok a) (Ok b) x y = one_told a.0 b.0 x y
    watched_told_alike (Ok _) (Err _) x y = tt
    watched_told_alike (Err _) q x y = tt

  module _ (channels : List Channel) (one other : Publishing) (same : other ≡ one) where
    one_published : (a b : Past) (s t : Publishing) → IsGathered p kb limit a → IsGathered p kb limit b → TellsTrace channels (held_by one) a s → TellsTrace channels (held_by other) b t → a.choices ≡ b.choices → s ≡ t
    one_published a b s t x y h g choices =
        let network : a ≡ b = one_network a b x y choices in
        let here = h x.net (state_of a x) in
        let there = g x.net (subst (λ n. IsState n x.net) network (state_of a x)) in
        here ∙ ap (λ (u : Publishing). publishing (held_by u ++ entries_in channels x.net.trace) [] true) (sym same) ∙ sym there

    pub published_alike : {N E F : Type 0} (r : Result (Past × Publishing × N) E) (q : Result (Past × Publishing × N) F)
        → IfOk r (λ z. IsGathered p kb limit z.0) → IfOk q (λ z. IsGathered p kb limit z.0) → IfOk r (λ z. TellsTrace channels (held_by one) z.0 z.1) → IfOk q (λ z. TellsTrace channels (held_by other) z.0 z.1)
        → BothGive (λ z w. z.0.choices ≡ w.0.choices → z.1 ≡ w.1) r q
    published_alike (Ok a) (Ok b) x y h g = one_published a.0 b.0 a.1 b.1 x y h g
    published_alike (Ok _) (Err _) x y h g = tt
    published_alike (Err _) (Ok _) x y h g = tt
    published_alike (Err _) (Err _) x y h g = tt

    pub outcome_published_alike : {N E F : Type 0} (r : Result (Outcome × Publishing × N) E) (q : Result (Outcome × Publishing × N) F)
        → IfOk r (λ z. IsRunOf p kb limit z.0) → IfOk q (λ z. IsRunOf p kb limit z.0) → IfOk r (λ z. TellsTrace channels (held_by one) z.0.network z.1) → IfOk q (λ z. TellsTrace channels (held_by other) z.0.network z.1)
        → BothGive (λ z w. z.0.network.choices ≡ w.0.network.choices → z.1 ≡ w.1) r q
    outcome_published_alike (Ok a) (Ok b) x y h g = one_published a.0.network b.0.network a.1 b.1 x.network y.network h g
    outcome_published_alike (Ok _) (Err _) x y h g = tt
    outcome_published_alike (Err _) q x y h g = tt
