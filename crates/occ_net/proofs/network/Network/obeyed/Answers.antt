use Rattle.std.proofs.Common.{◌≡◌, ◌<◌, ◌^◌, [], length, refl, rules, subst, sym}
use Rattle.occ_term.specs.Runs.{messages_on}
use Rattle.occ_term.specs.declared.ending.Ending.TheVariants as ending
use Rattle.occ_net_replay.specs.Following.{or_limit}
use Rattle.occ_net_replay.specs.Replay.{ending_of}
use Rattle.occ_net.specs.Histories.{IsHistory}
use Rattle.occ_net.specs.Networks.{IsState, Past}
use Rattle.occ_net.proofs.Reading.{clean_is, history_is}
use Rattle.occ_net.proofs.network.Network.obeyed.Goals as goal

pub returns-clause-histories : goal.returns-clause-histories
returns-clause-histories c = λ net s chan.
    let past : Past = record { program = c.self.inside.code; keyboard = c.self.inside.keyboard.items; choices = c.self.inside.choices.items; out = c.self.inside.out.items } in
    let state : IsState past net = subst (λ (n : Past). IsState n net) (sym c.self.view_is) s in
    let few : length c.self.inside.choices.items < 2 ^ 64 = search rules in
    subst (λ (n : Past). IsHistory n.program net chan (messages_on chan net.trace)) c.self.view_is
    (history_is past c.compiled.ensures c.self.invariant.bytes few net state chan (messages_on chan net.trace) refl)

pub returns-clause-clean : goal.returns-clause-clean
returns-clause-clean c = λ net s.
    let past : Past = record { program = c.self.inside.code; keyboard = c.self.inside.keyboard.items; choices = c.self.inside.choices.items; out = c.self.inside.out.items } in
    let state : IsState past net = subst (λ (n : Past). IsState n net) (sym c.self.view_is) s in
    let few : length c.self.inside.choices.items < 2 ^ 64 = search rules in
    subst (λ (n : Past). or_limit (ending_of n.program.errors net) ≡ ending.Ended → net.noted ≡ []) c.self.view_is
    (clean_is past c.compiled.ensures c.self.invariant.bytes few net state)
