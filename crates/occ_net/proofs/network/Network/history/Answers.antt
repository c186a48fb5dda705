use Rattle.std.proofs.Common.{◌∙◌, ◌<◌, ◌^◌, ap, length, rules, subst, sym}
use Rattle.occ_term.specs.Runs.{messages_on}
use Rattle.occ_net.specs.Histories.{IsHistory, messages_in}
use Rattle.occ_net.specs.Networks.{IsState, Past}
use Rattle.occ_net.proofs.Reading.{history_is}
use Rattle.occ_net.proofs.network.Network.history.Goals as goal

pub returns-clause-some : goal.returns-clause-some
returns-clause-some c = λ net s.
    let past : Past = record { program = c.self.inside.code; keyboard = c.self.inside.keyboard.items; choices = c.self.inside.choices.items; out = c.self.inside.out.items } in
    let state : IsState past net = subst (λ (n : Past). IsState n net) (sym c.self.view_is) s in
    let few : length c.self.inside.choices.items < 2 ^ 64 = search rules in
    let trace = c.trace.ensures past.program past.keyboard net (c.self.invariant.holds net state) in
    subst (λ (n : Past). IsHistory n.program net c.args.chan c.new.result) c.self.view_is
    (history_is past c.compiled.ensures c.self.invariant.bytes few net state c.args.chan c.new.result (ap (messages_on c.args.chan) trace ∙ sym (c.new.ensures ∙ ap (λ xs. messages_in xs c.args.chan) c.entries.ensures.entries)))
