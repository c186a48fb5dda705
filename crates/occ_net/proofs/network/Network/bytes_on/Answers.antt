use Rattle.std.proofs.Common.{◌∙◌, ◌<◌, ◌^◌, ap, length, rules, subst, sym}
use Rattle.occ_term.specs.Runs.{bytes_of, messages_on}
use Rattle.occ_net_tables.proofs.Placing.{places_replay}
use Rattle.occ_net.specs.Networks.{IsState, Past}
use Rattle.occ_net.proofs.Reading.{bytes_are}
use Rattle.occ_net.proofs.network.Network.bytes_on.Goals as goal

pub channel_bytes-requires : goal.channel_bytes-requires
channel_bytes-requires c =
    let past : Past = record { program = c.self.inside.code; keyboard = c.self.inside.keyboard.items; choices = c.self.inside.choices.items; out = c.self.inside.out.items } in
    let k = c.self.invariant in
    let state : IsState past k.net = places_replay past.program past.keyboard k.places in
    let few : length c.self.inside.choices.items < 2 ^ 64 = search rules in
    bytes_are past c.compiled.ensures k.bytes few k.net state c.args.chan c.requires c.trace.result.now (c.trace.ensures past.program past.keyboard k.net (k.holds k.net state))

pub returns : goal.returns
returns c = λ net s.
    let state = subst (λ (n : Past). IsState n net) (sym c.self.view_is) s in
    let trace = c.trace.ensures c.self.inside.code c.self.inside.keyboard.items net (c.self.invariant.holds net state) in
    c.in_ok-bytes.ensures ∙ ap (λ xs. bytes_of (messages_on c.args.chan xs)) (sym trace)
