use Rattle.std.proofs.Common.{◌<◌, ◌^◌, length, rules, subst}
use Rattle.occ_net_tables.proofs.Placing.{places_replay}
use Rattle.occ_net.specs.Networks.{IsNetwork, Past}
use Rattle.occ_net.proofs.network.Network.replayed.Goals as goal

pub returns : goal.returns
returns c =
    let k = c.self.invariant in
    let few : length c.self.inside.choices.items < 2 ^ 63 = search rules in
    subst (λ (n : Past). IsNetwork n) c.self.view_is
    record {
      net = k.net;
      state = places_replay c.self.inside.code c.self.inside.keyboard.items k.places;
      places = k.places;
      compiled = c.compiled.ensures;
      bytes = k.bytes;
      few = few;
      marked = k.marked;
    }
