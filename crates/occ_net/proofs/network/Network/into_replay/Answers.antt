use Rattle.std.proofs.Common.{◌≡◌, ◌∙◌, ap, refl, subst, sym}
use Rattle.std.specs.Prelude.{None, Option, Some, unwrap_or}
use Rattle.occ_term.specs.declared.ending.Ending.{Ending}
use Rattle.occ_term.specs.declared.ending.Ending.TheVariants as ending
use Rattle.occ_net_replay.specs.Following.{or_limit}
use Rattle.occ_net.specs.Networks.{IsState, Past}
use Rattle.occ_net.proofs.network.Network.into_replay.Goals as goal

limit_else : (e : Option Ending) → unwrap_or e ending.Limit ≡ or_limit e
limit_else None = refl
limit_else (Some e) = refl

pub returns : goal.returns
returns c = λ net s.
    let state = subst (λ (n : Past). IsState n net) (sym c.self.view_is) s in
    record {
      choices = ap (λ (n : Past). n.choices) c.self.view_is;
      ending = c.unwrap_or-ending.ensures ∙ limit_else c.ending.result ∙ ap or_limit (c.ending.ensures net s);
      trace = c.into_trace.ensures c.self.inside.code c.self.inside.keyboard.items net (c.self.invariant.holds net state);
    }
