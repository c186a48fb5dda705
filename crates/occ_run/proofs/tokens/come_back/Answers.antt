use Rattle.std.proofs.Common.{rules, ap, ◌∙◌}
use Rattle.occ_run.specs.declared.tokens.Known.{Known}
use Rattle.occ_run.proofs.Moves.{checks, returns}
use Rattle.occ_run.proofs.tokens.come_back.Goals as goal

pub join_pass-requires : goal.join_pass-requires
join_pass-requires g c = (search rules, (search rules, ((c.requires.own, c.requires.other.0, c.requires.other.1), returns _ _ _ _ c.requires.keeps)))

pub load_as-requires : goal.load_as-requires
load_as-requires g c =
    let j = c.join_pass.ensures in
    (search rules, (search rules, (j.0.0 ∙ c.requires.own, checks _ _ (ap (λ (v : Known). v.keeps) j.1 ∙ ap (λ (v : Known). v.keeps) c.requires.keeps))))
