use Rattle.std.proofs.Common.{map, subst}
use Rattle.std.specs.Prelude.{IfSome}
use Rattle.occ_ends.specs.Ends.{noted_for}
use Rattle.occ_explore.specs.Only.{IsOnlyAnswer}
use Rattle.occ_exploring.proofs.OfUses.{only_by}
use Rattle.occ_exploring.proofs.only.only_answer_in.Goals as goal

pub returns-clause-only : goal.returns-clause-only
returns-clause-only c =
    let a = c.args in
    only_by a.options.now a.source.now a.keyboard.now c.in_ok-code.code c.in_ok-uses.uses.items c.in_ok-code.ensures.code c.in_ok-uses.ensures.told c.in_ok-found.found
    (subst (λ us. IfSome c.in_ok-found.found (IsOnlyAnswer (map noted_for us) c.in_ok-code.code a.keyboard.now)) c.as_slice.ensures.value c.in_ok-found.ensures.told)
