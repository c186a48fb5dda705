use Rattle.std.proofs.Common.{◌≤◌, subst, sym}
use Rattle.occ_program.specs.Coming.{LookedAt}
use Rattle.occ_program.proofs.Statuses.{look_small}
use Rattle.occ_program.proofs.looking.look_at_words.Goals as goal

pub returns-clause-looked : goal.returns-clause-looked
returns-clause-looked g c = record {
  source = c.in_ok-source.source.bytes.items;
  fault = c.fault_in-fault.result;
  looked = subst (λ s. LookedAt c.args.words.now s c.fault_in-fault.result) c.as_slice.ensures.value c.fault_in-fault.ensures;
  is = c.status_of_look.ensures;
}

pub returns-clause-small : goal.returns-clause-small
returns-clause-small g c = subst (λ n. n ≤ 7) (sym c.status_of_look.ensures) (look_small c.fault_in-fault.result)
