use Rattle.std.proofs.Common.{◌≤◌, subst, sym}
use Rattle.occ_program.specs.Coming.{by_search}
use Rattle.occ_program.proofs.Statuses.{found_small}
use Rattle.occ_program.proofs.exploring.searched.Goals as goal

pub returns-clause-came : goal.returns-clause-came
returns-clause-came g c = by_search c.args.inputs.now.source.items c.args.inputs.now.keyboard.items c.search-found.result c.search-found.ensures c.status_of_found.ensures

pub returns-clause-small : goal.returns-clause-small
returns-clause-small g c = subst (λ n. n ≤ 7) (sym c.status_of_found.ensures) (found_small c.search-found.result)
