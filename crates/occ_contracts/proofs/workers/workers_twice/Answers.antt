use Rattle.occ_contracts.proofs.Outcomes.{are_bytes}
use Rattle.occ_contracts.proofs.Gathering.{told_alike}
use Rattle.occ_contracts.proofs.workers.workers_twice.Goals as goal

pub returns : goal.returns
returns g c =
    let bytes = are_bytes c.args.keyboard.now (λ k. (c.type_inv.keyboard k).fits) in
    told_alike c.args.code.now c.args.keyboard.now c.args.limit c.compiled.ensures bytes c.ranges.limit.fits _ _ c.run_workers.ensures.run c.run_workers-2.ensures.run
