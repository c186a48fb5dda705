use Rattle.std.proofs.Common.{◌≡◌, ◌∙◌, ◌+◌, ap, arith, sym}
use Rattle.occ_play.specs.Status.{fault_status}
use Rattle.occ_play_inputs.specs.Seeds.{seeded}
use Rattle.occ_program.specs.Trying.{by_first, by_seed}
use Rattle.occ_program.proofs.Ended.{same_refused, same_tried}
use Rattle.occ_program.proofs.seeding.take_seed_from.Goals as goal

pub returns-in_ok-plan_seed-in-Ok-clause-seeded : goal.returns-in_ok-plan_seed-in-Ok-clause-seeded
returns-in_ok-plan_seed-in-Ok-clause-seeded c =
    let tried = c.in-Ok.ensures.tried in
    record { place = tried.place; within = tried.within; choices = c.in_ok-plan_seed-in-Ok.ensures.planned ∙ ap (λ s. seeded s c.args.words.now.limit) tried.is }

pub returns-in_ok-plan_seed-in-Ok-clause-tried : goal.returns-in_ok-plan_seed-in-Ok-clause-tried
returns-in_ok-plan_seed-in-Ok-clause-tried c =
    let source = c.as_slice.ensures.value ∙ ap (λ v. v.items) (sym c.plan_seed.ensures.source) in
    let keyboard = c.as_slice-2.ensures.value ∙ ap (λ v. v.items) (sym c.plan_seed.ensures.keyboard) in
    by_seed c.in-Ok.seed (same_tried c.args.words.now.limit c.args.first c.args.words.now.tries c.in-Ok.seed c.options_of.ensures source keyboard c.in-Ok.ensures.tried) c.in_ok-plan_seed-in-Ok.ensures.planned

pub returns-in_ok-plan_seed-in-Ok-clause-seed : goal.returns-in_ok-plan_seed-in-Ok-clause-seed
returns-in_ok-plan_seed-in-Ok-clause-seed c =
    let source = c.as_slice.ensures.value ∙ ap (λ v. v.items) (sym c.plan_seed.ensures.source) in
    let keyboard = c.as_slice-2.ensures.value ∙ ap (λ v. v.items) (sym c.plan_seed.ensures.keyboard) in
    same_tried c.args.words.now.limit c.args.first c.args.words.now.tries c.in-Ok.seed c.options_of.ensures source keyboard c.in-Ok.ensures.tried

pub returns-in_ok-plan_seed-in-Err-clause-seeded : goal.returns-in_ok-plan_seed-in-Err-clause-seeded
returns-in_ok-plan_seed-in-Err-clause-seeded c =
    let some = c.args.words.now.some_tries in
    let first : c.args.first ≡ c.args.first + 0 = omega arith in
    record { place = 0; within = omega (arith, some); choices = c.in_ok-plan_seed-in-Err.ensures.planned ∙ ap (λ s. seeded s c.args.words.now.limit) first }

pub returns-in_ok-plan_seed-in-Err-clause-tried : goal.returns-in_ok-plan_seed-in-Err-clause-tried
returns-in_ok-plan_seed-in-Err-clause-tried c =
    let told : fault_status c.in-Err.fault ≡ 1 = ap fault_status (sym c.in-Err.fault-is) ∙ sym c.status_of_fault.ensures ∙ c.if-status_of_fault-eq1.true in
    let source = c.as_slice.ensures.value ∙ ap (λ v. v.items) (sym c.plan_seed-in-Err.ensures.source) in
    by_first c.in-Err.fault told (same_refused c.in-Err.fault c.options_of.ensures source (c.in-Err.ensures.refused told)) c.in_ok-plan_seed-in-Err.ensures.planned
