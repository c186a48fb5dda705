use Rattle.occ_play_inputs.specs.Seeds.{seeded}
use Rattle.occ_play_inputs.proofs.SeedRows.{pushed}
use Rattle.occ_play_inputs.proofs.seeds.seeded_choices.Goals as goal

pub loop-preserved : goal.loop-preserved
loop-preserved c =
    pushed c.loop.choices.items c.push.new.self.items (seeded c.args.seed c.args.count) c.loop.number c.number_after-which.result c.number_after-pick.result c.args.count c.loop.counter
    c.number_after-which.ensures c.number_after-pick.ensures (c.in_ok-push.ensures.items) c.loop-test.true c.loop.invariant
