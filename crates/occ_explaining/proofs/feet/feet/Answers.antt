use Rattle.occ_shown.specs.Answers.{names_of}
use Rattle.occ_explaining.proofs.ChartsOfRuns.{feet_step}
use Rattle.occ_explaining.proofs.feet.feet.Goals as goal

pub loop-number-preserved : goal.loop-number-preserved
loop-number-preserved c = λ p keyboard net h.
    feet_step (names_of c.args.channels.now) net.tasks c.loop-number.number c.loop-number.stubs.items _ (c.loop-number.invariant p keyboard net h) (c.in_ok-push_task.ensures p keyboard net h)
