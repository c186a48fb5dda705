use Rattle.occ_program.proofs.LiveRuns.{of_some}
use Rattle.occ_program.proofs.live.run_live_words.Goals as goal

pub returns-in-Some-clause-came : goal.returns-in-Some-clause-came
returns-in-Some-clause-came g c =
    of_some c.args.words.now c.in_ok-inputs.inputs.source.items c.run_live_inputs.new.inputs.keyboard.items c.run_live_inputs.result c.run_live_inputs.ensures.came
