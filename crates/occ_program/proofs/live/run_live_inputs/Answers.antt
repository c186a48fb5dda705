use Rattle.occ_program.proofs.LiveRuns.{tried_once}
use Rattle.occ_program.proofs.live.run_live_inputs.Goals as goal

pub finish-requires-clause-tried : goal.finish-requires-clause-tried
finish-requires-clause-tried g c =
    tried_once c.args.words.now c.args.inputs.now.source.items c.play_keys-came.new.typed.items c.args.inputs.now.plan c.requires.alone c.requires.asked
