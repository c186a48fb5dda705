use Rattle.occ_run.proofs.watched.run_watched.Goals as goal

pub returns-in-Ok-clause-run : goal.returns-in-Ok-clause-run
returns-in-Ok-clause-run g c = c.in-Ok.ensures.run c.args.code.now c.args.keyboard.now c.args.limit c.in_ok-network.ensures.run
