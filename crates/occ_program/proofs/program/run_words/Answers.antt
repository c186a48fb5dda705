use Rattle.std.proofs.Common.{◌∙◌, sym}
use Rattle.occ_program.proofs.LiveRuns.{alone_if, of_some}
use Rattle.occ_program.proofs.program.run_words.Goals as goal

pub returns-clause-came : goal.returns-clause-came
returns-clause-came g c = of_some c.args.words.now c.in_ok-inputs.inputs.source.items c.in_ok-inputs.inputs.keyboard.items c.run_inputs.result c.run_inputs.ensures.came

pub run_live_words-requires : goal.run_live_words-requires
run_live_words-requires g c = record { alone = alone_if c.args.words.now c.is_terminal.result (sym c.runs_live.ensures ∙ c.if-runs_live.true) }
