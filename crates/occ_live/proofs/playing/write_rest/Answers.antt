use Rattle.std.proofs.Common.{◌∙◌}
use Rattle.occ_live.proofs.Answers.{part_written, rest_written}
use Rattle.occ_live.proofs.playing.write_rest.Goals as goal

pub returns-in-Ok-clause-rest : goal.returns-in-Ok-clause-rest
returns-in-Ok-clause-rest g c =
    rest_written g.W.Write.contents c.args.code.now c.args.outcome.now c.args.trace c.channels-channels.result.now c.deref.result.now c.in_ok-screen.screen.items c.len.result c.args.out.now c.write_answer.new.out
    c.channels-channels.ensures (c.deref.ensures.value ∙ c.in_ok-whole.ensures) (c.len.ensures ∙ c.in_ok-screen.screen.ok.0) c.in_ok-screen.ensures c.in-Ok.ensures.whole

pub returns-clause-part : goal.returns-clause-part
returns-clause-part g c =
    part_written g.W.Write.contents c.args.code.now c.args.outcome.now c.args.trace c.channels-channels.result.now c.deref.result.now c.in_ok-screen.screen.items c.len.result c.args.out.now c.write_answer.new.out
    c.channels-channels.ensures (c.deref.ensures.value ∙ c.in_ok-whole.ensures) (c.len.ensures ∙ c.in_ok-screen.screen.ok.0) c.in_ok-screen.ensures c.in-Err._written c.in-Err.ensures.beginning
