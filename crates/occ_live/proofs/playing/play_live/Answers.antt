use Rattle.std.proofs.Common.{◌<◌, ◌^◌, length, rules}
use Rattle.occ_choices.specs.Plans.{choices_of}
use Rattle.occ_live.specs.Playing.{within}
use Rattle.occ_live.proofs.Answers.{rest_fails, screens_have_bytes, wrote_all}
use Rattle.occ_live.proofs.playing.play_live.Goals as goal

pub write_rest-requires-clause-bytes : goal.write_rest-requires-clause-bytes
write_rest-requires-clause-bytes g c =
    let read = c.run_live.new.bytes.items in
    let lived = c.in-Ok-run_live.lived in
    let small : length lived.outcome.choices.items < 2 ^ 64 = search rules in
    screens_have_bytes c.args.options.now c.args.source.now (choices_of c.args.plan.now) c.args.trace c.in-Ok.code c.in-Ok.ensures.code read lived.outcome c.in-Ok-run_live.ensures.lived.bytes small c.in-Ok-run_live.ensures.lived.is

pub returns-in-Err-run_live-clause-fault : goal.returns-in-Err-run_live-clause-fault
returns-in-Err-run_live-clause-fault g c = within c.in-Ok.code c.in-Ok.ensures.code c.in-Err-run_live.ensures.fault

pub returns-in-Ok-write_rest-clause-played : goal.returns-in-Ok-write_rest-clause-played
returns-in-Ok-write_rest-clause-played g c =
    let read = c.run_live.new.bytes.items in
    let lived = c.in-Ok-run_live.lived in
    let small : length lived.outcome.choices.items < 2 ^ 64 = search rules in
    wrote_all c.args.options.now c.args.source.now (choices_of c.args.plan.now) c.args.trace c.in-Ok.code c.in-Ok.ensures.code read lived small c.in-Ok-run_live.ensures.lived
    g.W.Write.contents c.args.out.now c.run_live.new.out c.write_rest.new.out c.in-Ok-run_live.ensures.shown
    c.played_of.result c.played_of.ensures.ending c.played_of.ensures.choices c.played_of.ensures.open c.in-Ok-write_rest.ensures.rest

pub returns-clause-fault : goal.returns-clause-fault
returns-clause-fault g c =
    let read = c.run_live.new.bytes.items in
    let lived = c.in-Ok-run_live.lived in
    let small : length lived.outcome.choices.items < 2 ^ 64 = search rules in
    rest_fails c.args.options.now c.args.source.now (choices_of c.args.plan.now) c.args.trace c.in-Ok.code c.in-Ok.ensures.code read lived small c.in-Ok-run_live.ensures.lived
    g.W.Write.contents c.args.out.now c.run_live.new.out c.write_rest.new.out c.in-Ok-run_live.ensures.shown
    c.in-Err-write_rest.fault c.in-Err-write_rest.ensures.part
