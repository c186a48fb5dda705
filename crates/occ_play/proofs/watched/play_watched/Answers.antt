use Rattle.std.proofs.Common.{◌++◌}
use Rattle.occ_play.proofs.Beside.{after_written, crew_of, watched_by}
use Rattle.occ_run.proofs.Gathered.{state_of}
use Rattle.occ_play.proofs.Gathered.{is_outcome}
use Rattle.occ_play.proofs.Headline.{are_bytes}
use Rattle.occ_play.proofs.TextTraces.{may_tell}
use Rattle.occ_play.proofs.watched.play_watched.Goals as goal

pub returns-in-Ok-written-clause-played : goal.returns-in-Ok-written-clause-played
returns-in-Ok-written-clause-played g c =
    let ran = c.in-Ok-watch_network.ensures in
    let code = c.in-Ok.code in
    let replay = c.into_replay-outcome.ensures ran.run.net (state_of code c.args.keyboard.now c.args.limit c.in-Ok-watch_network.ran.0 ran.run) in
    let w = c.in-Ok-written.ensures.played in
    (w.0, watched_by c.args.options.now c.args.source.now c.args.keyboard.now c.args.limit c.args.trace (c.args.publisher.published ++ c.args.publisher.pending) c.in-Ok-watch_network.ran.1 code c.in-Ok-watch_network.ran.0 c.into_replay-outcome.result c.in-Ok-written.played w.0 ran.run replay ran.shown w.1, w.2)

pub returns-clause-fault : goal.returns-clause-fault
returns-clause-fault g c =
    let ran = c.in-Ok-watch_network.ensures in
    let code = c.in-Ok.code in
    let replay = c.into_replay-outcome.ensures ran.run.net (state_of code c.args.keyboard.now c.args.limit c.in-Ok-watch_network.ran.0 ran.run) in
    after_written g.W.Write.contents c.args.out.now c.written.new.out c.args.workers c.args.options.now c.args.source.now c.args.keyboard.now c.args.limit c.args.trace code c.in-Ok-watch_network.ran.0 c.into_replay-outcome.result (crew_of c.args.workers (λ x. cc (ran.workers.1 x))) ran.run replay c.in-Err-written.fault c.in-Err-written.ensures.fault

pub written-requires-clause-ran : goal.written-requires-clause-ran
written-requires-clause-ran g c =
    let ran = c.in-Ok-watch_network.ensures in
    let code = c.in-Ok.code in
    let keyboard = c.args.keyboard.now in
    let limit = c.args.limit in
    let network = c.in-Ok-watch_network.ran.0 in
    record {
      code = c.in-Ok.ensures.code;
      is = is_outcome code keyboard limit network c.into_replay-outcome.result ran.run (c.into_replay-outcome.ensures ran.run.net (state_of code keyboard limit network ran.run));
    }

pub watch_network-requires-clause-may : goal.watch_network-requires-clause-may
watch_network-requires-clause-may g c = λ _ _.
    let keyboard = c.args.keyboard.now in
    may_tell g.J.Naming.may c.args.options.now c.args.source.now keyboard c.args.limit _ c.in-Ok.code c.in-Ok.ensures.code (are_bytes keyboard (λ k. (c.type_inv.keyboard k).fits)) c.ranges.limit.fits c.requires.may
