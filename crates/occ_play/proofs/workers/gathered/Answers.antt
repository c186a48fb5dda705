use Rattle.occ_run.proofs.Gathered.{state_of}
use Rattle.occ_play.proofs.Gathered.{is_outcome}
use Rattle.occ_play.proofs.Working.{within}
use Rattle.occ_play.proofs.workers.gathered.Goals as goal

pub returns-clause-answer : goal.returns-clause-answer
returns-clause-answer g c =
    let network = c.in_ok-network.network in
    let code = c.in_ok-code.code in
    let run = c.in_ok-network.ensures.run in
    let keyboard = c.args.keyboard.now in
    let limit = c.args.limit in
    within c.args.options.now c.args.source.now keyboard limit c.args.trace code network c.into_replay-outcome.result c.in_ok-played.played c.in_ok-played.bytes.items
    run (c.into_replay-outcome.ensures run.net (state_of code keyboard limit network run))
    c.in_ok-played.ensures.choices c.in_ok-played.ensures.ending (λ list is. (c.in_ok-played.ensures.answer list is).0)

pub told-requires : goal.told-requires
told-requires g c =
    let network = c.in_ok-network.network in
    let code = c.in_ok-code.code in
    let run = c.in_ok-network.ensures.run in
    let keyboard = c.args.keyboard.now in
    let limit = c.args.limit in
    record {
      code = c.in_ok-code.ensures.code;
      is = is_outcome code keyboard limit network c.into_replay-outcome.result run (c.into_replay-outcome.ensures run.net (state_of code keyboard limit network run));
    }
