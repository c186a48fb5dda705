use Rattle.std.proofs.Common.{subst}
use Rattle.std.specs.Prelude.{IfErr}
use Rattle.occ_play.specs.Playing.{AfterFault}
use Rattle.occ_play.specs.Working.{IsSomeCrewsAnswer, WorkersRefuse}
use Rattle.occ_play.proofs.workers.play_workers.Goals as goal

pub returns-clause-fault : goal.returns-clause-fault
returns-clause-fault g c =
    subst (λ q. IfErr c.play_workers_in.result (AfterFault g.W.Write.contents (IsSomeCrewsAnswer c.args.workers q c.args.source.now c.args.keyboard.now c.args.limit c.args.trace) (WorkersRefuse c.args.workers q c.args.source.now) c.args.out.now c.play_workers_in.new.out)) c.plain-options.ensures c.play_workers_in.ensures.fault
