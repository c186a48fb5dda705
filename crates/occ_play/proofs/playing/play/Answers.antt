use Rattle.std.proofs.Common.{subst}
use Rattle.std.specs.Prelude.{IfOk, IfErr}
use Rattle.occ_choices.specs.Plans.{choices_of}
use Rattle.occ_play.specs.Playing.{AfterFault, IsAnswer, IsSomeAnswer, Refuses, Wrote}
use Rattle.occ_play.proofs.playing.play.Goals as goal

pub returns-clause-played : goal.returns-clause-played
returns-clause-played g c =
    subst (λ q. IfOk c.play_in.result (λ played. Wrote g.W.Write.contents (IsAnswer q c.args.source.now c.args.keyboard.now (choices_of c.args.plan.now) c.args.trace played) c.args.out.now c.play_in.new.out)) c.plain.ensures c.play_in.ensures.played

pub returns-clause-fault : goal.returns-clause-fault
returns-clause-fault g c =
    subst (λ q. IfErr c.play_in.result (AfterFault g.W.Write.contents (IsSomeAnswer q c.args.source.now c.args.keyboard.now (choices_of c.args.plan.now) c.args.trace) (Refuses q c.args.source.now) c.args.out.now c.play_in.new.out)) c.plain.ensures c.play_in.ensures.fault
