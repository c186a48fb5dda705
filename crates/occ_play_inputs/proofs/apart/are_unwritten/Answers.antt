use Rattle.std.proofs.Common.{arith}
use Rattle.occ_play_inputs.specs.Paths.{IsUnwritten}
use Rattle.occ_play_inputs.proofs.EachPath.{all_done, all_next}
use Rattle.occ_play_inputs.proofs.apart.are_unwritten.Goals as goal

pub loop-i-preserved : goal.loop-i-preserved
loop-i-preserved c =
    all_next (IsUnwritten c.args.written c.args.drawn c.args.traced c.args.turns) c.args.paths.now c.loop-i.i c.loop-i-test.true c.loop-i.invariant _ (c.is_unwritten.ensures c.if-not-is_unwritten.false)

pub returns : goal.returns
returns c = λ t. let end = c.loop-i-test.false in all_done (IsUnwritten c.args.written c.args.drawn c.args.traced c.args.turns) c.args.paths.now c.loop-i.i (omega (arith, end)) c.loop-i.invariant
