use Rattle.std.proofs.Common.{arith}
use Rattle.occ_play_inputs.specs.Paths.{IsUntyped}
use Rattle.occ_play_inputs.proofs.EachPath.{all_done, all_next}
use Rattle.occ_play_inputs.proofs.apart.are_untyped.Goals as goal

pub loop-i-preserved : goal.loop-i-preserved
loop-i-preserved c = all_next (IsUntyped c.args.typed) c.args.paths.now c.loop-i.i c.loop-i-test.true c.loop-i.invariant _ (c.differ.ensures c.if-not-differ.false)

pub returns : goal.returns
returns c = λ t. let end = c.loop-i-test.false in all_done (IsUntyped c.args.typed) c.args.paths.now c.loop-i.i (omega (arith, end)) c.loop-i.invariant
