use Rattle.occ_term.proofs.Components.{next_subscript}
use Rattle.occ_term.proofs.names.write_subscripts.Goals as goal

pub loop-k-preserved : goal.loop-k-preserved
loop-k-preserved c = next_subscript c.args.out.now.items c.args.subscripts.now c.loop-k.out.items c.write_subscript.new.out.items c.loop-k.k-index 0 c.loop-k-test.true c.loop-k.invariant c.in_ok-write_subscript.ensures
