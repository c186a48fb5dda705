use Rattle.std.proofs.Common.{◌-◌, arith}
use Rattle.occ_report.proofs.Chains.{chain_step}
use Rattle.occ_report.proofs.calls.outwards.Goals as goal

pub calls-preserved : goal.calls-preserved
calls-preserved c =
    chain_step c.args.calls.now c.calls.at c.calls.left (c.calls.left - 1) c.in-Some.call c.calls.found.items c.push.new.self.items _ (omega (arith, c.calls-test.true)) c.in-Some.ensures c.in_ok-push.ensures.items c.calls.invariant
