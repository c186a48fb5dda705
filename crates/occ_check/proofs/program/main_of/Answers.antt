use Rattle.std.proofs.Common.{sym}
use Rattle.occ_check.proofs.Calls.{no_first, nothing}
use Rattle.occ_check.proofs.MainProcess.{last_here, no_main, not_here, nowhere}
use Rattle.occ_check.specs.Program.{main_in}
use Rattle.occ_check.proofs.program.main_of.Goals as goal

pub returns-in-Some-main_at : goal.returns-in-Some-main_at
returns-in-Some-main_at c =
    last_here c.args.items.now c.backwards.left.now c.in-Some.before.now c.in-Some.item.now c.in-Some.ensures.cases.0 c.backwards.invariant (main_in c.in-Some-main_at.main) (sym c.in-Some-main_at.ensures)

pub backwards-preserved : goal.backwards-preserved
backwards-preserved c =
    not_here c.args.items.now c.backwards.left.now c.in-Some.before.now c.in-Some.item.now c.in-Some.ensures.cases.0 c.backwards.invariant (no_main _ main_in c.main_at.ensures c.in_default-main_at.not-Some)

pub returns : goal.returns
returns c = nowhere c.args.items.now c.backwards.left.now (nothing c.backwards.left.now (no_first _ c.split_last.result c.split_last.ensures.cases c.in_default.not-Some)) c.backwards.invariant
