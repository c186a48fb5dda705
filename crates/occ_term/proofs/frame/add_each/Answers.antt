use Rattle.std.proofs.Common.{◌∙◌, rules, w64}
use Rattle.std.proofs.lemmas.Int.{to_z-of_z}
use Rattle.occ_term.specs.Frames.{at}
use Rattle.occ_term.proofs.FrameRows.{values_more}
use Rattle.occ_term.proofs.frame.add_each.Goals as goal

pub loop-i-preserved : goal.loop-i-preserved
loop-i-preserved c =
    values_more c.args.values.now.items c.loop-i.values.items c.push.new.self.items (at c.args.from.now) c.args.row.now.first c.loop-i.i _ c.in_ok-push.ensures.items c.loop-i.invariant
    (to_z-of_z w64 c.value_at.result (search rules) ∙ c.value_at.ensures)
