use Rattle.std.proofs.Common.{◌∙◌}
use Rattle.occ_shown.proofs.Growth.{Appends-take, within-take}
use Rattle.occ_shown.proofs.counted.write_answer.Goals as goal

pub loop-written-preserved : goal.loop-written-preserved
loop-written-preserved g c = record {
  within = within-take _ _ _ c.loop-written.invariant.within c.in-Some.ensures.some.1;
  none_failed = c.in-Some.ensures.none_failed ∙ c.loop-written.invariant.none_failed;
  beginning = Appends-take _ _ _ _ _ _ c.loop-written.invariant.beginning c.in-Some.ensures.taken;
}
