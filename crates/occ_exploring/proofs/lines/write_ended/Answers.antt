use Rattle.occ_exploring.proofs.Growth.{three_grown}
use Rattle.occ_exploring.proofs.lines.write_ended.Goals as goal

pub returns : goal.returns
returns c =
    three_grown c.args.out.now.items _ _ _ _ _ _ c.in_ok-extend_from_slice.ensures.items c.in_ok-write_counted.ensures c.in_ok-extend_from_slice-2.ensures.items
