use Rattle.occ_chart.specs.Charts.{svg_opening}
use Rattle.occ_chart.proofs.Drawing.{five_more}
use Rattle.occ_chart.proofs.charting.write_opening.Goals as goal

pub returns : goal.returns
unfolding svg_opening
returns c =
    five_more _ _ _ _ _ _ _ _ _ _ _ c.in_ok-extend_from_slice.ensures.items c.in_ok-write_number.ensures c.in_ok-write_number-2.ensures c.in_ok-write_corners.ensures c.in_ok-extend_from_slice-2.ensures.items
