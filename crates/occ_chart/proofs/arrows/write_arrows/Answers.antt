use Rattle.std.proofs.Common.{◌≡◌, ◌∷◌, rules}
use Rattle.occ_chart.proofs.Drawing.{arrows_step, row_near}
use Rattle.occ_chart.proofs.arrows.write_arrows.Goals as goal

pub loop-first-preserved : goal.loop-first-preserved
loop-first-preserved c =
    let l = c.loop-first in
    let split : l.rest.now ≡ c.in-Some.first.now ∷ c.in-Some.others.now = search rules in
    record {
      near = row_near c.args.layout.now.close l.left l.number c.row_behind-row.result c.in-Some.first.now c.in-Some.others.now l.rest.now split c.row_behind-row.ensures l.invariant.near;
      written =
          arrows_step l.out.items c.write_break.new.out.items c.write_arrow.new.out.items _ c.args.heads.now c.args.layout.now c.args.columns.now l.left l.number c.row_behind-row.result c.rows_left-left.result
          c.in-Some.first.now c.in-Some.others.now l.rest.now split c.row_behind-row.ensures c.rows_left-left.ensures c.in_ok-write_break.ensures c.in_ok-write_arrow.ensures l.invariant.written;
    }
