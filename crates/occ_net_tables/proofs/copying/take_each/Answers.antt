use Rattle.std.proofs.Common.{◌∙◌, sym, rules, w64}
use Rattle.std.proofs.lemmas.Int.{to_z-of_z}
use Rattle.occ_net_tables.proofs.TakenOver.{all_cells, next_cell}
use Rattle.occ_net_tables.proofs.copying.take_each.Goals as goal

pub loop-cell-preserved : goal.loop-cell-preserved
loop-cell-preserved c =
    next_cell c.loop-cell.cell c.args.row.now.end _ c.args.from.now c.loop-cell.to c.set.new.self c.loop-cell-test.true c.set.ensures (to_z-of_z w64 c.value_at.result (search rules) ∙ c.value_at.ensures)
    ∙ c.loop-cell.invariant

pub returns : goal.returns
returns c = sym (all_cells c.loop-cell.cell c.args.row.now.end c.args.from.now c.loop-cell.to c.loop-cell-test.false) ∙ c.loop-cell.invariant
