use Rattle.std.proofs.Common.{◌≡◌, ◌+◌, ◌-◌, ◌++◌, get_or, max, refl, arith, rules, subst, sym}
use Rattle.occ_term.specs.CellRows.{numbers_from}
use Rattle.occ_code.specs.Cells.{Gathered}
use Rattle.occ_code.specs.declared.cells.Row.{Row}
use Rattle.occ_code.proofs.CellEnds.{all_gathered, gathered_next, none_gathered}
use Rattle.occ_code.proofs.cells.cells_among.Goals as goal

abbrev no_row : Row
no_row = record { first = 0; end = 0 }

pub loop-row-init : goal.loop-row-init
loop-row-init c = none_gathered c.args.rows.now c.new-cells.result (search rules)

pub loop-row-preserved : goal.loop-row-preserved
loop-row-preserved c =
    let first : c.larger.result ≡ max c.loop-row.reached (get_or c.args.rows.now c.loop-row.row-index no_row).first = c.larger.ensures in
    let added = subst (λ m. c.add.new.self ≡ c.loop-row.cells ++ numbers_from m ((get_or c.args.rows.now c.loop-row.row-index no_row).end - m)) first c.in_ok-add.ensures in
    subst (Gathered c.args.rows.now (c.loop-row.row-index + 1) c.add.new.self) (sym c.larger-reached.ensures)
    (gathered_next c.args.rows.now c.requires.sorted c.loop-row.row-index no_row c.loop-row-test.true c.loop-row.cells c.loop-row.reached c.loop-row.invariant _ _ refl refl c.add.new.self added
    (c.requires.within c.loop-row.row-index no_row c.loop-row-test.true))

pub returns-clause-lists : goal.returns-clause-lists
returns-clause-lists c = all_gathered c.args.rows.now c.loop-row.row-index c.loop-row.cells c.loop-row.reached c.loop-row-test.false c.loop-row.invariant

pub returns-clause-few : goal.returns-clause-few
returns-clause-few c = let few = c.loop-row.invariant.few in let within = c.loop-row.invariant.within in omega (arith, few, within)
