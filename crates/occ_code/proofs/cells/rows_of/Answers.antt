use Rattle.std.proofs.Common.{◌≡◌, ◌<◌, ◌-◌, ◌+◌, refl, length, arith, rules}
use Rattle.occ_code.proofs.CellEnds.{no_rows, rows_next}
use Rattle.occ_code.proofs.cells.rows_of.Goals as goal

pub loop-left-init : goal.loop-left-init
loop-left-init c = (omega arith, no_rows c.args.uses.now (length c.args.uses.now) c.args.writes_only c.new-rows.result.items (omega arith) (search rules), search rules)

pub loop-left-preserved : goal.loop-left-preserved
loop-left-preserved c =
    let (within, same, all) = c.loop-left.invariant in
    let some : 0 < c.loop-left.left = c.loop-left-test.true in
    let next : c.loop-left.left ≡ c.loop-left.left - 1 + 1 = omega (arith, some) in
    let lt : c.loop-left.left - 1 < length c.args.uses.now = omega (arith, some, within) in
    let more = rows_next c.args.uses.now (c.loop-left.left - 1) c.loop-left.left _ _ c.args.writes_only c.loop-left.rows.items c.add_use.new.rows.items next lt refl c.requires same all c.in_ok-add_use.ensures in
    (omega (arith, within), more.0, more.1)
