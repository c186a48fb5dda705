use Rattle.std.proofs.Common.{◌≡◌, ◌<◌, ◌-◌, ◌+◌, refl, sym, ap, arith, length}
use Rattle.occ_code.specs.Cells.{furthest}
use Rattle.occ_code.proofs.CellEnds.{furthest_next}
use Rattle.occ_code.proofs.Emitting.{drop_all}
use Rattle.occ_code.proofs.cells.furthest_end.Goals as goal

pub loop-left-init : goal.loop-left-init
loop-left-init c = (omega arith, sym (ap (furthest c.args.writes_only) (drop_all c.args.uses.now (length c.args.uses.now) (omega arith))))

pub loop-left-preserved : goal.loop-left-preserved
loop-left-preserved c =
    let (within, is) = c.loop-left.invariant in
    let some : 0 < c.loop-left.left = c.loop-left-test.true in
    let next : c.loop-left.left ≡ c.loop-left.left - 1 + 1 = omega (arith, some) in
    let lt : c.loop-left.left - 1 < length c.args.uses.now = omega (arith, some, within) in
    (omega (arith, within), furthest_next c.args.uses.now (c.loop-left.left - 1) c.loop-left.left _ _ c.args.writes_only next lt refl is c.further-end.ensures)
