use Rattle.std.proofs.Common.{map, subst, sym}
use Rattle.occ_ends.specs.Ends.{noted_for}
use Rattle.occ_ends.specs.Kinds.{IsKind}
use Rattle.occ_ends.proofs.LeftOnes.{kind_is}
use Rattle.occ_ends.proofs.kinds.kind_in.Goals as goal

pub returns : goal.returns
returns c = λ keyboard net h.
    let us = map noted_for c.args.uses.now in
    let left = c.in_ok-left.ensures keyboard net h in
    subst (IsKind us c.args.code.now net.tasks) (sym c.kind.ensures)
    (kind_is us c.args.code.now net.tasks c.in_ok-left.left.circle.items c.in_ok-left.left.halted.items c.in_ok-left.left.unfinished.items left.circle left.halted left.unfinished)
