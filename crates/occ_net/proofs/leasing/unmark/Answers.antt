use Rattle.std.proofs.Common.{◌∙◌, ◌≤◌, ap, false, length, rules}
use Rattle.std.specs.Prelude.{slice_set}
use Rattle.occ_net.proofs.Marks.{cleared_next, cleared_past}
use Rattle.occ_net.proofs.leasing.unmark.Goals as goal

pub loop-place-preserved : goal.loop-place-preserved
loop-place-preserved c = ap (λ ys. slice_set ys c.loop-place.place false) c.loop-place.invariant ∙ cleared_next c.loop-place.place c.args.out.now.items

pub returns : goal.returns
returns c =
    let past : length c.args.out.now.items ≤ c.loop-place.place = search rules in
    c.loop-place.invariant ∙ cleared_past c.loop-place.place c.args.out.now.items past
