use Rattle.std.proofs.Common.{◌≡◌}
use Rattle.occ_net.proofs.Marks.{cleared}
use Rattle.occ_net.proofs.leasing.unmark.Given as goal

abbrev pub invariant-loop-place : goal.invariant-loop-place
invariant-loop-place l = l.out.items ≡ cleared l.place l.initial.out.items
