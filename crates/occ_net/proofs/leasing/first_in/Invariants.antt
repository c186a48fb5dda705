use Rattle.std.proofs.Common.{◌≡◌, drop}
use Rattle.occ_net.specs.Networks.{first_in}
use Rattle.occ_net.proofs.leasing.first_in.Given as goal

abbrev pub invariant-loop-number : goal.invariant-loop-number
invariant-loop-number l = first_in l.out (drop l.number-index l.ready) ≡ first_in l.out l.ready
