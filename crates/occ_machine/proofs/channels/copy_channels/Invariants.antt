use Rattle.std.proofs.Common.{◌≡◌, take}
use Rattle.occ_machine.proofs.channels.copy_channels.Given as goal

abbrev pub invariant-loop-channel : goal.invariant-loop-channel
invariant-loop-channel l = l.copies.items ≡ take l.channel-index l.channels
