use Rattle.std.proofs.Common.{◌≡◌, ◌++◌}
use Rattle.occ_net_tables.proofs.messages.MessageView.copy.Given as goal

abbrev pub invariant-loop-part : goal.invariant-loop-part
invariant-loop-part l = l.items ++ l.part-iterator ≡ l.self.items
