use Rattle.occ_board.proofs.Prefixes.{prefix_self}
use Rattle.occ_board.proofs.Orders.{steps}
use Rattle.occ_board.proofs.watcher.Watcher.look.Goals as goal

pub enter_as-requires : goal.enter_as-requires
enter_as-requires g c x views k at = steps _ g.J.Naming.may _ _ x.entries.items x.entries.items x.front x.front (prefix_self x.entries.items) k.0 k.1 k.2 views k at
