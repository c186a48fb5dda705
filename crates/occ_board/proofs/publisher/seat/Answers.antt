use Rattle.occ_board.proofs.Orders.{admits}
use Rattle.occ_board.proofs.publisher.seat.Goals as goal

pub reader-requires : goal.reader-requires
reader-requires g c x views k = admits _ g.J.Naming.may x.entries.items x.front views k
