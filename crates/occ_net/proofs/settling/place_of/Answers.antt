use Rattle.std.proofs.lemmas.List.Sorted.{searched}
use Rattle.occ_net_tables.proofs.ReadyLists.{rising_le}
use Rattle.occ_net.proofs.Ready.{found_at, not_missing}
use Rattle.occ_net.proofs.settling.place_of.Goals as goal

pub unreachable-requires : goal.unreachable-requires
unreachable-requires c =
    let xs = c.args.ready.now in
    let m = searched xs c.args.number c.binary_search.result c.binary_search.ensures.position (λ i j l w. rising_le xs i j c.requires.rising l w) in
    let h = rw c.in-Err.is at m in
    not_missing xs c.args.number c.in-Err.field-0 h.1 h.2 c.requires.among

pub returns : goal.returns
returns c =
    let xs = c.args.ready.now in
    let m = searched xs c.args.number c.binary_search.result c.binary_search.ensures.position (λ i j l w. rising_le xs i j c.requires.rising l w) in
    let h = rw c.in-Ok.is at m in
    found_at xs c.in-Ok.place c.args.number h.0 h.1
