use Rattle.std.proofs.Common.{arith}
use Rattle.occ_net_tables.proofs.ReadLists.{lengths_count, shapes_count}
use Rattle.occ_net_tables.proofs.lists.Lists.reserve.Goals as goal

pub returns-clause-room : goal.returns-clause-room
returns-clause-room c =
    let ps = c.args.parts.now in
    record {
      heads = omega (arith, c.in_ok-reserve.ensures.ok);
      items =
          record {
            shapes = omega (arith, c.in_ok-reserve-2.ensures.ok, shapes_count ps, c.reserve-2.new.self.small, c.saturating_add.ensures);
            lengths = omega (arith, c.in_ok-reserve-3.ensures.ok, lengths_count ps);
            words = omega (arith, c.in_ok-reserve-4.ensures.ok, c.reserve-4.new.self.small, c.all_word_count.ensures);
          };
    }
