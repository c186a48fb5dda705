use Rattle.occ_net_tables.specs.Settling.{tables_with}
use Rattle.occ_net_tables.proofs.Roomy.{holds_as, same_with, standing_with}
use Rattle.occ_net_tables.proofs.tables.Tables.settle_turn.Goals as goal

pub settle_last-requires : goal.settle_last-requires
settle_last-requires c =
    let t = c.requires.turn in
    let there = standing_with c.args.code.now c.args.keyboard.now c.args.self.now c.args.place c.args.number c.args.after t c.requires.standing in
    record {
      first = t.before;
      there = t.there;
      last = t.before;
      standing = there.0;
      turn = there.1;
    }

pub returns-in-Ok-clause-ok : goal.returns-in-Ok-clause-ok
returns-in-Ok-clause-ok c = λ net choice h place pick.
    let n = c.args.self.now in
    let t = c.requires.turn in
    let there = standing_with c.args.code.now c.args.keyboard.now n c.args.place c.args.number c.args.after t c.requires.standing in
    let held = holds_as n (tables_with n c.args.number t.before) (same_with n c.args.number t.before t.there) c.args.code.now c.args.keyboard.now net h in
    c.in-Ok.ensures.ok.1 t.before net choice there.0 there.1 held place pick
