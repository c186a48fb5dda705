use Rattle.std.proofs.Common.{◌≡◌, ◌+◌, ◌-◌, ◌<◌, ℕ, length, arith}
use Rattle.occ_net_tables.proofs.Moves.{above_more, one_down, put_behind}
use Rattle.occ_net_tables.proofs.ready.insert.Goals as goal

pub loop-at-preserved : goal.loop-at-preserved
loop-at-preserved c =
    let xs = c.args.ready.now.items in
    let ys = c.loop-at.ready.items in
    let at : ℕ = c.loop-at.at in
    let i : ℕ = at - 1 in
    let h = c.loop-at.invariant in
    let some : 0 < at = c.loop-at-test.true in
    let e : at ≡ i + 1 = omega (arith, some) in
    let within : i < length xs = omega (arith, e, h.within) in
    record {
      within = omega (arith, within);
      items = one_down xs ys i at c.args.number c.index-in-loop-at.result.now h.items e within c.index-in-loop-at.ensures;
      above = above_more xs ys i at c.args.number c.index.result.now h.items e within c.index.ensures c.if-number-index.true h.above;
      len = h.len;
      room = h.room;
    }

pub returns-else-number-index-clause-items : goal.returns-else-number-index-clause-items
returns-else-number-index-clause-items c =
    let xs = c.args.ready.now.items in
    let ys = c.loop-at.ready.items in
    let at : ℕ = c.loop-at.at in
    let i : ℕ = at - 1 in
    let h = c.loop-at.invariant in
    let some : 0 < at = c.loop-at-test.true in
    let e : at ≡ i + 1 = omega (arith, some) in
    let within : i < length xs = omega (arith, e, h.within) in
    put_behind xs ys i at c.args.number c.index.result.now h.items e within c.index.ensures c.requires.rising c.if-number-index.false h.within h.above
