use Rattle.std.proofs.Common.{◌∙◌, ◌+◌, ◌<◌, ℕ, length, refl, arith}
use Rattle.occ_net_tables.proofs.Moves.{one_up}
use Rattle.occ_net_tables.proofs.ready.take_out.Goals as goal

pub loop-at-preserved : goal.loop-at-preserved
loop-at-preserved c =
    let ys = c.loop-at.ready.items in
    let at : ℕ = c.loop-at.at in
    let next : ℕ = at + 1 in
    let h = c.loop-at.invariant in
    let count = c.loop-at.ready.ok.0 in
    let within : next < length ys = omega (arith, c.loop-at-test.true, c.len-last.ensures, h.len, count) in
    record {
      within = omega (arith, c.loop-at-test.true);
      items = one_up ys at next c.index.result.now refl within c.index.ensures ∙ h.items;
      len = h.len;
      room = h.room;
    }
