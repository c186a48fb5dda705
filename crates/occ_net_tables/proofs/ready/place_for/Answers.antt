use Rattle.std.proofs.Common.{◌≡◌, ◌<◌, ◌+◌, ◌-◌, ◌/◌, ℕ, length, arith}
use Rattle.occ_net_tables.proofs.ReadyLists.{rising_le, insert_is}
use Rattle.occ_net_tables.proofs.ready.place_for.Goals as goal

pub loop-low-preserved-then-ready-middle : goal.loop-low-preserved-then-ready-middle
loop-low-preserved-then-ready-middle c =
    let middle : ℕ = c.loop-low.low + (c.loop-low.high - c.loop-low.low) / 2 in
    let xs = c.args.ready.now in
    let within : middle < length xs = omega arith in
    record {
      ordered = omega arith;
      bounded = omega arith;
      below = λ k h. let le = rising_le xs k middle c.requires (omega arith) within in omega arith;
      above = c.loop-low.invariant.above;
    }

pub loop-low-preserved : goal.loop-low-preserved
loop-low-preserved c =
    let middle : ℕ = c.loop-low.low + (c.loop-low.high - c.loop-low.low) / 2 in
    let xs = c.args.ready.now in
    record {
      ordered = omega arith;
      bounded = omega arith;
      below = c.loop-low.invariant.below;
      above = λ k h l. let le = rising_le xs middle k c.requires h l in omega arith;
    }

pub returns-clause-place : goal.returns-clause-place
returns-clause-place c =
    let same : c.loop-low.low ≡ c.loop-low.high = omega arith in
    insert_is c.args.ready.now c.loop-low.low c.args.number (omega arith) c.loop-low.invariant.below (λ k h l. c.loop-low.invariant.above k (omega arith) l)
