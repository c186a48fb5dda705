use Rattle.std.proofs.Common.{◌≡◌, ◌+◌, ◌-◌, ap, arith, inl, inr, refl}
use Rattle.occ_program.specs.Trying.{RunEnds}
use Rattle.occ_program.proofs.Ended.{one_more}
use Rattle.occ_program.proofs.seeding.tried_seed.Goals as goal
use Rattle.occ_play_inputs.specs.Seeds.{seeded}

pub loop-place-preserved : goal.loop-place-preserved
loop-place-preserved c =
    one_more {P = λ k. RunEnds c.args.options.now c.args.source.now c.args.keyboard.now (seeded (c.args.first + k) c.args.limit)} c.loop-place.place c.loop-place.invariant (c.in_ok-ends.ensures.ends.0 c.if-not-ends.false)

pub returns-then-not-ends-clause-tried : goal.returns-then-not-ends-clause-tried
returns-then-not-ends-clause-tried c =
    let lt = c.loop-place-test.true in
    record { place = c.loop-place.place; within = omega (arith, lt); is = refl; before = c.loop-place.invariant; own = inl (c.in_ok-ends.ensures.ends.1 c.if-not-ends.true) }

pub returns-clause-tried : goal.returns-clause-tried
returns-clause-tried c =
    let past = c.loop-place-test.false in
    let inside = c.loop-place.auto.place-end in
    let some = c.requires.some in
    let last : c.args.tries - 1 ≡ c.loop-place.place = omega (arith, past, inside) in
    record { place = c.loop-place.place; within = omega (arith, inside, some); is = ap (λ k. c.args.first + k) last; before = c.loop-place.invariant; own = inr (omega (arith, past, inside, some)) }
