use Rattle.std.proofs.Common.{arith}
use Rattle.occ_explain.proofs.Behind.{first_stands, next_stands}
use Rattle.occ_explain.proofs.place.place_in.Goals as goal

pub loop-number-init : goal.loop-number-init
loop-number-init c = record {
  stands = first_stands c.args.text.now c.first_line.result.0.now c.first_line.result.1.now c.first_line.ensures.value;
  at_most = λ n some more. some;
  short = c.first_line.ensures.within;
  left = omega (arith, c.first_line.ensures.shorter);
}

pub loop-number-preserved : goal.loop-number-preserved
loop-number-preserved c =
    let made = c.first_line-in-loop-number in
    record {
      stands = next_stands c.args.text.now c.loop-number.rest.now c.loop-number.shown.now made.result.0.now made.result.1.now c.loop-number.number c.loop-number.invariant.stands made.ensures.value;
      at_most = λ n some more. omega (arith, c.loop-number-test.true);
      short = omega (arith, made.ensures.within, c.loop-number.invariant.left);
      left = omega (arith, made.ensures.shorter, c.loop-number.invariant.left);
    }
