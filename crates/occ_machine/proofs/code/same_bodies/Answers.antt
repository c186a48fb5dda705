use Rattle.std.proofs.Common.{◌∙◌, sym, arith}
use Rattle.std.specs.Arc.{arc_value}
use Rattle.occ_machine.proofs.MadeSame.{made_same}
use Rattle.occ_machine.proofs.code.same_bodies.Goals as goal

pub returns-then-not-is_same : goal.returns-then-not-is_same
returns-then-not-is_same c = (
  λ h. cc,
  λ e.
      let both = made_same arc_value c.args.bodies.now c.args.others.now c.loop-i.i c.index-bodies-i.result c.index-others-i.result c.loop-i-test.true (omega arith) c.index-bodies-i.is c.index-others-i.is e in
      let same = c.is_same.ensures.1 (c.deref.ensures ∙ both ∙ sym c.deref-in-loop-i.ensures) in
      cc,
)
