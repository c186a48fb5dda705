use Rattle.std.proofs.Common.{◌∙◌, ap, sym, subst, take, arith}
use Rattle.occ_choices.specs.Reading.{AreDigits}
use Rattle.occ_choices.proofs.Digits.{digits_lead, leading_short}
use Rattle.occ_choices.proofs.read.number_at.Goals as goal

pub split_at-requires : goal.split_at-requires
split_at-requires c = let short = leading_short c.args.text.now in omega (arith, short, c.digits_in.ensures)

pub number-requires : goal.number-requires
number-requires c = subst AreDigits (sym (c.split_at.ensures.front ∙ ap (λ n. take n c.args.text.now) c.digits_in.ensures)) (digits_lead c.args.text.now)
