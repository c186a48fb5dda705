use Rattle.std.proofs.Common.{◌≡◌, ◌++◌, subst}
use Rattle.std.specs.Prelude.{OnOk}
use Rattle.occ_report.proofs.Lines.{told_for_good}
use Rattle.occ_report.proofs.kinds.write_for_good.Goals as goal

pub returns : goal.returns
returns c =
    subst (λ l. OnOk c.write_those.result (c.write_those.new.out.items ≡ c.args.out.now.items ++ l)) (told_for_good c.args.numbers.now c.is_empty.result c.if-is_empty.false c.is_empty.ensures) c.write_those.ensures
