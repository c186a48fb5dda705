use Rattle.std.proofs.Common.{◌≡◌, false, true, sym, ◌∙◌}
use Rattle.occ_check_lines.proofs.Leaving.{two_subscripts}
use Rattle.occ_check_lines.proofs.reading.read_string.Goals as goal

pub returns : goal.returns
returns c = two_subscripts _ _ _ _ _ c.in-Some.ensures (λ e. let both : false ≡ true = sym c.if-is_empty.false ∙ c.is_empty.ensures.1 e in cc)
