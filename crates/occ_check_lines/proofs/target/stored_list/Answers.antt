use Rattle.std.proofs.Common.{ap, subst, sym, ◌∙◌}
use Rattle.occ_term.specs.View.{targets_of}
use Rattle.occ_check_meaning.specs.Items.{apart}
use Rattle.occ_check_lines.specs.Clash.{stretches_at}
use Rattle.occ_check_lines.specs.View.{Refuses}
use Rattle.occ_check_lines.proofs.Targets.{stored_clashes, stored_gives, stored_nothing}
use Rattle.occ_check_lines.proofs.target.stored_list.Goals as goal

pub returns-in-Err : goal.returns-in-Err
returns-in-Err c = stored_nothing _ _ _ _ _ c.in-Err.ensures

pub returns-in-Ok-apart : goal.returns-in-Ok-apart
returns-in-Ok-apart c = stored_gives _ _ _ _ _ c.in-Ok.ensures _ (ap (λ ts. apart (stretches_at (targets_of ts))) (sym c.as_slice.ensures) ∙ c.in-Ok-apart.ensures)

pub returns-in-Err-apart : goal.returns-in-Err-apart
returns-in-Err-apart c = stored_clashes _ _ _ _ _ c.in-Ok.ensures _ (subst (λ ts. Refuses c.in-Err-apart.e (apart (stretches_at (targets_of ts)))) c.as_slice.ensures c.in-Err-apart.ensures)
