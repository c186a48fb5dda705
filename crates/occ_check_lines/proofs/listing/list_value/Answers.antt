use Rattle.std.proofs.Common.{◌∙◌, ap, rules, w64}
use Rattle.std.proofs.lemmas.Int.{to_z-of_z}
use Rattle.std.specs.Map.{lookup}
use Rattle.std.specs.Ordering.{int_eq}
use Rattle.occ_check_lines.proofs.Keys.{was_new}
use Rattle.occ_check_lines.proofs.listing.list_value.Goals as goal

pub returns-clause-added : goal.returns-clause-added
returns-clause-added c =
    let listed = c.args.values.now.entries in
    let same = to_z-of_z w64 c.args.value (search rules) in
    was_new int_eq c.args.value _ listed c.in_ok-before.before c.is_none.result c.is_none.ensures (c.in_ok-before.ensures.old ∙ ap (λ v. lookup (int_eq v) listed) same)
