use Rattle.std.specs.Prelude.{bytes_eq}
use Rattle.occ_check_lines.proofs.Keys.{was_new}
use Rattle.occ_check_lines.proofs.listing.list_name.Goals as goal

pub returns-clause-added : goal.returns-clause-added
returns-clause-added c = was_new bytes_eq c.args.name _ c.args.names.now.entries c.in_ok-before.before c.is_none.result c.is_none.ensures c.in_ok-before.ensures.old
