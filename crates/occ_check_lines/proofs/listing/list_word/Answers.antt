use Rattle.std.specs.Prelude.{nat_eq}
use Rattle.occ_check_lines.proofs.Keys.{was_new}
use Rattle.occ_check_lines.proofs.listing.list_word.Goals as goal

pub returns-clause-added : goal.returns-clause-added
returns-clause-added c = was_new nat_eq c.args.word _ c.args.words.now.entries c.in_ok-before.before c.is_none.result c.is_none.ensures c.in_ok-before.ensures.old
