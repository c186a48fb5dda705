use Rattle.std.proofs.Common.{rules}
use Rattle.occ_check_lines.proofs.Scopes.{not_there, not_yet, is_there}
use Rattle.occ_check_lines.proofs.scope.Block.seen.Goals as goal

pub returns-in-None : goal.returns-in-None
returns-in-None c = not_there c.args.name.now c.args.self.now.names.entries c.args.seen c.in-None.ensures.found

pub returns-then-index-seen : goal.returns-then-index-seen
returns-then-index-seen c =
    is_there c.args.name.now c.args.self.now.names.entries c.args.seen c.in-Some.index (c.in-Some-get_index.field-0-0.now, c.in-Some-get_index.binding.now)
    c.in-Some.ensures.unique c.in-Some.ensures.index c.in-Some-get_index.ensures.entry (search rules)

pub returns-else-index-seen : goal.returns-else-index-seen
returns-else-index-seen c =
    not_yet c.args.name.now c.args.self.now.names.entries c.args.seen c.in-Some.index (c.in-Some-get_index.field-0-0.now, c.in-Some-get_index.binding.now)
    c.in-Some.ensures.unique c.in-Some.ensures.index c.in-Some-get_index.ensures.entry (search rules)
