use Rattle.std.proofs.Common.{◌+◌}
use Rattle.occ_text.specs.Words.{logical_lines}
use Rattle.occ_tree_grammar.specs.Limits.{most_levels}
use Rattle.occ_tree_reader.proofs.Steps.{no_tags, next_tags, fails_none}
use Rattle.occ_tree_reader.proofs.processes.protocol.tags.Goals as goal

pub returns-then-left-eq0 : goal.returns-then-left-eq0
returns-then-left-eq0 c = fails_none c.too_deep.result _ (no_tags (most_levels + 1) c.args.left c.args.level c.args.line c.args.name (logical_lines c.args.lines.now) c.if-left-eq0.true)

pub returns : goal.returns
returns c = rw (next_tags (most_levels + 1) c.args.left c.args.level c.args.line c.args.name (logical_lines c.args.lines.now) c.if-left-eq0.false) c.tags_inside.ensures
