use Rattle.std.proofs.Common.{◌+◌}
use Rattle.occ_text.specs.Words.{logical_lines}
use Rattle.occ_tree_grammar.specs.Limits.{most_levels}
use Rattle.occ_tree_reader.proofs.Steps.{no_tag, next_tag, fails_none}
use Rattle.occ_tree_reader.proofs.processes.protocol.tag.Goals as goal

pub returns-then-left-eq0 : goal.returns-then-left-eq0
returns-then-left-eq0 c = fails_none c.too_deep.result _ (no_tag (most_levels + 1) c.args.left c.args.level (logical_lines c.args.lines.now) c.if-left-eq0.true)

pub returns : goal.returns
returns c = rw (next_tag (most_levels + 1) c.args.left c.args.level (logical_lines c.args.lines.now) c.if-left-eq0.false) c.tag_inside.ensures
