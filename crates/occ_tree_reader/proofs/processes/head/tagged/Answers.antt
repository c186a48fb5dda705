use Rattle.occ_tree_grammar.proofs.Made.{variant_tagged}
use Rattle.occ_tree_reader.proofs.processes.head.tagged.Goals as goal

pub returns : goal.returns
returns c = variant_tagged c.args.declarations c.args.line c.args.head.tag c.args.head.targets c.args.body
