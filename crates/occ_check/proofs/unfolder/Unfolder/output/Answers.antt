use Rattle.std.proofs.Common.{map, subst}
use Rattle.occ_tree_grammar.specs.Lines.Views.{out_of, var_of}
use Rattle.occ_term.specs.View.{term_of}
use Rattle.occ_check.specs.OneLine.{outputting}
use Rattle.occ_check_lines.specs.View.{Unfolds, numbers_of}
use Rattle.occ_check.proofs.unfolder.Unfolder.output.Goals as goal

pub returns-clause-term : goal.returns-clause-term
returns-clause-term c =
    subst (λ ns. Unfolds term_of c.outputting.result c.outputting.new.numbers
    (outputting ns c.args.here.line c.args.here.depth (var_of c.args.channel.now) (out_of c.args.outs.now.first) (map out_of c.args.outs.now.others.items) (numbers_of c.args.self.now.numbers))) c.names_at-scope.ensures c.outputting.ensures
