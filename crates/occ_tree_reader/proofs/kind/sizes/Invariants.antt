use Rattle.std.proofs.Common.{◌+◌, map}
use Rattle.occ_text.specs.Words.{Word, words}
use Rattle.occ_tree_grammar.specs.Limits.{most_levels}
use Rattle.occ_tree_grammar.specs.Lines.Trees.{Size}
use Rattle.occ_tree_grammar.specs.Lines.Views.{size_of}
use Rattle.occ_tree_grammar.specs.Expressions.Reading.{after_open_bracket}
use Rattle.occ_tree_grammar.specs.Expressions.Shown.{dimensions}
use Rattle.occ_tree_grammar.specs.Lines.Reading.{size_with, sizes_at}
use Rattle.occ_tree_reader.proofs.ManyLoop.{SoFar}
use Rattle.occ_tree_reader.proofs.kind.sizes.Given as goal

abbrev pub invariant-loop : goal.invariant-loop
invariant-loop l = SoFar Word Size after_open_bracket (size_with (most_levels + 1)) (map size_of l.all.items) dimensions l.counter (words l.rest) (sizes_at (most_levels + 1) (words l.tokens))
