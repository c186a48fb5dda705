use Rattle.std.proofs.Common.{length, map}
use Rattle.occ_text.specs.Words.{Word, words}
use Rattle.occ_tree_grammar.specs.Lines.Reading.{after_separator, listed_at}
use Rattle.occ_tree_reader.proofs.ManyLoop.{SoFar}
use Rattle.occ_tree_reader.proofs.list.further.Given as goal

abbrev pub invariant-loop : goal.invariant-loop
invariant-loop g l =
    let kind = g.T.Listed in
    SoFar Word kind.Form (after_separator l.by) kind.reads (map kind.form l.all.items) (length l.tokens) l.counter (words l.rest) (listed_at l.by kind.reads (words l.tokens))
