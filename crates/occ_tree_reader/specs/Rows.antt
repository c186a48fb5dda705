-- What functions answer that read processes or their parts, with at most 64 brackets open at one place.
-- Manual: nothing; this is (own).
use Rattle.std.specs.Prelude.{List, Result, Vec, ℕ}
use Rattle.std.specs.Borrow.{Bor}
use Rattle.occ_text.specs.declared.token.Line.{Line}
use Rattle.occ_tree_grammar.specs.declared.fault.ParseFault.{ParseFault}
use Rattle.occ_tree_grammar.specs.Limits.{brackets}
use Rattle.occ_tree_grammar.specs.Many.{as_many}
use Rattle.occ_tree_grammar.specs.Fronts.{ReadsLines, each_as}
use Rattle.occ_tree_grammar.specs.Processes.Trees.{Kind, Node}
use Rattle.occ_tree_grammar.specs.Processes.Reading.{at_level, node_at}

-- one of a kind at this level, where so many levels are left, its own among them
abbrev pub ReadsOne : {X : Type 0} {k : Kind} → (X → Node k) → Result (X × Bor (List Line)) ParseFault → (left level : ℕ) → List Line → Type 0
ReadsOne {X} {k} view result left level lines = ReadsLines view result (node_at brackets left level k) lines

-- as many of a kind as stand in a row at this level
abbrev pub ReadsRow : {X A : Type 0} {k : Kind} → (X → Node k) → Result (Vec X A × Bor (List Line)) ParseFault → (left level : ℕ) → List Line → Type 0
ReadsRow {X} {A} {k} view result left level lines = ReadsLines (each_as view) result (as_many (at_level level) (node_at brackets left level k)) lines
