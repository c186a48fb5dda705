-- What functions answer that read from the front of the words of a line, or from the front of the lines of a text.
-- Manual: nothing; this is (own).
use Rattle.std.specs.Prelude.{List, Option, Result, Vec, map, option_map}
use Rattle.std.specs.Borrow.{Bor}
use Rattle.occ_text.specs.declared.token.Token.{Token}
use Rattle.occ_text.specs.declared.token.Line.{Line}
use Rattle.occ_text.specs.Words.{Word, LogicalLine, words, logical_lines}
use Rattle.occ_tree_grammar.specs.declared.fault.ParseFault.{ParseFault}
use Rattle.occ_tree_grammar.specs.Many.{Reader}
use Rattle.occ_tree_grammar.specs.Expressions.Reading.{Gives, Read}

-- all of a list, each seen by view
abbrev pub each_as : {X Y A : Type 0} → (X → Y) → Vec X A → List Y
each_as view all = map view all.items

-- ---- words

-- the answer, seen by view, is what read finds at the front of the words, with the words behind it; a fault says that it finds
-- nothing there, or that memory ran out
abbrev pub ReadsWords : {X Y : Type 0} → (X → Y) → Result (X × Bor (List Token)) ParseFault → Read Y → List Token → Type 0
ReadsWords view result read tokens = Gives (λ x. (view x.0, words x.1.now)) result (read (words tokens))

-- the answer is the words behind what has to stand at the front; a fault says that it doesn't stand there, or that memory ran out
abbrev pub StepsOver : Result (Bor (List Token)) ParseFault → (List Word → Option (List Word)) → List Token → Type 0
StepsOver result after tokens = Gives (λ r. words r.now) result (after (words tokens))

-- the words behind what may stand at the front, where it stands there
abbrev pub words_found : Option (Bor (List Token)) → Option (List Word)
words_found found = option_map (λ r. words r.now) found

-- ---- lines

-- the same at the front of the lines
abbrev pub ReadsLines : {X Y : Type 0} → (X → Y) → Result (X × Bor (List Line)) ParseFault → Reader LogicalLine Y → List Line → Type 0
ReadsLines view result read lines = Gives (λ x. (view x.0, logical_lines x.1.now)) result (read (logical_lines lines))

-- the lines, where they begin as they may
abbrev pub lines_found : Option (Bor (List Line)) → Option (List LogicalLine)
lines_found found = option_map (λ r. logical_lines r.now) found
