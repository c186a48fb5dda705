use Rattle.std.proofs.Common.{◌≡◌, [], ◌∷◌, List, IfOk, IsErr, None, Result, Ok, Err, refl}
use Rattle.occ_text.proofs.LineLaws.{only}
use Rattle.occ_text.specs.Lines.{LinesOf}
use Rattle.occ_text.specs.Reading.{lines_at, logical_lines_from, words_from, word_at, symbol_at, double_of, single_of}
use Rattle.occ_text.specs.Words.{LogicalLine, logical_lines}
use Rattle.occ_text.specs.declared.fault.TextFault.{TextFault}
use Rattle.occ_text.specs.declared.fault.TextFault.TheVariants as faults
use Rattle.occ_text.specs.declared.token.Source.{Source}
use Rattle.occ_contracts.proofs.text.read_dollar.Goals as goal

not_read : lines_at (36 ∷ []) ≡ None
unfolding lines_at logical_lines_from words_from word_at symbol_at double_of single_of
not_read = refl

no_lines : (rs : List LogicalLine) → LinesOf (36 ∷ []) rs → ⊥
no_lines rs h = only {X = List LogicalLine} (λ x. x) (Err (faults.BadByte 1)) (36 ∷ []) not_read rs h

refused : (r : Result Source TextFault) → IfOk r (λ s. LinesOf (36 ∷ []) (logical_lines s.lines.items)) → IsErr r
refused (Ok s) h = absurd (no_lines _ h)
refused (Err e) h = refl

pub returns : goal.returns
returns c = refused c.read_lines.result c.read_lines.ensures.found
