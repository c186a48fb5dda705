-- What functions answer that read words up to the end of their line: the head that the line is.
-- Manual: nothing; this is (own).
use Rattle.std.specs.Prelude.{List, Option, Result, Some, option_map}
use Rattle.occ_text.specs.declared.token.Token.{Token}
use Rattle.occ_text.specs.Words.{Word, words}
use Rattle.occ_tree_grammar.specs.declared.fault.ParseFault.{ParseFault}
use Rattle.occ_tree_grammar.specs.declared.lines.head.ProcessHead.{ProcessHead as ProcessHeadTree}
use Rattle.occ_tree_grammar.specs.declared.lines.head.ChoiceHead.{ChoiceHead as ChoiceHeadTree}
use Rattle.occ_tree_grammar.specs.declared.lines.head.OptionHead.{OptionHead as OptionHeadTree}
use Rattle.occ_tree_grammar.specs.declared.lines.head.ArmHead.{ArmHead as ArmHeadTree}
use Rattle.occ_tree_grammar.specs.declared.lines.head.DeclHead.{DeclHead as DeclHeadTree}
use Rattle.occ_tree_grammar.specs.declared.lines.head.Received.{Received}
use Rattle.occ_tree_grammar.specs.declared.tree.expr.Expr.{Expr}
use Rattle.occ_tree_grammar.specs.Expressions.Reading.{Gives}
use Rattle.occ_tree_grammar.specs.Expressions.Trees.{expression_of}
use Rattle.occ_tree_grammar.specs.Lines.Views.{received_of}
use Rattle.occ_tree_grammar.specs.Lines.HeadReading.{received_arm as arm_received}
use Rattle.occ_tree_grammar.specs.Lines.Heads.{ProcessHead, ChoiceHead, OptionHead, ArmHead, DeclHead}
use Rattle.occ_tree_grammar.specs.Lines.HeadViews.{process_head_of, choice_head_of, option_head_of, arm_head_of, decl_head_of}

-- The answer is what read makes of the words; a fault says that it makes nothing of them, or that memory ran out.
abbrev pub ReadsProcessHead : Result ProcessHeadTree ParseFault → (List Word → Option ProcessHead) → List Token → Type 0
ReadsProcessHead result read tokens = Gives process_head_of result (read (words tokens))

abbrev pub ReadsChoiceHead : Result ChoiceHeadTree ParseFault → (List Word → Option ChoiceHead) → List Token → Type 0
ReadsChoiceHead result read tokens = Gives choice_head_of result (read (words tokens))

abbrev pub ReadsOptionHead : Result OptionHeadTree ParseFault → (List Word → Option OptionHead) → List Token → Type 0
ReadsOptionHead result read tokens = Gives option_head_of result (read (words tokens))

abbrev pub ReadsArmHead : Result ArmHeadTree ParseFault → (List Word → Option ArmHead) → List Token → Type 0
ReadsArmHead result read tokens = Gives arm_head_of result (read (words tokens))

abbrev pub ReadsDeclHead : Result DeclHeadTree ParseFault → (List Word → Option DeclHead) → List Token → Type 0
ReadsDeclHead result read tokens = Gives decl_head_of result (read (words tokens))

-- what stands behind the Boolean of an arm, as its line
abbrev pub arm_behind : Option Expr → Received → Option ArmHead
arm_behind condition received = Some (arm_received (option_map expression_of condition) (received_of received))
