-- What it says of a program that it was refused.
-- Manual: nothing; the faults are (own).
use Rattle.std.specs.Prelude.{List, ⊤}
use Rattle.occ_tree_grammar.specs.Processes.Trees.{Item}
use Rattle.occ_term.specs.Terms.{Term}
use Rattle.occ_check_meaning.specs.Numbers.{Numbers}
use Rattle.occ_check_meaning.specs.ProgramUnfolding.{ProgramUnfolding}
use Rattle.occ_check_lines.specs.declared.fault.CheckFault.{CheckFault}
use Rattle.occ_check_lines.specs.declared.fault.CheckFault.TheVariants.{Unknown, Twice, WrongKind, WrongType, NotConstant, BadCount, Subscript, Protocol, Tag, Arguments, Overlap, ListTarget, NoMain, TooLarge, Memory}

abbrev pub HasNoUnfolding : List Item → Type 0
HasNoUnfolding items = (t : Term) (m : Numbers) → ProgramUnfolding items t m → ⊥

-- a program that is refused has no unfolding, and nothing is known where memory ran out
abbrev pub CheckRefuses : CheckFault → List Item → Type 0
CheckRefuses (Unknown line x) items = HasNoUnfolding items
CheckRefuses (Twice line x) items = HasNoUnfolding items
CheckRefuses (WrongKind line) items = HasNoUnfolding items
CheckRefuses (WrongType line) items = HasNoUnfolding items
CheckRefuses (NotConstant line) items = HasNoUnfolding items
CheckRefuses (BadCount line) items = HasNoUnfolding items
CheckRefuses (Subscript line) items = HasNoUnfolding items
CheckRefuses (Protocol line) items = HasNoUnfolding items
CheckRefuses (Tag line) items = HasNoUnfolding items
CheckRefuses (Arguments line) items = HasNoUnfolding items
CheckRefuses (Overlap line) items = HasNoUnfolding items
CheckRefuses (ListTarget line) items = HasNoUnfolding items
CheckRefuses NoMain items = HasNoUnfolding items
CheckRefuses TooLarge items = HasNoUnfolding items
CheckRefuses Memory items = ⊤
