-- Instructions in the middle of an evaluation.
-- Manual: nothing; this is (own).
use Rattle.std.specs.Prelude.{Bool, List, None, Option, Some, [], false, length, min, nat_eq, take, true, ℕ, ◌||◌, ◌∷◌}
use Rattle.occ_machine.specs.Machine.{Body}
use Rattle.occ_machine.specs.declared.instr.Instr.{Instr}
use Rattle.occ_machine.specs.declared.instr.Instr.TheVariants.{Push, Load, LoadAt, LoadLetter, Subscript, Operate, OperateOne, ConvertTo, AndThen, OrElse, PartOne, PartMany, PartText, PartCounted, PartCountedText, SpotOne, SpotCounted}

-- whether an instruction is in the middle of an evaluation
abbrev pub is_evaluating : Instr ℕ → Bool
is_evaluating (Push v) = true
is_evaluating (Load place) = true
is_evaluating LoadAt = true
is_evaluating (LoadLetter line text) = true
is_evaluating (Subscript line size each) = true
is_evaluating (Operate o type line) = true
is_evaluating (OperateOne o type line) = true
is_evaluating (ConvertTo type line) = true
is_evaluating (AndThen skip) = true
is_evaluating (OrElse skip) = true
is_evaluating (PartOne type) = true
is_evaluating (PartMany type count) = true
is_evaluating (PartText type text) = true
is_evaluating (PartCounted type line count) = true
is_evaluating (PartCountedText type line text) = true
is_evaluating (SpotOne count) = true
is_evaluating (SpotCounted line size count) = true
is_evaluating instruction = false

abbrev pub as_list : Option ℕ → List ℕ
as_list None = []
as_list (Some place) = place ∷ []

abbrev pub is_among : ℕ → List ℕ → Bool
is_among p [] = false
is_among p (q ∷ qs) = nat_eq q p || is_among p qs

-- what the code of a body has done before a place
abbrev pub code_before : Body → ℕ → List (Instr ℕ)
code_before b p = take (min p (length b.code)) b.code
