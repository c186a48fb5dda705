-- Which rule a refusal names.
-- Manual: the usage rules check list.
use Rattle.std.specs.Prelude.{◌≡◌, ℕ, Option, None, Some, false}
use Rattle.occ_term.specs.UnfoldedProgram.{UnfoldedProgram, meaning}
use Rattle.occ_usage.specs.Clashes.{Clash, clashes, shared_variable, two_inputs, two_outputs}
use Rattle.occ_usage.specs.declared.checked.UsageFault.{UsageFault}
use Rattle.occ_usage.specs.declared.checked.UsageFault.TheVariants.{SharedVariable, TwoInputs, TwoOutputs, Memory}

-- no number breaks the rule in the program
abbrev pub IsUnbroken : (ℕ → Clash) → UnfoldedProgram → Type 0
IsUnbroken rule u = (n : ℕ) → clashes (rule n) (meaning u) ≡ false

-- want of memory names none
abbrev pub rule_named : UsageFault → Option (ℕ → Clash)
rule_named (SharedVariable line name) = Some shared_variable
rule_named (TwoInputs line name) = Some two_inputs
rule_named (TwoOutputs line name) = Some two_outputs
rule_named Memory = None
