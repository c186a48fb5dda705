-- What a refusal says of the program.
-- Manual: the usage rules check list.
use Rattle.std.specs.Prelude.{IsTrue, ℕ, ⊤}
use Rattle.occ_usage.specs.declared.checked.UsageFault.{UsageFault}
use Rattle.occ_usage.specs.declared.checked.UsageFault.TheVariants.{SharedVariable, TwoInputs, TwoOutputs, Memory}
use Rattle.occ_term.specs.UnfoldedProgram.{UnfoldedProgram, meaning, Lawful}
use Rattle.occ_usage.specs.Clashes.{Clash, clashes, shared_variable, two_inputs, two_outputs}

-- some number breaks the rule in the term, which then isn't lawful
pub record Breaks (rule : ℕ → Clash) (u : UnfoldedProgram) : Type 0 where
  pub number : ℕ
  pub there : IsTrue (clashes (rule number) (meaning u))
  pub unlawful : Lawful u → ⊥

-- want of memory says nothing
abbrev pub UsageRefuses : UsageFault → UnfoldedProgram → Type 0
UsageRefuses (SharedVariable line name) u = Breaks shared_variable u
UsageRefuses (TwoInputs line name) u = Breaks two_inputs u
UsageRefuses (TwoOutputs line name) u = Breaks two_outputs u
UsageRefuses Memory u = ⊤
