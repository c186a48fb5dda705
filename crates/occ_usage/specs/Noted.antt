-- Uses as the code notes them: a list, each of cells or channels one after another.
-- Manual: nothing; this is (own).
use Rattle.std.specs.Prelude.{Bool, List, None, Option, Some, [], false, map, nat_le, nat_lt, true, ℕ, ⊤, ◌&&◌, ◌*◌, ◌+◌, ◌/◌, ◌||◌, ◌∷◌, ◌≡◌, ◌⊎◌}
use Rattle.occ_term.specs.Terms.{Place, place, Branches, no_branches, and_branch}
use Rattle.occ_term.specs.Messages.{product}
use Rattle.occ_term.specs.Values.{Span, span}
use Rattle.occ_term.specs.Uses.{Numbers, Uses, no_use, with_use, reading, writing, inputting, outputting, part_named, uses_of}
use Rattle.occ_usage.specs.Clashes.{Clash, clash_in, shared_variable, two_inputs, two_outputs}
use Rattle.occ_usage.specs.declared.noted.Use.{Use}
use Rattle.occ_usage.specs.declared.noted.Kind.{Kind}
use Rattle.occ_usage.specs.declared.noted.Kind.TheVariants.{Read, Write, Input, Output}
use Rattle.occ_usage.specs.declared.noted.Rule.{Rule}
use Rattle.occ_usage.specs.declared.noted.Rule.TheVariants.{Variables, Inputs, Outputs}
use Rattle.occ_usage.specs.declared.noted.Found.{Found}
use Rattle.occ_usage.specs.declared.checked.UsageFault.{UsageFault}
use Rattle.occ_usage.specs.declared.checked.UsageFault.TheVariants.{SharedVariable, TwoInputs, TwoOutputs, Memory}
use Rattle.occ_usage.specs.declared.places.Span.{Span as CodeSpan}

abbrev pub between : ℕ → ℕ → Numbers
between first end = λ c. nat_le first c && nat_lt c end

abbrev pub use_of : Kind → Numbers → Uses
use_of Read s = reading s
use_of Write s = writing s
use_of Input s = inputting s
use_of Output s = outputting s

abbrev pub uses_in : List Use → Uses
uses_in [] = no_use
uses_in (u ∷ us) = with_use (use_of u.kind (between u.first u.end)) (uses_in us)

-- what is noted after, beyond what was before
pub record Adds (before : List Use) (more : Uses) (after : List Use) : Type 0 where
  pub is : uses_in after ≡ with_use (uses_in before) more

-- what a place names with its constant subscripts
abbrev pub span_named : Place → Span
span_named (place line first sizes subs) = part_named subs first sizes (span first (product sizes))

-- the components of one subscript among those of a span: none where it isn't constant
abbrev pub on_component : Option ℕ → CodeSpan → ℕ → Option CodeSpan
on_component None s size = None
on_component (Some i) s size = Some (record { first = s.first + i * (s.count / size); count = s.count / size })

-- what breaks a rule at a number
abbrev pub breaking : Rule → ℕ → Clash
breaking Variables = shared_variable
breaking Inputs = two_inputs
breaking Outputs = two_outputs

-- what is found says whether there is a clash, and which
pub record Finds (found : Option Found) (clashes : Clash → Bool) : Type 0 where
  pub none : found ≡ None → (rule : Rule) (number : ℕ) → clashes (breaking rule number) ≡ false
  pub some : (f : Found) → found ≡ Some f → clashes (breaking f.rule f.number) ≡ true

-- the same after what was found before
pub record FindsAfter (before found : Option Found) (clashes : Clash → Bool) : Type 0 where
  pub none : found ≡ None → (before ≡ None) × ((rule : Rule) (number : ℕ) → clashes (breaking rule number) ≡ false)
  pub some : (f : Found) → found ≡ Some f → (before ≡ Some f) ⊎ (clashes (breaking f.rule f.number) ≡ true)

-- one of two, and where there is one at all, one
pub record IsOneOf (found a b : Option Found) : Type 0 where
  pub none : found ≡ None → (a ≡ None) × (b ≡ None)
  pub one : (found ≡ a) ⊎ (found ≡ b)

-- of a term or a part of it: what is noted, and what is found
pub record Covers (more : Uses) (clashes : Clash → Bool) (before after : List Use) (was is : Option Found) : Type 0 where
  pub adds : Adds before more after
  pub finds : FindsAfter was is clashes

-- What was noted and found leaves these others of the whole. It is so before any others.
pub record Leaves (others : Uses) (other_clashes : Clash → Bool) (whole : Uses) (clashes : Clash → Bool) (before after : List Use) (was is : Option Found) : Type 0 where
  pub uses : with_use (uses_in after) others ≡ with_use (uses_in before) whole
  pub finds : (last : Option Found) → FindsAfter is last other_clashes → FindsAfter was last clashes

-- ---- branches

abbrev pub all_uses : List Uses → Uses
all_uses [] = no_use
all_uses (u ∷ us) = with_use u (all_uses us)

abbrev pub uses_in_all : List (List Use) → Uses
uses_in_all lists = all_uses (map uses_in lists)

-- of branches one after another: one, and a later one
abbrev pub with_one : Clash → Uses → List Uses → Bool
with_one clash a [] = false
with_one clash a (b ∷ bs) = clash a b || with_one clash a bs

abbrev pub clash_among : List Uses → Clash → Bool
clash_among [] clash = false
clash_among (a ∷ bs) clash = with_one clash a bs || clash_among bs clash

abbrev pub branch_uses : Branches → List Uses
branch_uses no_branches = []
branch_uses (and_branch n t bs) = uses_of t ∷ branch_uses bs

-- within one of the branches
abbrev pub clash_within : Branches → Clash → Bool
clash_within no_branches clash = false
clash_within (and_branch n t bs) clash = clash_in clash t || clash_within bs clash

-- ---- faults

-- a fault for this rule
abbrev pub FaultFor : Rule → UsageFault → Type 0
FaultFor rule (SharedVariable line name) = rule ≡ Variables
FaultFor rule (TwoInputs line name) = rule ≡ Inputs
FaultFor rule (TwoOutputs line name) = rule ≡ Outputs
FaultFor rule Memory = ⊤
