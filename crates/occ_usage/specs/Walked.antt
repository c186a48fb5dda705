-- What a walk over a part of a term has noted and found, as the code has it, unless memory ran out.
-- Manual: the usage rules check list.
use Rattle.std.specs.Prelude.{Bool, List, OnOk, Option, Result, map}
use Rattle.occ_term.specs.declared.term.Arm.{Arm}
use Rattle.occ_term.specs.declared.term.Branch.{Branch}
use Rattle.occ_term.specs.declared.term.Choice.{Choice}
use Rattle.occ_term.specs.declared.term.Reception.{Reception}
use Rattle.occ_term.specs.declared.term.Selection.{Selection}
use Rattle.occ_term.specs.declared.term.Term.{Term}
use Rattle.occ_term.specs.declared.term.Variant.{Variant}
use Rattle.occ_term.specs.Uses.{Uses, uses_of, uses_of_terms, uses_of_branches, uses_of_arms, uses_of_reception, uses_of_variants, uses_of_choices, uses_of_options}
use Rattle.occ_term.specs.View.{arm_of, arms_of, branches_of, choice_of, choices_of, option_of, options_of, reception_of, term_of, terms_of, variants_of}
use Rattle.occ_usage.specs.declared.noted.Found.{Found}
use Rattle.occ_usage.specs.declared.noted.Noted.{Noted}
use Rattle.occ_usage.specs.declared.noted.Use.{Use}
use Rattle.occ_usage.specs.Clashes.{Clash, clash_in, clash_in_terms, clash_in_branches, clash_in_arms, clash_in_reception, clash_in_variants, clash_in_choices, clash_in_options}
use Rattle.occ_usage.specs.Noted.{Covers, Leaves, clash_among, uses_in, uses_in_all}

-- ---- a whole part: its uses, and a clash in it

abbrev pub CoversPart : {X E P : Type 0} → Result X E → (P → Uses) → (Clash → P → Bool) → P → (old new : Noted) → (was is : Option Found) → Type 0
CoversPart result uses clashes part old new was is = OnOk result (Covers (uses part) (λ clash. clashes clash part) old.uses new.uses was is)

abbrev pub CoversTerm : {X E : Type 0} → Result X E → Term → (old new : Noted) → (was is : Option Found) → Type 0
CoversTerm result term old new was is = CoversPart result uses_of clash_in (term_of term) old new was is

abbrev pub CoversTerms : {X E : Type 0} → Result X E → List Term → (old new : Noted) → (was is : Option Found) → Type 0
CoversTerms result parts old new was is = CoversPart result uses_of_terms clash_in_terms (terms_of parts) old new was is

abbrev pub CoversBranches : {X E : Type 0} → Result X E → List Branch → (old new : Noted) → (was is : Option Found) → Type 0
CoversBranches result branches old new was is = CoversPart result uses_of_branches clash_in_branches (branches_of branches) old new was is

abbrev pub CoversArms : {X E : Type 0} → Result X E → List Arm → (old new : Noted) → (was is : Option Found) → Type 0
CoversArms result arms old new was is = CoversPart result uses_of_arms clash_in_arms (arms_of arms) old new was is

abbrev pub CoversReception : {X E : Type 0} → Result X E → Reception → (old new : Noted) → (was is : Option Found) → Type 0
CoversReception result list old new was is = CoversPart result uses_of_reception clash_in_reception (reception_of list) old new was is

abbrev pub CoversVariants : {X E : Type 0} → Result X E → List Variant → (old new : Noted) → (was is : Option Found) → Type 0
CoversVariants result variants old new was is = CoversPart result uses_of_variants clash_in_variants (variants_of variants) old new was is

abbrev pub CoversChoices : {X E : Type 0} → Result X E → List Choice → (old new : Noted) → (was is : Option Found) → Type 0
CoversChoices result choices old new was is = CoversPart result uses_of_choices clash_in_choices (choices_of choices) old new was is

abbrev pub CoversOptions : {X E : Type 0} → Result X E → List Selection → (old new : Noted) → (was is : Option Found) → Type 0
CoversOptions result options old new was is = CoversPart result uses_of_options clash_in_options (options_of options) old new was is

-- branches by their lists of uses: all these, and a clash of one with an earlier one
abbrev pub CoversLists : {X E : Type 0} → Result X E → List (List Use) → (old new : Noted) → (was is : Option Found) → Type 0
CoversLists result lists old new was is = OnOk result (Covers (uses_in_all lists) (clash_among (map uses_in lists)) old.uses new.uses was is)

-- ---- one of a row, whatever others stand behind it: these are left of the whole

abbrev pub LeavesOthers : {X E P : Type 0} → Result X E → (P → Uses) → (Clash → P → Bool) → (whole : P → P) → (old new : Noted) → (was is : Option Found) → Type 0
LeavesOthers {X} {E} {P} result uses clashes whole old new was is =
    OnOk result ((others : P) → Leaves (uses others) (λ clash. clashes clash others) (uses (whole others)) (λ clash. clashes clash (whole others)) old.uses new.uses was is)

abbrev pub LeavesArms : {X E : Type 0} → Result X E → Arm → (old new : Noted) → (was is : Option Found) → Type 0
LeavesArms result arm old new was is = LeavesOthers result uses_of_arms clash_in_arms (arm_of arm) old new was is

abbrev pub LeavesChoices : {X E : Type 0} → Result X E → Choice → (old new : Noted) → (was is : Option Found) → Type 0
LeavesChoices result choice old new was is = LeavesOthers result uses_of_choices clash_in_choices (choice_of choice) old new was is

abbrev pub LeavesOptions : {X E : Type 0} → Result X E → Selection → (old new : Noted) → (was is : Option Found) → Type 0
LeavesOptions result option old new was is = LeavesOthers result uses_of_options clash_in_options (option_of option) old new was is
