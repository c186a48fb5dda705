-- How large what stands within an expression is.
-- Manual: nothing; the limits of sizes are (own).
use Rattle.std.specs.Prelude.{List, Option, [], ℕ}
use Rattle.occ_term.specs.Terms.{Expression, Constant, Cell, Component, Letter, Binary, Unary, And, Or, Conversion, Assign, Input, Output, Skip, VariantInput, no_variants, or_variant}
use Rattle.occ_term.specs.Sizes.{Size, no_size, together, size_of, size_of_declaration, size_of_expression, size_of_place}
use Rattle.occ_term.specs.View.{declaration_of, items_of, place_of, targets_of}
use Rattle.occ_term.specs.declared.expression.Declaration.{Declaration}
use Rattle.occ_term.specs.declared.expression.Item.{Item}
use Rattle.occ_term.specs.declared.expression.Place.{Place}
use Rattle.occ_term.specs.declared.expression.Target.{Target}

-- the parts of an expression, without the node that it is itself
abbrev pub size_within : Expression → Size
size_within (Constant v) = no_size
size_within (Cell c) = no_size
size_within (Component p) = size_of_place p
size_within (Letter line text e) = size_of_expression e
size_within (Binary op type line a b) = together (size_of_expression a) (size_of_expression b)
size_within (Unary op type line a) = size_of_expression a
size_within (And a b) = together (size_of_expression a) (size_of_expression b)
size_within (Or a b) = together (size_of_expression a) (size_of_expression b)
size_within (Conversion to line a) = size_of_expression a

-- ---- how large what the code counts is

abbrev pub declaration_size : Declaration → Size
declaration_size d = size_of_declaration (declaration_of d)

abbrev pub assignment_size : List Target → List Item → Size
assignment_size targets items = size_of (Assign (targets_of targets) (items_of items))

abbrev pub input_size : Place → List Target → Size
input_size channel targets = size_of (Input (place_of channel) (targets_of targets))

-- .. for each tag
abbrev pub output_size : Place → List Item → (tag : Option ℕ) → Size
output_size channel items tag = size_of (Output (place_of channel) tag (items_of items))

abbrev pub tagged_input_size : Place → List Target → (tag : ℕ) → Size
tagged_input_size channel targets tag = size_of (VariantInput (place_of channel) (or_variant tag [] (targets_of targets) Skip no_variants))
