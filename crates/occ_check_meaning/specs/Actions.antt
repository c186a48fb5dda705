-- Processes that stand in one line, and the parts of the others that declare nothing: each answers nothing where it is refused.
-- Manual: primitive processes; combining processes.
use Rattle.std.specs.Prelude.{Bool, List, None, Option, Some, [], cond, false, map, nat_eq, not, true, ℕ, ℤ, ◌+◌, ◌∷◌}
use Rattle.std.specs.Ordering.{int_eq}
use Rattle.occ_tree_grammar.specs.Many.{◌>>=◌}
use Rattle.occ_tree_grammar.specs.Expressions.Trees.{Expression}
use Rattle.occ_tree_grammar.specs.Lines.Trees as L
use Rattle.occ_tree_grammar.specs.Lines.Trees.{Var, Out}
use Rattle.occ_tree_grammar.specs.Lines.Heads.{tag}
use Rattle.occ_tree_grammar.specs.Processes.Trees.{variant, Node, node}
use Rattle.occ_term.specs.declared.primitive.Primitive.{Primitive}
use Rattle.occ_term.specs.declared.primitive.Primitive.TheVariants.{Bool as Boolean}
use Rattle.occ_term.specs.declared.protocol.Protocol.{Protocol}
use Rattle.occ_term.specs.declared.protocol.Protocol.TheVariants.{Simple, CountedArray, Sequential, Variant}
use Rattle.occ_term.specs.Messages.{parts_after}
use Rattle.occ_term.specs.Typing.{is_number}
use Rattle.occ_term.specs.Terms as T
use Rattle.occ_term.specs.Terms.{Place, Target, Declaration, Clearing, Naming, Term, Skip, Assign, Input, Output, VariantInput, Seq, Clear, Local, Terms, no_terms, then_term, Arms, no_arms, skip_arm, input_arm, declared_arms, each_arm, Reception, Plain, Tagged, Variants, no_variants, or_variant, Choices, no_choices, or_choice, declared_choices, each_choice, Options, no_options, or_option, or_else}
use Rattle.occ_term.specs.Sizes.{Size, no_size, with_node, size_of, size_of_targets}
use Rattle.occ_check_meaning.specs.Scope.{keep, each_of, Name, Names}
use Rattle.occ_check_meaning.specs.Numbers.{Numbers, room}
use Rattle.occ_check_meaning.specs.Expressions.{as_single, typed, typed_as}
use Rattle.occ_check_meaning.specs.Items.{variable_of, channel_of, sent, tag_in, stored, apart, assigned_items, as_target}

-- ---- a term behind what is declared before it

abbrev pub as_term : Declaration → Term
as_term (Clearing first count) = Clear first count
as_term (Naming first value) = Local first value

abbrev pub followed : List Declaration → Term → Terms
followed [] t = then_term t no_terms
followed (h ∷ hs) t = then_term (as_term h) (followed hs t)

-- one SEQ whose last part is the process, and none where nothing is declared
abbrev pub headed : List Declaration → Term → Term
headed [] t = t
headed (h ∷ hs) t = Seq (followed (h ∷ hs) t)

-- the depth behind that SEQ, which is a node
abbrev pub opening : List Declaration → ℕ → Numbers → Option (ℕ × Numbers)
opening [] depth n = Some (depth, n)
opening (h ∷ hs) depth n = room depth (with_node no_size) n >>= λ m. Some (depth + 1, m)

-- a term of one line takes its nodes
abbrev pub taken : ℕ → Numbers → Term → Option (Term × Numbers)
taken depth n t = room depth (size_of t) n >>= λ m. Some (t, m)

-- ---- assignment, output

-- (refusals: wrong type; list target)
abbrev pub assigned : Names → ℕ → List Var → List Expression → Option Term
assigned ns line vs es = do
  values ← each_of (typed ns line) es
  stretches ← each_of (variable_of ns line) vs
  apart_stretches ← apart (map (λ r. r.1) stretches)
  items ← assigned_items stretches values
  Some (Assign (map (as_target line) stretches) items)

abbrev pub output : Names → ℕ → Var → Out → List Out → Option Term
output ns line v o os = do
  c ← channel_of ns line v
  s ← sent ns line c.0 o os
  Some (Output c.1 s.0 s.1)

-- ---- input

-- what an input stores: a list of targets, or one behind a tag
pub data Listed : Type 0 where
  plain_list : List Target → Listed
  tagged_list : (tag : ℕ) → List Target → Listed

abbrev pub received : Names → ℕ → L.Input → Option (Place × Listed)
received ns line (L.items v t ts) = do
  c ← channel_of ns line v
  parts ← parts_after c.0 None
  targets ← stored ns line parts (t ∷ ts)
  Some (c.1, plain_list targets)
received ns line (L.tagged v x ts) = do
  c ← channel_of ns line v
  k ← tag_in c.0 x
  parts ← parts_after c.0 (Some k)
  targets ← stored ns line parts ts
  Some (c.1, tagged_list k targets)

abbrev pub as_reception : Listed → Term → Reception
as_reception (plain_list targets) body = Plain targets body
as_reception (tagged_list k targets) body = Tagged (or_variant k [] targets body no_variants)

abbrev pub as_input : Place × Listed → Term
as_input (c, plain_list targets) = Input c targets
as_input (c, tagged_list k targets) = VariantInput c (or_variant k [] targets Skip no_variants)

-- its nodes without the process that follows, and the depth of that process
abbrev pub size_of_list : Listed → Size
size_of_list (plain_list targets) = size_of_targets targets
size_of_list (tagged_list k targets) = with_node (size_of_targets targets)

abbrev pub depth_behind : Listed → ℕ → ℕ
depth_behind (plain_list targets) depth = depth
depth_behind (tagged_list k targets) depth = depth + 1

-- the Boolean of an arm that inputs, where it has one
abbrev pub test_of : Names → ℕ → Option Expression → Option (Option T.Expression)
test_of ns line None = Some None
test_of ns line (Some e) = typed_as ns line Boolean e >>= λ test. Some (Some test)

-- ---- inputs of variants

-- the tag that a variant names
abbrev pub variant_tag : Node variant → Name
variant_tag (node ds line (tag x ts) b) = x

-- (refusal: protocol) a protocol with tags
abbrev pub with_tags : Protocol → Option Protocol
with_tags (Variant tags) = Some (Variant tags)
with_tags (Simple sizes type) = None
with_tags (CountedArray count type) = None
with_tags (Sequential ps) = None

-- whether a number stands in a list
abbrev pub has_number : ℕ → List ℕ → Bool
has_number k [] = false
has_number k (m ∷ ms) = cond (nat_eq k m) true (has_number k ms)

-- (refusal: tag) the number of a tag that was not listed before
abbrev pub new_tag : Protocol → Name → List ℕ → Option ℕ
new_tag p x before = tag_in p x >>= λ k. keep (not (has_number k before)) k

-- ---- the options of a CASE

-- (refusal: wrong type) CASE selects by INT or BYTE
abbrev pub selector : Names → ℕ → Expression → Option (Primitive × T.Expression)
selector ns line e = typed ns line e >>= as_single >>= λ x. keep (is_number x.0) x

-- the constants that stand in the options so far, and whether ELSE does
pub record Chosen : Type 0 where
  pub constants : List ℤ
  pub has_else : Bool

abbrev pub none_chosen : Chosen
none_chosen = record { constants = []; has_else = false }

abbrev pub has_constant : ℤ → List ℤ → Bool
has_constant v [] = false
has_constant v (w ∷ ws) = cond (int_eq v w) true (has_constant v ws)

-- (refusal: a name twice, of a CASE constant)
unfoldable pub choosing : List ℤ → Chosen → Option Chosen
choosing [] c = Some c
choosing (v ∷ vs) c = keep (not (has_constant v c.constants)) (record c { constants = v ∷ c.constants }) >>= choosing vs

-- (refusal: wrong kind) more than one ELSE
abbrev pub choosing_else : Chosen → Option Chosen
choosing_else c = keep (not c.has_else) (record c { has_else = true })

-- ---- lists within lists

-- arms under their declarations
abbrev pub arms_behind : List Declaration → Arms → Arms
arms_behind [] arms = arms
arms_behind (h ∷ hs) arms = declared_arms h (arms_behind hs arms) no_arms

abbrev pub choices_behind : List Declaration → Choices → Choices
choices_behind [] choices = choices
choices_behind (h ∷ hs) choices = declared_choices h (choices_behind hs choices) no_choices

-- the first before the others
abbrev pub arms_then : Arms → Arms → Arms
arms_then no_arms others = others
arms_then (skip_arm e t arms) others = skip_arm e t (arms_then arms others)
arms_then (input_arm e c list arms) others = input_arm e c list (arms_then arms others)
arms_then (declared_arms d within arms) others = declared_arms d within (arms_then arms others)
arms_then (each_arm r within arms) others = each_arm r within (arms_then arms others)

abbrev pub choices_then : Choices → Choices → Choices
choices_then no_choices others = others
choices_then (or_choice e t cs) others = or_choice e t (choices_then cs others)
choices_then (declared_choices d within cs) others = declared_choices d within (choices_then cs others)
choices_then (each_choice r within cs) others = each_choice r within (choices_then cs others)

abbrev pub variants_then : Variants → Variants → Variants
variants_then no_variants others = others
variants_then (or_variant k ds ts t vs) others = or_variant k ds ts t (variants_then vs others)

abbrev pub options_then : Options → Options → Options
options_then no_options others = others
options_then (or_option vs ds t os) others = or_option vs ds t (options_then os others)
options_then (or_else ds t os) others = or_else ds t (options_then os others)
