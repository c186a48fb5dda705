-- Inputs of variants: what is checked and counted before what stands under them, the parts of a variant, and what is left of one.
-- Manual: combining processes.
use Rattle.std.specs.Prelude.{List, Option, Result, Some, ℕ, map}
use Rattle.occ_tree_grammar.specs.Lines.Trees as L
use Rattle.occ_tree_grammar.specs.declared.tree.process.Variant.TheVariants as variants
use Rattle.occ_tree_grammar.specs.Many.{◌>>=◌}
use Rattle.occ_tree_grammar.specs.Lines.Trees.{Var}
use Rattle.occ_tree_grammar.specs.Lines.Views.{target_of, var_of}
use Rattle.occ_tree_grammar.specs.Processes.Views.{process_of, held_decls, variant_of}
use Rattle.occ_tree_grammar.specs.Processes.Trees.{Decls}
use Rattle.occ_tree_grammar.specs.declared.tree.line.Target.{Target}
use Rattle.occ_tree_grammar.specs.declared.tree.line.Var.{Var as VarCode}
use Rattle.occ_tree_grammar.specs.declared.tree.process.Decl.{Decl}
use Rattle.occ_tree_grammar.specs.declared.tree.process.Process.{Process}
use Rattle.occ_tree_grammar.specs.declared.tree.process.Variant.{Variant}
use Rattle.occ_term.specs.Sizes as Sizes
use Rattle.occ_term.specs.Terms as T
use Rattle.occ_term.specs.Sizes.{size_of_place, size_of_targets}
use Rattle.occ_term.specs.Messages.{parts_after}
use Rattle.occ_term.specs.declared.protocol.Protocol.{Protocol}
use Rattle.occ_term.specs.Terms.{Variants}
use Rattle.occ_term.specs.View.{declarations_of, place_of, targets_of}
use Rattle.occ_term.specs.declared.expression.Place.{Place}
use Rattle.occ_term.specs.declared.expression.Target.{Target as TermTarget}
use Rattle.occ_check_meaning.specs.Performing as P
use Rattle.occ_check_meaning.specs.Numbers as N
use Rattle.occ_check_meaning.specs.Items.{channel_of, stored}
use Rattle.occ_check_meaning.specs.Actions.{with_tags}
use Rattle.occ_check_meaning.specs.Numbers.{Numbers, room}
use Rattle.occ_check_meaning.specs.Scope.{Names}
use Rattle.occ_check_meaning.specs.Performing.{Under}
use Rattle.occ_check_meaning.specs.Recursion.{all_declared, unfolded, variant_unfolded}
use Rattle.occ_check_lines.specs.Reading.{OfLine, ReadsIn}
use Rattle.occ_check_lines.specs.declared.context.Context.{Context}
use Rattle.occ_check_lines.specs.declared.fault.CheckFault.{CheckFault}
use Rattle.occ_check_lines.specs.declared.numbers.Numbers.{Numbers as CodeNumbers}
use Rattle.occ_check.specs.declared.here.Here.{Here}
use Rattle.occ_check.specs.declared.unfolder.Unfolder.{Unfolder}
use Rattle.occ_check.specs.Weights.{decl_nodes}
use Rattle.occ_check.specs.Progress.{ReadsLine, body_weight, counted, meant_at, node_weight}
use Rattle.occ_check.specs.Opened.{OpensAt, body_unfolded, case_variants, put}
use Rattle.occ_check.specs.declared.variants.OpenedVariant.{OpenedVariant}
use Rattle.occ_check.specs.declared.variants.VariantHead.{VariantHead}

-- the protocol of the tags of a channel whose variants are input, and its place, counted
abbrev pub variants_taken : Names → ℕ → ℕ → Var → Numbers → Option ((Protocol × T.Place) × Numbers)
variants_taken ns line depth v n = do
  c ← channel_of ns line v
  p ← with_tags c.0
  m ← room depth (Sizes.with_node (size_of_place c.1)) n
  Some ((p, c.1), m)

-- the targets for the parts of the message that follow a tag, counted
abbrev pub storing : Names → ℕ → ℕ → Protocol → (tag : ℕ) → List L.Target → Numbers → Option (List T.Target × Numbers)
storing ns line depth p k ts n = do
  parts ← parts_after p (Some k)
  targets ← stored ns line parts ts
  m ← room depth (size_of_targets targets) n
  Some (targets, m)

-- .. of the code

abbrev pub tagged_input : VarCode → OfLine (Protocol × T.Place)
tagged_input v ns line depth n = variants_taken ns line depth (var_of v) n

abbrev pub tagged_place : Protocol × Place → Protocol × T.Place
tagged_place c = (c.0, place_of c.1)

abbrev pub after_tag : Protocol → (tag : ℕ) → List Target → OfLine (List T.Target)
after_tag p k ts ns line depth n = storing ns line depth p k (map target_of ts) n

-- targets are answered that a line unfolds to, in a context and where it stands
abbrev pub StoresIn : Result (List TermTarget) CheckFault → Context → (old new : CodeNumbers) → ℕ → OfLine (List T.Target) → Type 0
StoresIn result c old new depth part = ReadsIn targets_of result c old new depth part

abbrev pub StoresAt : Result (List TermTarget) CheckFault → Unfolder → Unfolder → Here → OfLine (List T.Target) → Type 0
StoresAt result old new here part = ReadsLine targets_of result old new here part

-- an input of variants
abbrev pub input_case : ℕ → VarCode → List Variant → Under T.Term
input_case line v vs = P.taken_by_variant line (var_of v) (case_variants vs)

-- ---- the parts of a variant

abbrev pub declarations_of_variant : Variant → Decls
declarations_of_variant (variants.Tagged' shape ds line x ts n) = held_decls ds

abbrev pub line_of_variant : Variant → ℕ
line_of_variant (variants.Tagged' shape ds line x ts n) = line

abbrev pub targets_of_variant : Variant → List L.Target
targets_of_variant (variants.Tagged' shape ds line x ts n) = map target_of ts.items

abbrev pub body_of_variant : Variant → Process
body_of_variant (variants.Tagged' shape ds line x ts n) = n

abbrev pub variant_with_targets : ℕ → List Target → List Decl → Process → Protocol → (tag : ℕ) → Under Variants
variant_with_targets line ts ds p = P.variant_of line (map target_of ts) (all_declared (decl_nodes ds)) (body_unfolded p)

-- a variant, and how large it is with what is in scope there
abbrev pub a_variant : Variant → Protocol → (tag : ℕ) → Under Variants
a_variant v = variant_unfolded (variant_of v)

abbrev pub whole_variant : Unfolder → Here → Variant → ℕ
whole_variant u here v = node_weight u here.at (variant_of v)

-- ---- a variant that is opened

abbrev pub variant_with : VariantHead → T.Term → T.Variants
variant_with h t = T.or_variant h.tag (declarations_of h.declarations) (targets_of h.targets) t T.no_variants

abbrev pub variant_left : Unfolder → OpenedVariant → Option (T.Variants × N.Numbers)
variant_left u o = put (variant_with o.head) (unfolded (process_of o.body.now) (meant_at u o.here.at) o.here.depth (counted u))

abbrev pub OpensVariant : Result OpenedVariant CheckFault → Unfolder → Unfolder → Here → Under Variants → Type 0
OpensVariant result old new here part = OpensAt variant_left result old new here part

abbrev pub variant_weight : Unfolder → OpenedVariant → ℕ
variant_weight u o = body_weight u o.here.at o.body.now

abbrev pub OpensTargets : Result OpenedVariant CheckFault → Unfolder → Unfolder → Here → List Target → List Decl → Process → Protocol → (tag : ℕ) → Type 0
OpensTargets result old new here ts ds p protocol tag = OpensVariant result old new here (variant_with_targets here.line ts ds p protocol tag)
