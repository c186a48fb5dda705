-- The tree of processes and of their parts.
-- Manual: the syntax summary; combining processes; procedures; channels and protocols.
use Rattle.std.specs.Prelude.{ℕ, List, [], ◌∷◌, Option, Some, None}
use Rattle.occ_tree_grammar.specs.Expressions.Trees.{Expression, Expressions}
use Rattle.occ_tree_grammar.specs.Lines.Trees.{Replicator, Part, Sort, ValueType, Formals}
use Rattle.occ_tree_grammar.specs.Lines.Heads.{ProcessHead, act, input_variants, sequence, parallel, alternation, conditional, selection, loop, ChoiceHead, chosen, nested_conditional, OptionHead, ArmHead, guarded, guarded_variants, nested_alternation, VariantHead}

-- What has declarations, a line of its own and lines under it: a process, or a part of an IF, a CASE, an ALT or an
-- input of variants.
pub data Kind : Type 0 where
  process : Kind
  choice : Kind
  option : Kind
  arm : Kind
  variant : Kind

-- what stands a level deeper: nothing, one of a kind, or none or more of a kind
pub data Under : Type 0 where
  nothing : Under
  one_of : Kind → Under
  all_of : Kind → Under

-- what the line of a kind says
abbrev pub Head : Kind → Type 0
Head process = ProcessHead
Head choice = ChoiceHead
Head option = OptionHead
Head arm = ArmHead
Head variant = VariantHead

-- a replicator has one under it
abbrev pub replicated : Option Replicator → Kind → Under
replicated None k = all_of k
replicated (Some r) k = one_of k

abbrev pub under : (k : Kind) → Head k → Under
under process (act a) = nothing
under process (input_variants v) = all_of variant
under process (sequence r) = replicated r process
under process (parallel r) = replicated r process
under process (alternation pri r) = replicated r arm
under process (conditional r) = replicated r choice
under process (selection e) = all_of option
under process (loop e) = one_of process
under choice (chosen e) = one_of process
under choice (nested_conditional r) = replicated r choice
under option h = one_of process
under arm (guarded g) = one_of process
under arm (guarded_variants e v) = all_of variant
under arm (nested_alternation pri r) = replicated r arm
under variant h = one_of process

-- a line of a protocol of variants: a tag and the parts that follow it
pub data Tag : Type 0 where
  tag_line : (line : ℕ) → List ℕ → List Part → Tag

pub data Protocol : Type 0 where
  of_parts : (line : ℕ) → List ℕ → Part → List Part → Protocol
  of_tags : (line : ℕ) → List ℕ → (case_line : ℕ) → List Tag → (end_line : ℕ) → Protocol

mutual
  pub data Node : Kind → Type 0 where
    node : {k : Kind} → Decls → (line : ℕ) → (h : Head k) → Body (under k h) → Node k

  pub data Body : Under → Type 0 where
    no_body : Body nothing
    single_body : {k : Kind} → Node k → Body (one_of k)
    bodies : {k : Kind} → Nodes k → Body (all_of k)

  pub data Nodes : Kind → Type 0 where
    no_node : {k : Kind} → Nodes k
    more_nodes : {k : Kind} → Node k → Nodes k → Nodes k

  pub data Decls : Type 0 where
    no_decl : Decls
    more_decls : Decl → Decls → Decls

  pub data Decl : Type 0 where
    declares : (line : ℕ) → Expressions → Sort → List ℕ → List (List ℕ) → Decl
    item : Item → Decl

  pub data Item : Type 0 where
    value_item : (line : ℕ) → Option ValueType → List ℕ → Expression → Item
    protocol_item : Protocol → Item
    proc_item : (line : ℕ) → List ℕ → Formals → Node process → (end_line : ℕ) → Item

-- the same, as the lists that they are
abbrev pub nodes : {k : Kind} → List (Node k) → Nodes k
nodes [] = no_node
nodes (n ∷ ns) = more_nodes n (nodes ns)

abbrev pub decls : List Decl → Decls
decls [] = no_decl
decls (d ∷ ds) = more_decls d (decls ds)
