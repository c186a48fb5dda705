-- What the code of processes answers.
-- Manual: nothing; this is (own).
use Rattle.std.specs.Prelude.{List, OnOk, Option, Some, Result, Ok, Err, ℕ, ◌+◌, ◌≡◌, ◌≤◌}
use Rattle.occ_tree_grammar.specs.Lines.Views.{actuals_of, replicator_of as replicator_tree}
use Rattle.occ_tree_grammar.specs.Processes.Views.{process_of}
use Rattle.occ_tree_grammar.specs.Many.{◌>>=◌}
use Rattle.occ_tree_grammar.specs.declared.tree.expr.Expr.{Expr}
use Rattle.occ_tree_grammar.specs.declared.tree.line.OneOrMore.{OneOrMore}
use Rattle.occ_tree_grammar.specs.declared.tree.line.Replicator.{Replicator as ReplicatorTree}
use Rattle.occ_tree_grammar.specs.declared.tree.process.Process.{Process}
use Rattle.occ_tree_grammar.specs.Processes.Trees.{Kind, Node, Nodes}
use Rattle.occ_tree_grammar.specs.declared.tree.process.Decl.{Decl}
use Rattle.occ_term.specs.Terms as T
use Rattle.occ_term.specs.declared.expression.Declaration.{Declaration}
use Rattle.occ_term.specs.View.{declarations_of, replicator_of}
use Rattle.occ_term.specs.declared.expression.Replicator.{Replicator}
use Rattle.occ_check_meaning.specs.Numbers as N
use Rattle.occ_check_meaning.specs.Scope as S
use Rattle.occ_check_meaning.specs.Declarations.{Indexed, indexed}
use Rattle.occ_check_meaning.specs.Performing.{Calling, Declaring, Entered, Under, entered}
use Rattle.occ_check_meaning.specs.Recursion.{unfolded}
use Rattle.occ_check_meaning.specs.Unfolding.{Procedures}
use Rattle.occ_check_meaning.specs.Meant.{meaning_of, meant}
use Rattle.occ_check_meaning.specs.Actions.{headed, opening}
use Rattle.occ_check_lines.specs.Reading.{OfLine}
use Rattle.occ_check_lines.specs.View.{numbers_of, Refuses, Unfolds}
use Rattle.occ_check_lines.specs.declared.fault.CheckFault.{CheckFault}
use Rattle.occ_check_lines.specs.declared.scope.Position.{Position}
use Rattle.occ_check_lines.specs.declared.scope.Procedure.{Procedure}
use Rattle.occ_check.specs.Entering.{procedure_of}
use Rattle.occ_check.specs.declared.here.Here.{Here}
use Rattle.occ_check.specs.declared.unfolder.Call.{Call}
use Rattle.occ_check.specs.declared.unfolder.Unfolder.{Unfolder}
use Rattle.occ_check.specs.OpenBlocks.{Keeps, seen_at, seen_inside}
use Rattle.occ_check.specs.Weights.{node_size, nodes_size, decls_size, weight, decl_nodes}

-- what is in scope at a position of the open blocks
abbrev pub scope_at : Unfolder → Position → Procedures
scope_at u at = seen_at u.blocks at

-- with what each PROC means
abbrev pub meant_at : Unfolder → Position → S.Scope Calling
meant_at u at = meant (scope_at u at)

abbrev pub counted : Unfolder → N.Numbers
counted u = numbers_of u.numbers

-- the names there, but for procedures
abbrev pub names_there : Unfolder → Position → S.Names
names_there u at = S.names_of (meant_at u at)

-- what is answered is what a part of the tree unfolds to where it stands
abbrev pub Reads : {X Y : Type 0} → (X → Y) → Result X CheckFault → Unfolder → Unfolder → Here → Under Y → Type 0
Reads view result old new here part = Unfolds view result new.numbers (part (meant_at old here.at) here.depth (counted old))

-- .. what something in its line unfolds to under the names there
abbrev pub ReadsLine : {X Y : Type 0} → (X → Y) → Result X CheckFault → Unfolder → Unfolder → Here → OfLine Y → Type 0
ReadsLine view result old new here part = Unfolds view result new.numbers (part (names_there old here.at) here.line here.depth (counted old))

-- all that was open is open still and as it was, whatever is open inside of it
abbrev pub KeepsOpen : {X : Type 0} → Result X CheckFault → Unfolder → Unfolder → Type 0
KeepsOpen result old new = OnOk result (Keeps old.blocks new.blocks)

-- .. and nothing more is
abbrev pub OpensNothing : {X : Type 0} → Result X CheckFault → Unfolder → Unfolder → Type 0
OpensNothing result old new = OnOk result (new.blocks ≡ old.blocks)

-- all that is in scope at the end
abbrev pub innermost_at : Unfolder → Procedures
innermost_at u = seen_inside u.blocks

abbrev pub meant_innermost : Unfolder → S.Scope Calling
meant_innermost u = meant (innermost_at u)

-- declarations that are entered
abbrev pub Enters : Result (List Declaration) CheckFault → Unfolder → Option (Entered Calling) → Type 0
Enters (Ok heads) after given = given ≡ Some (entered (meant_innermost after) (declarations_of heads) (counted after))
Enters (Err e) after given = Refuses e given

-- the same of declarations that are read inside of all that is in scope
abbrev pub Declares : Result (List Declaration) CheckFault → Unfolder → Unfolder → ℕ → Declaring → Type 0
Declares result old new depth part = Enters result new (part (meant_innermost old) depth (counted old))

-- declarations that are entered, and the position at which they are in scope
abbrev pub EntersAt : Result (List Declaration × Position) CheckFault → Unfolder → Option (Entered Calling) → Type 0
EntersAt (Ok d) after given = given ≡ Some (entered (meant_at after d.1) (declarations_of d.0) (counted after))
EntersAt (Err e) after given = Refuses e given

-- the same of declarations that are read where they stand
abbrev pub DeclaresAt : Result (List Declaration × Position) CheckFault → Unfolder → Unfolder → Here → Declaring → Type 0
DeclaresAt result old new here part = EntersAt result new (part (meant_at old here.at) here.depth (counted old))

-- how large what is in scope at a position is, and all that is in scope at the end
abbrev pub weight_at : Unfolder → Position → ℕ
weight_at u at = weight (scope_at u at)

abbrev pub innermost_weight : Unfolder → ℕ
innermost_weight u = weight (innermost_at u)

-- what is in scope at the end has grown by no more than this
abbrev pub GrowsWithin : {X : Type 0} → Result X CheckFault → Unfolder → Unfolder → ℕ → Type 0
GrowsWithin result old new more = OnOk result (innermost_weight new ≤ more + innermost_weight old)

-- how large parts of the tree are with what is in scope there
abbrev pub node_weight : {k : Kind} → Unfolder → Position → Node k → ℕ
node_weight u at n = node_size n + weight_at u at

abbrev pub nodes_weight : {k : Kind} → Unfolder → Position → Nodes k → ℕ
nodes_weight u at ns = nodes_size ns + weight_at u at

abbrev pub body_weight : Unfolder → Position → Process → ℕ
body_weight u at p = node_weight u at (process_of p)

-- one part where it stands, as a list
abbrev pub single_weight : {k : Kind} → Unfolder → Here → Node k → ℕ
single_weight u here n = (node_size n + 1) + weight_at u here.at

-- declarations where they stand, and with a process behind them
abbrev pub decls_weight : Unfolder → Here → List Decl → ℕ
decls_weight u here ds = decls_size (decl_nodes ds) + weight_at u here.at

abbrev pub parts_weight : Unfolder → Here → List Decl → Process → ℕ
parts_weight u here ds p = (decls_size (decl_nodes ds) + node_size (process_of p)) + weight_at u here.at

-- how deep what stands behind what is set for declarations is
abbrev pub opening_behind : List Declaration → ℕ → Unfolder → Option (ℕ × N.Numbers)
opening_behind heads depth u = opening (declarations_of heads) depth (counted u)

-- what a call of a PROC means where it stands, and the PROC's declaration at the outer position
abbrev pub call_meant : Unfolder → (outer : Position) → Here → Procedure → Option (OneOrMore Expr) → Option (T.Term × N.Numbers)
call_meant u outer here p es = meaning_of (procedure_of p) (meant_at u outer) (names_there u here.at) here.line here.depth (actuals_of es) (counted u)

-- the body that is called, behind what is set for its formals
abbrev pub called_body : List Declaration → Process → Unfolder → Position → ℕ → Option (T.Term × N.Numbers)
called_body heads body u at depth = do
  o ← opening (declarations_of heads) depth (counted u)
  t ← unfolded (process_of body) (meant_at u at) o.0 o.1
  Some (headed (declarations_of heads) t.0, t.1)

abbrev pub Calls : ℕ → Result Call CheckFault → Unfolder → Option (T.Term × N.Numbers) → Type 0
Calls depth (Ok c) after given = given ≡ called_body c.heads c.body.now after c.inside depth
Calls depth (Err e) after given = Refuses e given

abbrev pub CallsAt : Result Call CheckFault → Unfolder → Unfolder → Here → Under T.Term → Type 0
CallsAt result old new here part = Calls here.depth result new (part (meant_at old here.at) here.depth (counted old))

-- a replicator with its index, under the names of which something is read
abbrev pub Indexes : Result (Replicator × Position) CheckFault → Unfolder → S.Scope Calling → Option Indexed → Type 0
Indexes (Ok r) after sc given =
    (i : Indexed) × (given ≡ Some i) × (i.replicator ≡ replicator_of r.0) × (meant_at after r.1 ≡ S.within i.names sc) × (i.numbers ≡ counted after)
Indexes (Err e) after sc given = Refuses e given

abbrev pub IndexesAt : Result (Replicator × Position) CheckFault → Unfolder → Unfolder → Here → ReplicatorTree → Type 0
IndexesAt result old new here r = Indexes result new (meant_at old here.at) (indexed (names_there old here.at) here.line here.depth (replicator_tree r) (counted old))
