-- The types of the code as those of the definitions.
-- Manual: nothing; this is (own).
use Rattle.std.specs.Borrow.{Bor}
use Rattle.std.specs.Prelude.{List, bytes_eq, false, None, Option, Some, [], if◌then◌else◌, length, map, nat_eq, pos, reverse, suc, take, Result, Ok, Err, ℕ, ⊤, ◌++◌, ◌<◌, ◌≤◌, ◌∷◌, ◌≡◌, IfOk}
use Rattle.occ_tree_grammar.specs.Lines.Views.{formals_of}
use Rattle.occ_tree_grammar.specs.Processes.Views.{process_of}
use Rattle.occ_term.specs.Sizes.{Size}
use Rattle.occ_term.specs.Terms as T
use Rattle.occ_term.specs.declared.expression.TermExpr.{TermExpr}
use Rattle.occ_term.specs.declared.primitive.Primitive.{Primitive}
use Rattle.occ_term.specs.View.{subscripts, expression_of, array_of}
use Rattle.occ_check_meaning.specs.Scope as S
use Rattle.occ_check_meaning.specs.Expressions as E
use Rattle.occ_check_meaning.specs.Numbers as N
use Rattle.occ_check_meaning.specs.Unfolding as U
use Rattle.occ_check_meaning.specs.Unfolding.{Procedures, procedure}
use Rattle.occ_check_lines.specs.declared.fault.CheckFault.{CheckFault}
use Rattle.occ_check_lines.specs.declared.fault.CheckFault.TheVariants.{Unknown, Twice, WrongKind, WrongType, NotConstant, BadCount, Subscript, Protocol, Tag, Arguments, Overlap, ListTarget, NoMain, TooLarge, Memory}
use Rattle.occ_check_lines.specs.declared.known.Access.{Access}
use Rattle.occ_check_lines.specs.declared.known.Access.TheVariants as accesses
use Rattle.occ_check_lines.specs.declared.known.Evaluated.{Evaluated}
use Rattle.occ_check_lines.specs.declared.known.Evaluated.TheVariants as evaluateds
use Rattle.occ_check_lines.specs.declared.known.Stretch.{Stretch}
use Rattle.occ_check_lines.specs.declared.known.Carried.{Carried}
use Rattle.occ_check_lines.specs.declared.known.Known.{Known}
use Rattle.occ_check_lines.specs.declared.known.Known.TheVariants as knowns
use Rattle.occ_check_lines.specs.declared.numbers.Numbers.{Numbers}
use Rattle.occ_check_lines.specs.declared.typed.Typed.{Typed}
use Rattle.occ_check_lines.specs.declared.typed.Typed.TheVariants as typeds
use Rattle.occ_check_lines.specs.declared.typed.Part.{Part}
use Rattle.occ_check_lines.specs.declared.scope.Binding.{Binding}
use Rattle.occ_check_lines.specs.declared.scope.Binding.TheVariants as bindings
use Rattle.occ_check_lines.specs.declared.scope.Position.{Position}
use Rattle.occ_check_lines.specs.declared.scope.Block.{Block}
use Rattle.occ_check_lines.specs.declared.scope.Scope.{Scope}
use Rattle.occ_check_lines.specs.declared.scope.Looked.{Looked}
use Rattle.occ_check_lines.specs.declared.scope.Looked.TheVariants as lookeds
use Rattle.occ_check_lines.specs.declared.scope.Found.{Found}
use Rattle.occ_check_lines.specs.declared.scope.Found.TheVariants as founds

-- ---- what a function answers

-- nothing is known where memory ran out
abbrev pub Refuses : {Y : Type 0} → CheckFault → Option Y → Type 0
Refuses (Unknown line x) given = given ≡ None
Refuses (Twice line x) given = given ≡ None
Refuses (WrongKind line) given = given ≡ None
Refuses (WrongType line) given = given ≡ None
Refuses (NotConstant line) given = given ≡ None
Refuses (BadCount line) given = given ≡ None
Refuses (Subscript line) given = given ≡ None
Refuses (Protocol line) given = given ≡ None
Refuses (Tag line) given = given ≡ None
Refuses (Arguments line) given = given ≡ None
Refuses (Overlap line) given = given ≡ None
Refuses (ListTarget line) given = given ≡ None
Refuses NoMain given = given ≡ None
Refuses TooLarge given = given ≡ None
Refuses Memory given = ⊤

-- what the code answers is what the definition gives
abbrev pub Gives : {X Y : Type 0} → (X → Y) → Result X CheckFault → Option Y → Type 0
Gives view (Ok x) given = given ≡ Some (view x)
Gives view (Err e) given = Refuses e given

-- the same where it is answered, or lent, as the definition has it
abbrev pub Answers : {X : Type 0} → Result X CheckFault → Option X → Type 0
Answers result given = Gives (λ x. x) result given

abbrev pub Lends : {X : Type 0} → Result (Bor X) CheckFault → Option X → Type 0
Lends result given = Gives (λ x. x.now) result given

-- and where nothing is answered but that the definition lets something be
abbrev pub Allows : {X Y : Type 0} → (Y → Option Y) → Result X CheckFault → Y → Type 0
Allows test result y = Gives (λ x. y) result (test y)

-- what is made is what the definition has
abbrev pub Makes : {X Y E : Type 0} → (X → Y) → Result X E → Y → Type 0
Makes view result y = IfOk result (λ x. view x ≡ y)

-- ---- what names stand for

abbrev pub access_of : Access → S.Access
access_of accesses.Assignable = S.assignable
access_of accesses.Kept = S.kept

abbrev pub evaluated_of : Evaluated → T.Expression
evaluated_of (evaluateds.Value v) = T.Constant v
evaluated_of (evaluateds.Cell line c) = T.Cell c

abbrev pub stretch_of : Stretch → S.Stretch
stretch_of r = record { first = r.first; sizes = r.sizes; subscripts = subscripts (map evaluated_of r.subscripts); left = r.left }

abbrev pub carried_of : Carried → S.Carried
carried_of c = record { declared = c.declared; protocol = c.protocol }

-- a variable with its type, and channels with what they carry, as a name stands for them
abbrev pub variable_known : Primitive × Bor Stretch → Primitive × S.Stretch
variable_known x = (x.0, stretch_of x.1.now)

abbrev pub channels_known : Bor Carried × Bor Stretch → S.Carried × S.Stretch
channels_known x = (carried_of x.0.now, stretch_of x.1.now)

abbrev pub known_of : Known → S.Known
known_of (knowns.Value type v) = S.a_value type v
known_of (knowns.Text bytes) = S.a_string (map pos bytes)
known_of (knowns.Cells access type r) = S.some_cells (access_of access) type (stretch_of r)
known_of (knowns.Channels c r) = S.some_channels (carried_of c) (stretch_of r)
known_of (knowns.Protocol c) = S.a_protocol (carried_of c)

abbrev pub binding_of : Binding → S.Binding U.Procedure
binding_of (bindings.Known k) = S.known (known_of k)
binding_of (bindings.Procedure p) = S.proc (procedure p.line (formals_of p.formals.now) (process_of p.body.now))

-- ---- scopes

-- names of a block before a scope, each before those that are declared before it
abbrev pub pairs_before : List (List ℕ × Binding) → Procedures → Procedures
pairs_before [] sc = sc
pairs_before (e ∷ es) sc = pairs_before es ((e.0, binding_of e.1) ∷ sc)

-- what is in scope at a position, where the last block stands first
abbrev pub scope_in : List Block → Position → Procedures
scope_in [] at = []
scope_in (f ∷ older) at = if nat_eq at.blocks (suc (length older)) then pairs_before (take at.seen f.names.entries) (scope_in older f.outer) else scope_in older at

abbrev pub scope_of : Scope → Procedures
scope_of s = scope_in (reverse s.blocks.now) s.at

-- what names stand for there, but for procedures
abbrev pub names_in : Scope → S.Names
names_in s = S.names_of (scope_of s)

-- ---- expressions

abbrev pub subscripts_of : List TermExpr → T.Subscripts
subscripts_of es = subscripts (map expression_of es)

-- one value with its type
abbrev pub one_value : Primitive × TermExpr → Primitive × T.Expression
one_value x = (x.0, expression_of x.1)

abbrev pub typed_of : Typed → E.Typed
typed_of (typeds.Single type e) = E.single type (expression_of e)
typed_of (typeds.Whole type sizes a) = E.whole type sizes (array_of a)

abbrev pub part_of : Part → S.Stretch
part_of p = record { first = p.place.first; sizes = p.place.sizes; subscripts = subscripts (map expression_of p.place.subscripts); left = p.left }

-- a variable, or a part of one, with its type
abbrev pub variable_part : Primitive × Part → Primitive × S.Stretch
variable_part x = (x.0, part_of x.1)

-- ---- numbers

abbrev pub numbers_of : Numbers → N.Numbers
numbers_of n = record { cells = n.cells.items; channels = n.channels.items; processes = n.processes; protocols = length n.protocols.items; nodes = n.nodes }

-- a step that gives out numbers leaves those that the definition gives
abbrev pub Counts : {X : Type 0} → Result X CheckFault → Numbers → Option N.Numbers → Type 0
Counts (Ok x) after given = given ≡ Some (numbers_of after)
Counts (Err e) after given = Refuses e given

-- something of this size is counted, behind so many nodes
abbrev pub TakesRoom : {X : Type 0} → Result X CheckFault → (old new : Numbers) → ℕ → Size → Type 0
TakesRoom result old new depth size = Counts result new (N.room depth size (numbers_of old))

-- .. whatever its tag is
abbrev pub TakesRoomAnyTag : {X A : Type 0} → Result X CheckFault → (old new : Numbers) → ℕ → (A → Size) → Type 0
TakesRoomAnyTag {A = A} result old new depth size = (tag : A) → TakesRoom result old new depth (size tag)

-- and what it answers with them
abbrev pub Unfolds : {X Y : Type 0} → (X → Y) → Result X CheckFault → Numbers → Option (Y × N.Numbers) → Type 0
Unfolds view (Ok x) after given = given ≡ Some (view x, numbers_of after)
Unfolds view (Err e) after given = Refuses e given

-- the same where it answers what the definition has, as it is
abbrev pub itself : {X : Type 0} → X → X
itself x = x

-- ---- look-ups

-- what the first names of a block hide: the binding with the number of those before it, or nothing
abbrev pub IsSeen : ℕ → List (List ℕ × Binding) → List ℕ → Option (Bor Binding × ℕ) → Type 0
IsSeen seen es x None = (sc : Procedures) → U.found (pairs_before (take seen es) sc) x ≡ U.found sc x
IsSeen seen es x (Some (b, i)) = (sc : Procedures) → U.found (pairs_before (take seen es) sc) x ≡ Some (binding_of b.now, pairs_before (take i es) sc)

-- a binding with its position
abbrev pub IsBound : S.Binding U.Procedure → Position → Found → Type 0
IsBound b at (founds.Known k) = b ≡ S.known (known_of k.now)
IsBound b at (founds.Procedure p place) = (b ≡ binding_of (bindings.Procedure p)) × (place ≡ at)

-- what a look-up answers is what is found
abbrev pub IsFound : List Block → Option (S.Binding U.Procedure × Procedures) → Option Found → Type 0
IsFound blocks there None = there ≡ None
IsFound blocks there (Some (founds.Known k)) = (outer : Procedures) × (there ≡ Some (S.known (known_of k.now), outer))
IsFound blocks there (Some (founds.Procedure p at)) = there ≡ Some (binding_of (bindings.Procedure p), scope_in blocks at)

-- all that is in scope, where the last block stands first
abbrev pub innermost : List Block → Procedures
innermost [] = []
innermost (f ∷ older) = pairs_before f.names.entries (scope_in older f.outer)

-- a block with one name more, which is the innermost of its names
abbrev pub IsBlockWith : Block → List ℕ → Binding → Block → Type 0
IsBlockWith before x b after = (sc : Procedures) → pairs_before after.names.entries sc ≡ (x, binding_of b) ∷ pairs_before before.names.entries sc

-- no name of a block is this one
abbrev pub Lacks : List ℕ → List (List ℕ × Binding) → Type 0
Lacks x [] = ⊤
Lacks x (e ∷ es) = (bytes_eq x e.0 ≡ false) × Lacks x es

-- what is found among blocks, or behind the innermost of them
abbrev pub IsLooked : Option (S.Binding U.Procedure × Procedures) → List Block → List ℕ → Looked → Type 0
IsLooked there blocks x (lookeds.Found f) = IsFound blocks there (Some f)
IsLooked there blocks x (lookeds.Outside s) = there ≡ U.found (scope_of s) x
IsLooked there blocks x lookeds.Nowhere = there ≡ None

abbrev pub IsFewer : ℕ → Looked → Type 0
IsFewer n (lookeds.Found f) = ⊤
IsFewer n (lookeds.Outside s) = length s.blocks.now < n
IsFewer n lookeds.Nowhere = ⊤

-- the blocks outside are the first of all
abbrev pub IsPart : List Block → Looked → Type 0
IsPart blocks (lookeds.Found f) = ⊤
IsPart blocks (lookeds.Outside s) = (rest : List Block) × (blocks ≡ s.blocks.now ++ rest)
IsPart blocks lookeds.Nowhere = ⊤

-- a procedure that is found stands in one of so many blocks
abbrev pub IsWithin : ℕ → Found → Type 0
IsWithin n (founds.Known k) = ⊤
IsWithin n (founds.Procedure p at) = at.blocks ≤ n

abbrev pub AreWithin : ℕ → Looked → Type 0
AreWithin n (lookeds.Found f) = IsWithin n f
AreWithin n (lookeds.Outside s) = ⊤
AreWithin n lookeds.Nowhere = ⊤
