-- What comes into scope at a call.
-- Manual: scope; procedures.
use Rattle.std.specs.Prelude.{List, None, Option, Result, Some, reverse, ℕ}
use Rattle.occ_tree_grammar.specs.Lines.Views as lines
use Rattle.occ_tree_grammar.specs.Lines.Trees.{Actuals, Formals}
use Rattle.occ_tree_grammar.specs.Many.{◌>>=◌}
use Rattle.occ_tree_grammar.specs.Processes.Views.{process_of}
use Rattle.occ_tree_grammar.specs.declared.tree.expr.Expr.{Expr}
use Rattle.occ_tree_grammar.specs.declared.tree.line.OneOrMore.{OneOrMore}
use Rattle.occ_check_meaning.specs.Calls as C
use Rattle.occ_check_meaning.specs.Declarations as D
use Rattle.occ_check_meaning.specs.Scope as S
use Rattle.occ_check_meaning.specs.Unfolding as U
use Rattle.occ_check_meaning.specs.Numbers.{Numbers}
use Rattle.occ_check_meaning.specs.Unfolding.{Procedures, procedure}
use Rattle.occ_check_lines.specs.View.{Gives, names_in, numbers_of, scope_in, scope_of}
use Rattle.occ_check_lines.specs.declared.context.Context.{Context}
use Rattle.occ_check_lines.specs.declared.fault.CheckFault.{CheckFault}
use Rattle.occ_check_lines.specs.declared.numbers.Numbers.{Numbers as CodeNumbers}
use Rattle.occ_check_lines.specs.declared.scope.Block.{Block}
use Rattle.occ_check_lines.specs.declared.scope.Position.{Position}
use Rattle.occ_check_lines.specs.declared.scope.Procedure.{Procedure}
use Rattle.occ_check_lines.specs.declared.scope.Scope.{Scope}
use Rattle.occ_check_lines.specs.Declaration.{Opens}
use Rattle.occ_check_lines.specs.declared.declaration.Opened.{Opened}

abbrev pub procedure_of : Procedure → U.Procedure
procedure_of p = procedure p.line (lines.formals_of p.formals.now) (process_of p.body.now)

-- a PROC with what is in scope where it stands
abbrev pub procedure_in : List Block → Procedure × Position → U.Procedure × Procedures
procedure_in blocks x = (procedure_of x.0, scope_in (reverse blocks) x.1)

-- (refusal: wrong kind) a PROC that is found
abbrev pub as_procedure : S.Binding U.Procedure × Procedures → Option (U.Procedure × Procedures)
as_procedure (S.known k, outer) = None
as_procedure (S.proc p, outer) = Some (p, outer)

-- (refusal: a name that stands for nothing)
abbrev pub procedure_found : Procedures → S.Name → Option (U.Procedure × Procedures)
procedure_found sc f = U.found sc f >>= as_procedure

-- what the formals stand for, under the names of the PROC's declaration and those of the caller
abbrev pub formals_bound : S.Names → ℕ → Formals → S.Names → ℕ → ℕ → Actuals → Numbers → Option D.Opened
formals_bound outer declared fs ns line depth es n = C.formals_of outer declared fs >>= λ ws. C.bound ns line depth ws es n

-- the same of a PROC whose declaration stands in the outer scope, and of a call that is read in a context
abbrev pub formals_given : Scope → Procedure → Context → ℕ → Option (OneOrMore Expr) → CodeNumbers → Option D.Opened
formals_given outer p c depth es n =
    formals_bound (names_in outer) p.line (lines.formals_of p.formals.now) (names_in c.scope) c.line depth (lines.actuals_of es) (numbers_of n)

-- the PROC that a name stands for in a scope, and the position of what it sees
abbrev pub FindsProcedure : Result (Procedure × Position) CheckFault → Scope → S.Name → Type 0
FindsProcedure result s f = Gives (procedure_in s.blocks.now) result (procedure_found (scope_of s) f)

-- what is opened is what the formals of a PROC stand for that is declared in the outer scope
abbrev pub Binds : Result Opened CheckFault → (old new : CodeNumbers) → (outer : Scope) → Procedure → Context → ℕ → Option (OneOrMore Expr) → Type 0
Binds result old new outer p c depth es = Opens result new (formals_given outer p c depth es old)
