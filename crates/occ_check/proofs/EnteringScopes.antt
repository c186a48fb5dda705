-- What comes into scope, as the definitions have it.
use Rattle.std.proofs.Common.{◌≡◌, ◌∙◌, ◌<◌, ◌≤◌, ◌+◌, ℕ, List, [], ◌∷◌, ◌++◌, Bool, true, false, Option, Some, None, ap, refl, subst, sym, map, drop, length, get_or, option_map, reverse, arith, nat_le, ◌&&◌}
use Rattle.std.specs.Prelude.{IfErr, IfOk, OnOk, Result, Ok, Err}
use Rattle.std.proofs.lemmas.Bool.{leb-true}
use Rattle.std.proofs.lemmas.List.{drop_more, append-nil, append_assoc, map-append}
use Rattle.std.proofs.Math.ListN.{drop_of_length-le}
use Rattle.occ_tree_grammar.specs.Expressions.Trees as trees
use Rattle.occ_tree_grammar.specs.Many.{◌>>=◌}
use Rattle.occ_tree_grammar.specs.Lines.Trees as L
use Rattle.occ_tree_grammar.specs.Lines.Heads.{call}
use Rattle.occ_tree_grammar.specs.Lines.Views as lines
use Rattle.occ_tree_grammar.specs.Processes.Trees.{process, Node, decls}
use Rattle.occ_tree_grammar.specs.Processes.Views.{decl_of, item_of, process_of}
use Rattle.occ_tree_grammar.specs.Processes.Views as processes
use Rattle.occ_tree_grammar.specs.declared.tree.expr.Expr.{Expr}
use Rattle.occ_tree_grammar.specs.declared.tree.line.Sort.{Sort}
use Rattle.occ_tree_grammar.specs.declared.tree.process.Decl.{Decl}
use Rattle.occ_tree_grammar.specs.declared.tree.process.Decl.TheVariants as declTrees
use Rattle.occ_tree_grammar.specs.declared.tree.process.Process.{Process}
use Rattle.occ_tree_grammar.specs.declared.tree.process.Item.{Item}
use Rattle.occ_tree_grammar.specs.declared.tree.process.Item.TheVariants as itemTrees
use Rattle.occ_term.specs.declared.primitive.Primitive.TheVariants.{Int}
use Rattle.occ_term.specs.Sizes.{Size, no_size, size_of_expression, size_of_replicator}
use Rattle.occ_term.specs.View.{declarations_of}
use Rattle.occ_term.specs.declared.expression.Declaration.{Declaration as DeclarationCode}
use Rattle.occ_term.specs.Terms as T
use Rattle.occ_term.specs.Terms.{Declaration, Term, replicator}
use Rattle.occ_check_meaning.specs.Actions.{headed, opening}
use Rattle.occ_check_meaning.specs.Calls.{formals_of, bound}
use Rattle.occ_check_meaning.specs.Declarations as D
use Rattle.occ_check_meaning.specs.Declarations.{indexed, opened}
use Rattle.occ_check_meaning.specs.Expressions.{typed_as}
use Rattle.occ_check_meaning.specs.Numbers.{Numbers, more_cells, room}
use Rattle.occ_check_meaning.specs.Performing.{acted, Calling, calling, Entered, entered, within_names}
use Rattle.occ_check_meaning.specs.Recursion.{all_declared, declared, item_declared, unfolded}
use Rattle.occ_check_meaning.specs.Scope.{as_proc, Binding, Known, known, keep, Name, Names, names_of, Pairs, proc, Scope, within}
use Rattle.occ_check_meaning.specs.Unfolding.{found, Procedure, procedure, Procedures}
use Rattle.occ_check_meaning.specs.Meant.{meaning_of, meant}
use Rattle.occ_check_meaning.proofs.Names.{found_means, meant_within, means_of, same_names}
use Rattle.occ_check_meaning.proofs.Steps.{bind_some, some_is}
use Rattle.occ_check.specs.Entering.{as_procedure, formals_bound, procedure_found, procedure_in}
use Rattle.occ_check_lines.specs.Declaration.{opened_of, pair_of, pairs_of}
use Rattle.occ_check.specs.Progress.{Enters, innermost_at, meant_innermost, weight_at}
use Rattle.occ_check_lines.specs.View.{Refuses, known_of, names_in, numbers_of, scope_in, scope_of}
use Rattle.occ_check_lines.specs.declared.fault.CheckFault.{CheckFault}
use Rattle.occ_check_lines.specs.declared.scope.Block.{Block}
use Rattle.occ_check_lines.specs.declared.scope.Position.{Position}
use Rattle.occ_check_lines.specs.declared.scope.Procedure.{Procedure as ProcedureCode}
use Rattle.occ_check_lines.specs.declared.scope.Scope.{Scope as ScopeCode}
use Rattle.occ_check.specs.declared.unfolder.Call.{Call}
use Rattle.occ_check.specs.declared.unfolder.Unfolder.{Unfolder}
use Rattle.occ_check_lines.specs.declared.declaration.Named.{Named}
use Rattle.occ_check_lines.specs.declared.declaration.Opened.{Opened as OpenedCode}
use Rattle.occ_check_lines.specs.declared.numbers.Numbers.{Numbers as NumbersCode}
use Rattle.occ_check_lines.specs.declared.fault.CheckFault.TheVariants.{Memory}
use Rattle.occ_check.specs.Weights.{decl_size, decls_size, item_size, node_size, weight}
use Rattle.occ_check_lines.proofs.Refusals.{then_then}
use Rattle.occ_check.proofs.Weights.{lighter}

-- ---- scopes of the code

pub scope_is : (s : ScopeCode) (fs : List Block) (at : Position) → s.blocks.now ≡ fs → s.at ≡ at → scope_of s ≡ scope_in (reverse fs) at
scope_is s fs at blocks place = λ i. scope_in (reverse (blocks i)) (place i)

pub names_are : (s : ScopeCode) (sc : Procedures) → scope_of s ≡ sc → names_in s ≡ names_of sc
names_are s sc e = ap (λ (x : Procedures). names_of x) e

-- ---- names

-- names that stand declared are entered
pub names_entered : (f : Names → Option D.Opened) (sc inside : Procedures) (ns : Names) (bs : Pairs) (heads : List Declaration) (n : Numbers)
    → ns ≡ names_of sc → inside ≡ within bs sc → f ns ≡ Some (opened bs heads n)
    → within_names (meant sc) (f (names_of (meant sc))) ≡ Some (entered (meant inside) heads n)
names_entered f sc inside ns bs heads n names scope e =
    ap (λ (m : Names). within_names (meant sc) (f m)) (same_names sc ∙ sym names) ∙ ap (within_names (meant sc)) e
    ∙ ap (λ (s : Scope Calling). Some (entered s heads n)) (sym (meant_within bs sc) ∙ ap meant (sym scope))

pub names_refused : (f : Names → Option D.Opened) (sc : Procedures) (ns : Names) → ns ≡ names_of sc → f ns ≡ None → within_names (meant sc) (f (names_of (meant sc))) ≡ None
names_refused f sc ns names e = ap (λ (m : Names). within_names (meant sc) (f m)) (same_names sc ∙ sym names) ∙ ap (within_names (meant sc)) e

-- the last name of a list is the outermost
next_outside : (bs : Pairs) (b : Name × Known) (sc : Procedures) → within (bs ++ b ∷ []) sc ≡ within bs ((b.0, known b.1) ∷ sc)
unfolding within
next_outside [] b sc = refl
next_outside (a ∷ bs) b sc = ap (λ (s : Procedures). (a.0, known a.1) ∷ s) (next_outside bs b sc)

pub next_name : (xs rest : List Named) (x : Named) (before now : Procedures) → xs ≡ rest ++ x ∷ [] → now ≡ (x.name, known (known_of x.known)) ∷ before
    → within (pairs_of rest) now ≡ within (pairs_of xs) before
next_name xs rest x before now last one =
    ap (within (pairs_of rest)) one ∙ sym (next_outside (pairs_of rest) (pair_of x) before)
    ∙ ap (λ (bs : Pairs). within bs before) (sym (ap pairs_of last ∙ map-append pair_of rest (x ∷ [])))

pub no_name : (xs : List Named) (now all : Procedures) → xs ≡ [] → within (pairs_of xs) now ≡ all → now ≡ all
unfolding within
no_name xs now all none e = ap (λ (l : List Named). within (pairs_of l) now) (sym none) ∙ e

-- names that are entered, if memory is there
pub enters_names : (r : Result (List DeclarationCode) CheckFault) (after : Unfolder) (sc : Procedures) (f : Names → Option D.Opened) (ns : Names) (x : OpenedCode) (n : NumbersCode)
    → ns ≡ names_of sc → f ns ≡ Some (opened_of x n) → OnOk r (innermost_at after ≡ within (pairs_of x.names.items) sc) → IfOk r (λ heads. heads ≡ x.heads) → after.numbers ≡ n
    → IfErr r (λ e. e ≡ Memory) → Enters r after (within_names (meant sc) (f (names_of (meant sc))))
enters_names (Ok heads) after sc f ns x n names e scope same numbers memory =
    names_entered f sc (innermost_at after) ns (pairs_of x.names.items) (declarations_of x.heads) (numbers_of n) names scope e
    ∙ (λ i. Some (entered (meant_innermost after) (declarations_of (sym same i)) (numbers_of (sym numbers i))))
enters_names (Err fault) after sc f ns x n names e scope same numbers memory =
    subst (λ (g : CheckFault). Refuses g (within_names (meant sc) (f (names_of (meant sc))))) (sym memory) tt

-- ---- declarations, one after the other

-- what is set, before what the rest sets
abbrev pub after_these : List Declaration → Option (Entered Calling) → Option (Entered Calling)
after_these heads rest = rest >>= λ r. Some (entered r.scope (heads ++ r.heads) r.numbers)

-- what is entered so far, and this is what the whole gives
pub record Declares (given : Option (Entered Calling)) (depth : ℕ) (ds : List Decl) (i : ℕ) (heads : List Declaration) (sc : Scope Calling) (n : Numbers) : Type 0 where
  pub is : given ≡ after_these heads (all_declared (decls (map decl_of (drop i ds))) sc depth n)

these_and_those : (a b : List Declaration) (rest : Option (Entered Calling)) → after_these a (after_these b rest) ≡ after_these (a ++ b) rest
these_and_those a b None = refl
these_and_those a b (Some r) = λ i. Some (entered r.scope (sym (append_assoc a b r.heads) i) r.numbers)

nothing_before : (rest : Option (Entered Calling)) → rest ≡ after_these [] rest
nothing_before None = refl
nothing_before (Some r) = refl

pub declares_first : (depth : ℕ) (ds : List Decl) (heads : List Declaration) (sc : Scope Calling) (n : Numbers) → heads ≡ []
    → Declares (all_declared (decls (map decl_of ds)) sc depth n) depth ds 0 heads sc n
declares_first depth ds heads sc n none =
    let given = all_declared (decls (map decl_of ds)) sc depth n in
    record { is = nothing_before given ∙ ap (λ (hs : List Declaration). after_these hs given) (sym none) }

module _ {given : Option (Entered Calling)} {depth : ℕ} {ds : List Decl} {i : ℕ} {heads : List Declaration} {sc : Scope Calling} {n : Numbers} (so_far : Declares given depth ds i heads sc n) where
  module _ (d : Decl) (below : i < length ds) (is : d ≡ get_or ds i d) where
    step : given ≡ after_these heads (declared (decl_of d) sc depth n >>= λ x. after_these x.heads (all_declared (decls (map decl_of (drop (i + 1) ds))) x.scope depth x.numbers))
    unfolding all_declared
    step = so_far.is ∙ ap (λ (l : List Decl). after_these heads (all_declared (decls (map decl_of l)) sc depth n)) (drop_more ds i d below ∙ ap (λ (y : Decl). y ∷ drop (i + 1) ds) (sym is))

    pub declares_refused : declared (decl_of d) sc depth n ≡ None → given ≡ None
    declares_refused e = step ∙ ap (λ o. after_these heads (o >>= λ x. after_these x.heads (all_declared (decls (map decl_of (drop (i + 1) ds))) x.scope depth x.numbers))) e

    pub declares_next : (more all : List Declaration) (inside : Scope Calling) (m : Numbers) → declared (decl_of d) sc depth n ≡ Some (entered inside more m) → all ≡ heads ++ more
        → Declares given depth ds (i + 1) all inside m
    declares_next more all inside m e both =
        record {
          is =
              step ∙ ap (λ o. after_these heads (o >>= λ x. after_these x.heads (all_declared (decls (map decl_of (drop (i + 1) ds))) x.scope depth x.numbers))) e
              ∙ these_and_those heads more (all_declared (decls (map decl_of (drop (i + 1) ds))) inside depth m)
              ∙ ap (λ (hs : List Declaration). after_these hs (all_declared (decls (map decl_of (drop (i + 1) ds))) inside depth m)) (sym both);
        }

  pub declares_last : length ds ≤ i → given ≡ Some (entered sc heads n)
  unfolding all_declared
  declares_last end =
      so_far.is ∙ ap (λ (l : List Decl). after_these heads (all_declared (decls (map decl_of l)) sc depth n)) (drop_of_length-le ds end)
      ∙ (λ k. Some (entered sc (append-nil heads k) n))

-- what is entered so far weighs no more than what it is read from
pub one_lighter : (ds : List Decl) (i : ℕ) (d : Decl) (before now all : ℕ) → i < length ds → d ≡ get_or ds i d → now ≤ decl_size (decl_of d) + before
    → before + decls_size (decls (map decl_of (drop i ds))) ≤ all → now + decls_size (decls (map decl_of (drop (i + 1) ds))) ≤ all
unfolding decls_size
one_lighter ds i d before now all below is more so_far =
    let rest = decls_size (decls (map decl_of (drop (i + 1) ds))) in
    let e : decls_size (decls (map decl_of (drop i ds))) ≡ (decl_size (decl_of d) + rest) + 1 =
    ap (λ (l : List Decl). decls_size (decls (map decl_of l))) (drop_more ds i d below ∙ ap (λ (y : Decl). y ∷ drop (i + 1) ds) (sym is)) in
    omega (arith, e, more, so_far)

-- ---- the declarations of the code

pub heavier : {X : Type 0} (r : Result X CheckFault) (w a b : ℕ) → a ≤ b → OnOk r (w ≤ a) → OnOk r (w ≤ b)
heavier (Ok x) w a b more h = omega (arith, more, h)
heavier (Err e) w a b more h = tt

pub names_form : (d : Decl) (line : ℕ) (es : _) (sort : _) (xs : _) (sizes : _) (of : Sort) → d ≡ declTrees.Names line es sort xs → sizes ≡ es.items → of ≡ sort.value → (sc : Scope Calling) (depth : ℕ) (n : Numbers)
    → declared (decl_of d) sc depth n
    ≡ within_names sc (D.names_declared (names_of sc) line depth (trees.expressions (map trees.expression_of sizes)) (lines.sort_of of) (xs.first ∷ xs.others.items) n)
unfolding decl_of declared
names_form d line es sort xs sizes of is same of_sort sc depth n =
    ap (λ e. declared (decl_of e) sc depth n) is
    ∙ ap (λ (l : List Expr). within_names sc
    (D.names_declared (names_of sc) line depth (trees.expressions (map trees.expression_of l)) (lines.sort_of sort.value) (xs.first ∷ xs.others.items) n)) (sym same)
    ∙ ap (λ (s : Sort). within_names sc
    (D.names_declared (names_of sc) line depth (trees.expressions (map trees.expression_of sizes)) (lines.sort_of s) (xs.first ∷ xs.others.items) n)) (sym of_sort)

pub item_form : (d : Decl) (it : Item) → d ≡ declTrees.Item it → (sc : Scope Calling) (depth : ℕ) (n : Numbers) → declared (decl_of d) sc depth n ≡ item_declared (item_of it) sc depth n
unfolding decl_of declared
item_form d it is sc depth n = ap (λ e. declared (decl_of e) sc depth n) is

pub item_within : (d : Decl) (it : Item) → d ≡ declTrees.Item it → decl_size (decl_of d) ≡ item_size (item_of it) + 1
unfolding decl_of decl_size
item_within d it is = ap (λ e. decl_size (decl_of e)) is

pub value_form : (it : Item) (line : ℕ) (type : _) (name : Name) (e : _) (value : Expr) → it ≡ itemTrees.Value line type name e → value ≡ e.value → (sc : Scope Calling) (depth : ℕ) (n : Numbers)
    → item_declared (item_of it) sc depth n ≡ within_names sc (D.value_declared (names_of sc) line depth (option_map lines.value_type_of type) name (trees.expression_of value) n)
unfolding item_of item_declared
value_form it line type name e value is of_value sc depth n =
    ap (λ i. item_declared (item_of i) sc depth n) is
    ∙ ap (λ (v : Expr). within_names sc (D.value_declared (names_of sc) line depth (option_map lines.value_type_of type) name (trees.expression_of v) n)) (sym of_value)

pub protocol_form : (it : Item) (p : _) → it ≡ itemTrees.Protocol p → (sc : Scope Calling) (depth : ℕ) (n : Numbers)
    → item_declared (item_of it) sc depth n ≡ within_names sc (D.protocol_declared (names_of sc) (processes.protocol_of p) n)
unfolding item_of item_declared
protocol_form it p is sc depth n = ap (λ i. item_declared (item_of i) sc depth n) is

pub proc_form : (it : Item) (line : ℕ) (x : _) (fs : _) (body : _) (end_line : ℕ) → it ≡ itemTrees.Proc line x fs body end_line → (sc inside : Procedures)
    → inside ≡ (x, proc (procedure line (lines.formals_of fs) (process_of body))) ∷ sc → (depth : ℕ) (n : Numbers)
    → item_declared (item_of it) (meant sc) depth n ≡ Some (entered (meant inside) [] n)
unfolding item_of item_declared meant
proc_form it line x fs body end_line is sc inside e depth n =
    ap (λ i. item_declared (item_of i) (meant sc) depth n) is ∙ ap (λ (s : Procedures). Some (entered (meant s) [] n)) (sym e)

pub proc_within : (it : Item) (line : ℕ) (x : _) (fs : _) (body : _) (end_line : ℕ) → it ≡ itemTrees.Proc line x fs body end_line → (sc inside : Procedures)
    → inside ≡ (x, proc (procedure line (lines.formals_of fs) (process_of body))) ∷ sc → weight inside ≤ item_size (item_of it) + weight sc
unfolding item_of item_size weight
proc_within it line x fs body end_line is sc inside e =
    let a : item_size (item_of it) ≡ node_size (process_of body) + 2 = ap (λ i. item_size (item_of i)) is in
    let b : weight inside ≡ (node_size (process_of body) + weight sc) + 1 = ap weight e in
    omega (arith, a, b)

-- ---- calls

pub found_here : (s : ScopeCode) (fs : List Block) (at : Position) (x : ProcedureCode × Position) (f : Name) → s.blocks.now ≡ fs → s.at ≡ at
    → procedure_found (scope_of s) f ≡ Some (procedure_in s.blocks.now x) → procedure_found (scope_in (reverse fs) at) f ≡ Some (procedure_in fs x)
found_here s fs at x f blocks place e =
    ap (λ (sc : Procedures). procedure_found sc f) (sym (scope_is s fs at blocks place)) ∙ e ∙ ap (λ (l : List Block). Some (procedure_in l x)) blocks

pub called_falls : (r : Result Call CheckFault) (u : Unfolder) (body : Process) (w all : ℕ) → node_size (process_of body) + w < all → IfOk r (λ c. c.body.now ≡ body)
    → IfOk r (λ c. weight_at u c.inside ≡ w) → IfOk r (λ c. node_size (process_of c.body.now) + weight_at u c.inside < all)
called_falls (Ok c) u body w all less same weighs =
    let a : node_size (process_of c.body.now) ≡ node_size (process_of body) = ap (λ (p : Process). node_size (process_of p)) same in
    omega (arith, less, a, weighs)
called_falls (Err e) u body w all less same weighs = tt

module _ (sc outer : Procedures) (line declared depth deep : ℕ) (fs : L.Formals) (body : Node process) (es : L.Actuals) (n : Numbers) (ns os : Names)
    (is_ns : ns ≡ names_of sc) (is_os : os ≡ names_of outer) (next : deep ≡ depth + 1) where
  abbrev rest_of : D.Opened → Option (Term × Numbers)
  rest_of b = opening b.heads depth b.numbers >>= λ o. unfolded body (within b.names (meant outer)) o.0 o.1 >>= λ t. Some (headed b.heads t.0, t.1)

  called_is : meaning_of (procedure declared fs body) (meant outer) (names_of (meant sc)) line depth es n ≡ (formals_bound os declared fs ns line deep es n >>= rest_of)
  called_is =
      ap (λ (x : Names). calling x declared fs (λ bs. unfolded body (within bs (meant outer))) (names_of (meant sc)) line depth es n) (same_names outer ∙ sym is_os)
      ∙ ap (λ (x : Names). calling os declared fs (λ bs. unfolded body (within bs (meant outer))) x line depth es n) (same_names sc ∙ sym is_ns)
      ∙ sym (then_then (formals_of os declared fs) (λ ws. bound ns line (depth + 1) ws es n) rest_of)
      ∙ ap (λ k. formals_bound os declared fs ns line k es n >>= rest_of) (sym next)

  pub call_refused : formals_bound os declared fs ns line deep es n ≡ None → meaning_of (procedure declared fs body) (meant outer) (names_of (meant sc)) line depth es n ≡ None
  call_refused e = called_is ∙ ap (λ o. o >>= rest_of) e

  pub call_bound : (bs : Pairs) (heads : List Declaration) (m : Numbers) (inside : Procedures) → formals_bound os declared fs ns line deep es n ≡ Some (opened bs heads m)
      → inside ≡ within bs outer
      → meaning_of (procedure declared fs body) (meant outer) (names_of (meant sc)) line depth es n
      ≡ (opening heads depth m >>= λ o. unfolded body (meant inside) o.0 o.1 >>= λ t. Some (headed heads t.0, t.1))
  call_bound bs heads m inside e scope =
      called_is ∙ ap (λ o. o >>= rest_of) e
      ∙ ap (λ (s : Scope Calling). opening heads depth m >>= λ o. unfolded body s o.0 o.1 >>= λ t. Some (headed heads t.0, t.1)) (sym (meant_within bs outer) ∙ ap meant (sym scope))

-- ---- the PROC that a call names

is_found : (there : Option (Binding Procedure × Procedures)) (p : Procedure) (outer : Procedures) → (there >>= as_procedure) ≡ Some (p, outer) → there ≡ Some (proc p, outer)
is_found None p outer e = absurd cc
is_found (Some (known k, s)) p outer e = absurd cc
is_found (Some (proc q, s)) p outer e = ap (λ (x : Procedure × Procedures). Some (proc x.0, x.1)) (some_is (q, s) (p, outer) e)

module _ (sc : Procedures) (f : Name) (line depth : ℕ) (es : L.Actuals) (n : Numbers) where
  abbrev acted_by : Option (Binding Calling) → Option (Term × Numbers)
  acted_by there = there >>= λ b. as_proc b >>= λ c. c (names_of (meant sc)) line depth es n

  acted_is : acted line (call f es) (meant sc) depth n ≡ acted_by (means_of (found sc f))
  acted_is = ap acted_by (found_means sc f)

  pub no_procedure : procedure_found sc f ≡ None → acted line (call f es) (meant sc) depth n ≡ None
  no_procedure e = acted_is ∙ by (found sc f) e
    where
      by : (there : Option (Binding Procedure × Procedures)) → (there >>= as_procedure) ≡ None → acted_by (means_of there) ≡ None
      by None e = refl
      by (Some (known k, s)) e = refl
      by (Some (proc q, s)) e = absurd cc

  pub a_procedure : (p : Procedure) (outer : Procedures) → procedure_found sc f ≡ Some (p, outer)
      → acted line (call f es) (meant sc) depth n ≡ meaning_of p (meant outer) (names_of (meant sc)) line depth es n
  a_procedure p outer e = acted_is ∙ ap (λ there. acted_by (means_of there)) (is_found (found sc f) p outer e)

pub called_lighter : (sc : Procedures) (f : Name) (line : ℕ) (fs : L.Formals) (body : Node process) (outer : Procedures) → procedure_found sc f ≡ Some (procedure line fs body, outer)
    → node_size body + weight outer < weight sc
called_lighter sc f line fs body outer e = lighter sc f line fs body outer (is_found (found sc f) (procedure line fs body) outer e)

-- ---- indices

is_kept : {A : Type 0} (test : Bool) (x y : A) → keep test x ≡ Some y → test ≡ true
is_kept true x y e = refl
is_kept false x y e = absurd cc

and_first : (a b : Bool) → (a && b) ≡ true → a ≡ true
and_first true b e = refl
and_first false b e = absurd cc

room_within : (depth : ℕ) (size : Size) (n m : Numbers) → room depth size n ≡ Some m → depth + size.depth ≤ 200
room_within depth size n m e =
    leb-true (depth + size.depth) 200 (and_first (nat_le (depth + size.depth) 200) (nat_le (n.nodes + size.nodes) 100000)
    (is_kept (nat_le (depth + size.depth) 200 && nat_le (n.nodes + size.nodes) 100000) (record n { nodes = n.nodes + size.nodes }) m e))

-- each expression is a node
one_deep : (e : T.Expression) → 1 ≤ (size_of_expression e).depth
one_deep (T.Constant v) = omega arith
one_deep (T.Cell c) = omega arith
one_deep (T.Component p) = omega arith
one_deep (T.Letter line text e) = omega arith
one_deep (T.Binary op type line a b) = omega arith
one_deep (T.Unary op type line a) = omega arith
one_deep (T.And a b) = omega arith
one_deep (T.Or a b) = omega arith
one_deep (T.Conversion to line a) = omega arith

pub index_within : (ns : Names) (line depth : ℕ) (r : L.Replicator) (n : Numbers) (i : D.Indexed) → indexed ns line depth r n ≡ Some i → depth < 200
index_within ns line depth (L.each x base count) n i e =
    let a = bind_some (typed_as ns line Int base) _ i e in
    let b = bind_some (typed_as ns line Int count) _ i a.2 in
    let c = bind_some (more_cells Int x [] n) _ i b.2 in
    let d = bind_some (room depth (size_of_replicator (replicator line (length n.cells) a.0 b.0) no_size) c.0) _ i c.2 in
    let h = room_within depth (size_of_replicator (replicator line (length n.cells) a.0 b.0) no_size) c.0 d.0 d.1 in
    let one = one_deep a.0 in
    omega (arith, h, one)
