-- The options of a CASE, one after the other, each with what is chosen before it.
use Rattle.std.proofs.Common.{◌≡◌, ◌∙◌, ◌+◌, ℕ, List, [], ◌∷◌, ◌++◌, Option, Some, None, refl, ap, sym, map, Vec, Global}
use Rattle.std.specs.declared.boxed.Box.{Box}
use Rattle.occ_tree_grammar.specs.Many.{◌>>=◌}
use Rattle.occ_tree_grammar.specs.Processes.Trees.{nodes, Decls}
use Rattle.occ_tree_grammar.specs.Processes.Views.{process_of, held_decls, selection_of}
use Rattle.occ_tree_grammar.specs.Expressions.Trees.{expression_of as tree_of}
use Rattle.occ_tree_grammar.specs.declared.tree.expr.Expr.{Expr}
use Rattle.occ_tree_grammar.specs.declared.tree.line.OneOrMore.{OneOrMore}
use Rattle.occ_tree_grammar.specs.declared.tree.process.Arm.TheBlock.{hidden-the_row-Decl-0}
use Rattle.occ_tree_grammar.specs.declared.tree.process.Decl.{Decl}
use Rattle.occ_tree_grammar.specs.declared.tree.process.Process.{Process}
use Rattle.occ_check.specs.Weights.{decls_size, node_size}
use Rattle.occ_check_meaning.specs.Performing as P
use Rattle.occ_tree_grammar.specs.declared.tree.process.Selection.{Selection}
use Rattle.occ_tree_grammar.specs.declared.tree.process.Selection.TheVariants as selections
use Rattle.occ_term.specs.Terms as T
use Rattle.occ_term.specs.Terms.{Options, no_options, or_option, or_else}
use Rattle.occ_term.specs.View.{Seen, arm_step, choice_step, reception_step, option_step, term_step, branch_step, variant_step, option_of, options_of}
use Rattle.occ_term.specs.declared.primitive.Primitive.{Primitive}
use Rattle.occ_term.specs.declared.term.Selection.{Selection as TermSelection}
use Rattle.occ_term.specs.declared.term.Arm.TheOpen.{Selection-F}
use Rattle.occ_term.specs.declared.term.Arm.TheFolds.{fold_out-Selection}
use Rattle.occ_check_meaning.specs.Actions.{Chosen, options_then}
use Rattle.occ_check_meaning.specs.Numbers.{Numbers}
use Rattle.occ_check_meaning.specs.Performing.{Calling}
use Rattle.occ_check_meaning.specs.Recursion.{all_declared, all_options, option_unfolded, unfolded}
use Rattle.occ_check_meaning.specs.Scope.{Scope}
use Rattle.occ_check_lines.specs.View.{Refuses}
use Rattle.occ_check_lines.specs.declared.fault.CheckFault.{CheckFault}
use Rattle.occ_check_lines.proofs.Refusing.{then_refused}

-- ---- what an option of the code puts before others

seen : (x : TermSelection) → (y : Seen Selection-F) × (option_of x ≡ option_step y)
seen x = (
  _,
  fold_out-Selection (T.Arms → T.Arms) (T.Choices → T.Choices) T.Reception (T.Options → T.Options) T.Term (T.Branches → T.Branches) (T.Variants → T.Variants)
      arm_step choice_step reception_step option_step term_step branch_step variant_step x,
)

step_first : (y : Seen Selection-F) (a b : Options) → options_then (option_step y a) b ≡ option_step y (options_then a b)
step_first (Selection-F.Among vs ds t) a b = refl
step_first (Selection-F.Otherwise ds t) a b = refl

one_first : (x : TermSelection) (a b : Options) → options_then (option_of x a) b ≡ option_of x (options_then a b)
one_first x a b = let s = seen x in ap (λ f. options_then (f a) b) s.1 ∙ step_first s.0 a b ∙ ap (λ f. f (options_then a b)) (sym s.1)

pub no_more_options : (a : Options) → options_then a no_options ≡ a
no_more_options no_options = refl
no_more_options (or_option vs ds t os) = ap (or_option vs ds t) (no_more_options os)
no_more_options (or_else ds t os) = ap (or_else ds t) (no_more_options os)

grouped : (a b c : Options) → options_then (options_then a b) c ≡ options_then a (options_then b c)
grouped no_options b c = refl
grouped (or_option vs ds t os) b c = ap (or_option vs ds t) (grouped os b c)
grouped (or_else ds t os) b c = ap (or_else ds t) (grouped os b c)

more_options : (xs ys : List TermSelection) → options_of (xs ++ ys) ≡ options_then (options_of xs) (options_of ys)
more_options [] ys = refl
more_options (x ∷ xs) ys = ap (option_of x) (more_options xs ys) ∙ sym (one_first x (options_of xs) (options_of ys))

-- ---- the list, part by part

abbrev pub options_in : Primitive → Scope Calling → ℕ → List Selection → Chosen × Numbers → Option (Options × Numbers)
options_in type sc depth xs s = all_options (nodes (map selection_of xs)) type s.0 sc depth s.1

abbrev pub regrouped : Option ((Options × Chosen) × Numbers) → Option (Options × (Chosen × Numbers))
regrouped o = o >>= λ x. Some (x.0.0, (x.0.1, x.1))

abbrev pub option_in : Primitive → Scope Calling → ℕ → Selection → Chosen × Numbers → Option (Options × (Chosen × Numbers))
option_in type sc depth x s = regrouped (option_unfolded (selection_of x) type s.0 sc depth s.1)

abbrev pub put_options : Options → Options × Numbers → Options × Numbers
put_options a r = (options_then a r.0, r.1)

pub options_step : (type : Primitive) (sc : Scope Calling) (depth : ℕ) (x : Selection) (xs : List Selection) (s : Chosen × Numbers)
    → options_in type sc depth (x ∷ xs) s ≡ (option_in type sc depth x s >>= λ a. options_in type sc depth xs a.1 >>= λ r. Some (put_options a.0 r))
unfolding all_options
options_step type sc depth x xs s = by (option_unfolded (selection_of x) type s.0 sc depth s.1)
  where
    by : (o : Option ((Options × Chosen) × Numbers)) → (o >>= λ x. all_options (nodes (map selection_of xs)) type x.0.1 sc depth x.1 >>= λ r. Some (options_then x.0.0 r.0, r.1))
        ≡ (regrouped o >>= λ a. options_in type sc depth xs a.1 >>= λ r. Some (put_options a.0 r))
    by None = refl
    by (Some x) = refl

pub options_none : (type : Primitive) (sc : Scope Calling) (depth : ℕ) (s : Chosen × Numbers) → options_in type sc depth [] s ≡ Some (no_options, s.1)
unfolding all_options
options_none type sc depth s = refl

pub options_grown : (made : List TermSelection) (one : TermSelection) (all : List TermSelection) (r : Options × Numbers) → all ≡ made ++ one ∷ [] → put_options (options_of all) r ≡ put_options (options_of made) (put_options (option_of one no_options) r)
options_grown made one all r is =
    ap (λ c. (c, r.1)) (ap (λ xs. options_then (options_of xs) r.0) is ∙ ap (λ c. options_then c r.0) (more_options made (one ∷ [])) ∙ grouped (options_of made) (option_of one no_options) r.0)

module _ (type : Primitive) (sc : Scope Calling) (depth : ℕ) (x : Selection) (before : Chosen) (n : Numbers) where
  pub option_refused : (e : CheckFault) → Refuses e (option_unfolded (selection_of x) type before sc depth n) → Refuses e (option_in type sc depth x (before, n))
  option_refused e = then_refused e (option_unfolded (selection_of x) type before sc depth n) (λ o. Some (o.0.0, (o.0.1, o.1)))

  pub option_done : (a : Options) (after : Chosen) (m : Numbers) → option_unfolded (selection_of x) type before sc depth n ≡ Some ((a, after), m) → option_in type sc depth x (before, n) ≡ Some (a, (after, m))
  option_done a after m e = ap regrouped e

-- ---- one option, by its cases

module _ (s : Selection) (ds : Vec Decl Global) (line : ℕ) (es : Box (OneOrMore Expr) Global) (p : Process) (xs : Decls) (is : s ≡ selections.Values ds line es p) (same : xs ≡ held_decls (hidden-the_row-Decl-0 ds)) where
  pub values_size : node_size (selection_of s) ≡ (decls_size xs + (node_size (process_of p) + 1)) + 2
  unfolding selection_of node_size
  values_size = ap (λ x. node_size (selection_of x)) is ∙ ap (λ d. (decls_size d + (node_size (process_of p) + 1)) + 2) (sym same)

  pub values_form : (type : Primitive) (before : Chosen) (sc : Scope Calling) (depth : ℕ) (n : Numbers)
      → option_unfolded (selection_of s) type before sc depth n ≡ P.option_of line (tree_of es.value.first ∷ map tree_of es.value.others.items) (all_declared xs) (unfolded (process_of p)) type before sc depth n
  unfolding selection_of option_unfolded
  values_form type before sc depth n =
      ap (λ x. option_unfolded (selection_of x) type before sc depth n) is
      ∙ ap (λ d. P.option_of line (tree_of es.value.first ∷ map tree_of es.value.others.items) (all_declared d) (unfolded (process_of p)) type before sc depth n) (sym same)

module _ (s : Selection) (ds : Vec Decl Global) (line : ℕ) (p : Process) (xs : Decls) (is : s ≡ selections.Else ds line p) (same : xs ≡ held_decls (hidden-the_row-Decl-0 ds)) where
  pub otherwise_size : node_size (selection_of s) ≡ (decls_size xs + (node_size (process_of p) + 1)) + 2
  unfolding selection_of node_size
  otherwise_size = ap (λ x. node_size (selection_of x)) is ∙ ap (λ d. (decls_size d + (node_size (process_of p) + 1)) + 2) (sym same)

  pub otherwise_form : (type : Primitive) (before : Chosen) (sc : Scope Calling) (depth : ℕ) (n : Numbers)
      → option_unfolded (selection_of s) type before sc depth n ≡ P.else_of (all_declared xs) (unfolded (process_of p)) before sc depth n
  unfolding selection_of option_unfolded
  otherwise_form type before sc depth n =
      ap (λ x. option_unfolded (selection_of x) type before sc depth n) is ∙ ap (λ d. P.else_of (all_declared d) (unfolded (process_of p)) before sc depth n) (sym same)
