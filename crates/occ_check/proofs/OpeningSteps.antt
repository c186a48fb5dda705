-- What stands behind declarations, step by step, and what makes it smaller.
use Rattle.std.proofs.Common.{◌≡◌, ◌≤◌, ◌+◌, ℕ, List, Some, None, ap, refl, sym, ◌∙◌, arith}
use Rattle.occ_tree_grammar.specs.Many.{◌>>=◌}
use Rattle.occ_term.specs.Terms.{Term, Declaration}
use Rattle.occ_check_meaning.specs.Actions.{headed, opening}
use Rattle.occ_check_meaning.specs.Numbers.{Numbers}
use Rattle.occ_check_meaning.specs.Performing.{behind, Calling, Declaring, Under, entered}
use Rattle.occ_check_meaning.specs.Scope.{Scope}
use Rattle.occ_tree_grammar.specs.Processes.Trees.{Decls}
use Rattle.occ_tree_grammar.specs.Processes.Views.{process_of}
use Rattle.occ_tree_grammar.specs.declared.tree.process.Process.{Process}
use Rattle.occ_tree_grammar.specs.declared.tree.process.Process.TheVariants as processes
use Rattle.occ_tree_grammar.specs.declared.tree.process.Stmt.{Stmt}
use Rattle.occ_tree_grammar.specs.declared.tree.process.Stmt.TheVariants as stmts
use Rattle.occ_check_meaning.specs.Recursion.{all_declared, unfolded}
use Rattle.occ_check.specs.Opening.{declarations_in, line_in, performing, statement_in, statement_size}
use Rattle.occ_check_meaning.specs.Unfolding.{Procedures}
use Rattle.occ_check_meaning.specs.Meant.{meant}
use Rattle.occ_check.specs.Opened.{put}
use Rattle.occ_check.specs.Weights.{decls_size, node_size, weight}

-- ---- a process by its parts

pub behind_declarations : (p : Process) (sc : Scope Calling) (depth : ℕ) (n : Numbers)
    → unfolded (process_of p) sc depth n ≡ behind (all_declared (declarations_in p)) (performing (line_in p) (statement_in p)) sc depth n
unfolding process_of unfolded
behind_declarations (processes.Declared' shape ds line (stmts.Action a)) sc depth n = refl
behind_declarations (processes.Declared' shape ds line (stmts.Seq' t ps)) sc depth n = refl
behind_declarations (processes.Declared' shape ds line (stmts.SeqFor' r q b)) sc depth n = refl
behind_declarations (processes.Declared' shape ds line (stmts.Par' t ps)) sc depth n = refl
behind_declarations (processes.Declared' shape ds line (stmts.ParFor' r q b)) sc depth n = refl
behind_declarations (processes.Declared' shape ds line (stmts.Alt' pri t ms)) sc depth n = refl
behind_declarations (processes.Declared' shape ds line (stmts.AltFor' pri r q b)) sc depth n = refl
behind_declarations (processes.Declared' shape ds line (stmts.If' t cs)) sc depth n = refl
behind_declarations (processes.Declared' shape ds line (stmts.IfFor' r q b)) sc depth n = refl
behind_declarations (processes.Declared' shape ds line (stmts.Case' e t os)) sc depth n = refl
behind_declarations (processes.Declared' shape ds line (stmts.While' e q b)) sc depth n = refl
behind_declarations (processes.Declared' shape ds line (stmts.Variants' w t vs)) sc depth n = refl

pub within_process : (p : Process) → node_size (process_of p) ≡ (decls_size (declarations_in p) + statement_size (statement_in p)) + 2
unfolding process_of node_size
within_process (processes.Declared' shape ds line (stmts.Action a)) = refl
within_process (processes.Declared' shape ds line (stmts.Seq' t ps)) = refl
within_process (processes.Declared' shape ds line (stmts.SeqFor' r q b)) = refl
within_process (processes.Declared' shape ds line (stmts.Par' t ps)) = refl
within_process (processes.Declared' shape ds line (stmts.ParFor' r q b)) = refl
within_process (processes.Declared' shape ds line (stmts.Alt' pri t ms)) = refl
within_process (processes.Declared' shape ds line (stmts.AltFor' pri r q b)) = refl
within_process (processes.Declared' shape ds line (stmts.If' t cs)) = refl
within_process (processes.Declared' shape ds line (stmts.IfFor' r q b)) = refl
within_process (processes.Declared' shape ds line (stmts.Case' e t os)) = refl
within_process (processes.Declared' shape ds line (stmts.While' e q b)) = refl
within_process (processes.Declared' shape ds line (stmts.Variants' w t vs)) = refl

-- ---- behind declarations

module _ (declared : Declaring) (performed : Under Term) (sc : Scope Calling) (depth : ℕ) (n : Numbers) where
  pub not_declared : declared sc (depth + 1) n ≡ None → behind declared performed sc depth n ≡ None
  not_declared e = ap (λ r. r >>= λ d. opening d.heads depth d.numbers >>= λ o. performed d.scope o.0 o.1 >>= λ t. Some (headed d.heads t.0, t.1)) e

  module _ (inside : Scope Calling) (heads : List Declaration) (m : Numbers) (done : declared sc (depth + 1) n ≡ Some (entered inside heads m)) where
    behind_these : behind declared performed sc depth n ≡ (opening heads depth m >>= λ o. performed inside o.0 o.1 >>= λ t. Some (headed heads t.0, t.1))
    behind_these = ap (λ r. r >>= λ d. opening d.heads depth d.numbers >>= λ o. performed d.scope o.0 o.1 >>= λ t. Some (headed d.heads t.0, t.1)) done

    pub not_opened : opening heads depth m ≡ None → behind declared performed sc depth n ≡ None
    not_opened e = behind_these ∙ ap (λ r. r >>= λ o. performed inside o.0 o.1 >>= λ t. Some (headed heads t.0, t.1)) e

    module _ (deep : ℕ) (l : Numbers) (stands : opening heads depth m ≡ Some (deep, l)) where
      pub behind_open : behind declared performed sc depth n ≡ (performed inside deep l >>= λ t. Some (headed heads t.0, t.1))
      behind_open = behind_these ∙ ap (λ r. r >>= λ o. performed inside o.0 o.1 >>= λ t. Some (headed heads t.0, t.1)) stands

-- ---- a process that is entered

module _ (p : Process) (sc outer : Procedures) (depth : ℕ) (n : Numbers) (ds : Decls) (line : ℕ) (s : Stmt)
    (is_ds : ds ≡ declarations_in p) (is_line : line ≡ line_in p) (is_s : s ≡ statement_in p) (opened : outer ≡ sc) where
  whole : unfolded (process_of p) (meant sc) depth n ≡ behind (all_declared (declarations_in p)) (performing (line_in p) (statement_in p)) (meant sc) depth n
  whole = behind_declarations p (meant sc) depth n

  as_declared : all_declared ds (meant outer) (depth + 1) n ≡ all_declared (declarations_in p) (meant sc) (depth + 1) n
  as_declared = λ i. all_declared (is_ds i) (meant (opened i)) (depth + 1) n

  pub heads_refused : all_declared ds (meant outer) (depth + 1) n ≡ None → unfolded (process_of p) (meant sc) depth n ≡ None
  heads_refused e = whole ∙ not_declared (all_declared (declarations_in p)) (performing (line_in p) (statement_in p)) (meant sc) depth n (sym as_declared ∙ e)

  module _ (heads : List Declaration) (m : Numbers) (within inside : Procedures) (is_inside : inside ≡ within)
      (done : all_declared ds (meant outer) (depth + 1) n ≡ Some (entered (meant within) heads m)) where
    as_performed : (deep : ℕ) (l : Numbers) → performing line s (meant inside) deep l ≡ performing (line_in p) (statement_in p) (meant within) deep l
    as_performed deep l = λ i. performing (is_line i) (is_s i) (meant (is_inside i)) deep l

    pub opening_refused : opening heads depth m ≡ None → unfolded (process_of p) (meant sc) depth n ≡ None
    opening_refused e = whole ∙ not_opened (all_declared (declarations_in p)) (performing (line_in p) (statement_in p)) (meant sc) depth n (meant within) heads m (sym as_declared ∙ done) e

    module _ (deep : ℕ) (l : Numbers) (stands : opening heads depth m ≡ Some (deep, l)) where
      pub statement_behind : unfolded (process_of p) (meant sc) depth n ≡ put (headed heads) (performing line s (meant inside) deep l)
      statement_behind =
          whole
          ∙ behind_open (all_declared (declarations_in p)) (performing (line_in p) (statement_in p)) (meant sc) depth n (meant within) heads m (sym as_declared ∙ done) deep l stands
          ∙ ap (put (headed heads)) (sym (as_performed deep l))

-- ---- what is entered is smaller

pub smaller : (p : Process) (sc outer inside within : Procedures) (ds : Decls) (s : Stmt) → ds ≡ declarations_in p → s ≡ statement_in p → outer ≡ sc → inside ≡ within
    → weight within ≤ decls_size ds + weight outer → (statement_size s + weight inside) + 2 ≤ node_size (process_of p) + weight sc
smaller p sc outer inside within ds s is_ds is_s is_outer is_inside lighter =
    let a : node_size (process_of p) ≡ (decls_size (declarations_in p) + statement_size (statement_in p)) + 2 = within_process p in
    let b : decls_size ds ≡ decls_size (declarations_in p) = ap decls_size is_ds in
    let c : statement_size s ≡ statement_size (statement_in p) = ap statement_size is_s in
    let d : weight outer ≡ weight sc = ap weight is_outer in
    let e : weight inside ≡ weight within = ap weight is_inside in
    omega (arith, a, b, c, d, e, lighter)
