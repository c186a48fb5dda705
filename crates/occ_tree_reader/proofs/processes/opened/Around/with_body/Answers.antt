use Rattle.std.proofs.Common.{◌≡◌, Some, sym, ap, subst, ◌∙◌, map}
use Rattle.occ_tree_grammar.specs.declared.tree.process.Process.{Process}
use Rattle.occ_tree_grammar.specs.declared.tree.process.Process.TheVariants as processes
use Rattle.occ_tree_grammar.specs.declared.tree.process.Stmt.TheVariants as stmts
use Rattle.occ_tree_grammar.specs.Expressions.Trees.{expression_of}
use Rattle.occ_tree_grammar.specs.Lines.Views.{replicator_of}
use Rattle.occ_tree_grammar.specs.Lines.Heads.{sequence, parallel, loop}
use Rattle.occ_tree_grammar.specs.Processes.Trees.{process as the_process, node, single_body}
use Rattle.occ_tree_grammar.specs.Processes.Views.{decl_of, process_of}
use Rattle.occ_tree_grammar.proofs.Made.{declared, process_seq_for, process_par_for, process_while}
use Rattle.occ_tree_reader.specs.declared.processes.opened.Around.{Around}
use Rattle.occ_tree_reader.specs.Opened.{around}
use Rattle.occ_tree_reader.proofs.processes.opened.Around.with_body.Goals as goal

pub returns-in-Seq : goal.returns-in-Seq
returns-in-Seq c =
    subst (λ (a : Around). process_of (processes.Declared c.args.declarations c.args.line (stmts.SeqFor c.in-Seq.index c.in_ok-body.body)) ≡ around a (map decl_of c.args.declarations.items) c.args.line (process_of c.args.body)) (sym c.in-Seq.is)
    (process_seq_for c.args.declarations c.args.line c.in-Seq.index c.in_ok-body.body ∙ ap (λ (p : Process). node {k = the_process} (declared c.args.declarations) c.args.line (sequence (Some (replicator_of c.in-Seq.index.value))) (single_body (process_of p))) c.in_ok-body.ensures.ok)

pub returns-in-Par : goal.returns-in-Par
returns-in-Par c =
    subst (λ (a : Around). process_of (processes.Declared c.args.declarations c.args.line (stmts.ParFor c.in-Par.index c.in_ok-body.body)) ≡ around a (map decl_of c.args.declarations.items) c.args.line (process_of c.args.body)) (sym c.in-Par.is)
    (process_par_for c.args.declarations c.args.line c.in-Par.index c.in_ok-body.body ∙ ap (λ (p : Process). node {k = the_process} (declared c.args.declarations) c.args.line (parallel (Some (replicator_of c.in-Par.index.value))) (single_body (process_of p))) c.in_ok-body.ensures.ok)

pub returns-in-While : goal.returns-in-While
returns-in-While c =
    subst (λ (a : Around). process_of (processes.Declared c.args.declarations c.args.line (stmts.While c.in-While.condition c.in_ok-body.body)) ≡ around a (map decl_of c.args.declarations.items) c.args.line (process_of c.args.body)) (sym c.in-While.is)
    (process_while c.args.declarations c.args.line c.in-While.condition c.in_ok-body.body ∙ ap (λ (p : Process). node {k = the_process} (declared c.args.declarations) c.args.line (loop (expression_of c.in-While.condition.value)) (single_body (process_of p))) c.in_ok-body.ensures.ok)
