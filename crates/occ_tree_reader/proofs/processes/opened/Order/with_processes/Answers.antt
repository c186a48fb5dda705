use Rattle.std.proofs.Common.{◌≡◌, sym, subst, map}
use Rattle.occ_tree_grammar.specs.declared.tree.process.Process.TheVariants as processes
use Rattle.occ_tree_grammar.specs.declared.tree.process.Stmt.TheVariants as stmts
use Rattle.occ_tree_grammar.specs.Processes.Views.{decl_of, process_of}
use Rattle.occ_tree_grammar.proofs.Made.{process_seq, process_par}
use Rattle.occ_tree_reader.specs.declared.processes.opened.Order.{Order}
use Rattle.occ_tree_reader.specs.Opened.{in_order}
use Rattle.occ_tree_reader.proofs.processes.opened.Order.with_processes.Goals as goal

pub returns-in-Seq : goal.returns-in-Seq
returns-in-Seq c =
    subst (λ (o : Order). process_of (processes.Declared c.args.declarations c.args.line (stmts.Seq c.args.processes)) ≡ in_order o (map decl_of c.args.declarations.items) c.args.line (map process_of c.args.processes.items)) (sym c.in-Seq.is)
    (process_seq c.args.declarations c.args.line c.args.processes)

pub returns-in-Par : goal.returns-in-Par
returns-in-Par c =
    subst (λ (o : Order). process_of (processes.Declared c.args.declarations c.args.line (stmts.Par c.args.processes)) ≡ in_order o (map decl_of c.args.declarations.items) c.args.line (map process_of c.args.processes.items)) (sym c.in-Par.is)
    (process_par c.args.declarations c.args.line c.args.processes)
