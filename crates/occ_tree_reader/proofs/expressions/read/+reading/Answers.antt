use Rattle.std.proofs.Common.{arith, ◌≡◌, Some, sym, subst, ◌∷◌, ◌++◌, [], map}
use Rattle.std.proofs.lemmas.Grind.{common_steps}
use Rattle.std.proofs.lemmas.List.{map_push}
use Rattle.std.proofs.lemmas.Result.{err_from_is_err_and}
use Rattle.occ_text.specs.Words.{words}
use Rattle.occ_tree_grammar.specs.Expressions.Trees.{Operands, Expressions, chain, variable, operand_of, expression_of}
use Rattle.occ_tree_grammar.specs.Expressions.Reading.{operand_with, after_operand, expression_at}
use Rattle.occ_tree_reader.proofs.ManyLoop.{goes_on, ends, is_full, is_last}
use Rattle.occ_tree_grammar.proofs.Children.{operands_made, expressions_made}
use Rattle.occ_tree_reader.proofs.Steps.{no_level, next_level}
use Rattle.occ_tree_reader.proofs.expressions.read.+reading.Goals.{operands-else-loop-test, operands-then-loop-test+in_default, indices-else-loop-test, indices-then-loop-test+in_default}
use Rattle.occ_tree_reader.proofs.expressions.read.+reading.Goals as goal

pub expr-returns-then-left-eq0 : goal.expr-returns-then-left-eq0
expr-returns-then-left-eq0 t c = no_level c.args.left (words c.args.tokens.now) c.if-left-eq0.true

pub expr-returns : goal.expr-returns
expr-returns t c = rw (next_level c.args.left (words c.args.tokens.now) c.if-left-eq0.false) c.inside.ensures

pub operands-returns-in_err-next : goal.operands-returns-in_err-next
operands-returns-in_err-next t c =
    let p = err_from_is_err_and c.from_residual.result c.from_residual.ensures.1 in
    rw (p.1, p.2) (ends c.in_err-next.field-0.0 c.loop.invariant c.loop-test.true c.in-Some.ensures c.in_err-next.ensures)

pub operands-loop-preserved : goal.operands-loop-preserved
operands-loop-preserved t c =
    let e : map operand_of c.push.new.self.items ≡ map operand_of c.loop.all.items ++ operand_of c.in_ok-next.next ∷ [] = rw c.in_ok-push.ensures.items (map_push _ c.loop.all.items c.in_ok-next.next) in
    rw e (goes_on c.loop.invariant c.loop-test.true c.in-Some.ensures c.in_ok-next.ensures)

pub operands-returns : goal.operands-returns
operands-returns t c =
    elim c.loop-test.branch [
      | operands-else-loop-test w ↦ is_full c.loop.invariant w.loop-test.false
      | operands-then-loop-test+in_default w ↦ is_last c.loop.invariant w.loop-test.true w.in_default.ensures
    ]

pub indices-returns-in_err-next : goal.indices-returns-in_err-next
indices-returns-in_err-next t c =
    let p = err_from_is_err_and c.from_residual.result c.from_residual.ensures.1 in
    rw (p.1, p.2) (ends c.in_err-next.field-0.0 c.loop.invariant c.loop-test.true c.in-Some.ensures c.in_err-next.ensures)

pub indices-loop-preserved : goal.indices-loop-preserved
indices-loop-preserved t c =
    let e : map expression_of c.push.new.self.items ≡ map expression_of c.loop.all.items ++ expression_of c.in_ok-next.next ∷ [] = rw c.in_ok-push.ensures.items (map_push _ c.loop.all.items c.in_ok-next.next) in
    rw e (goes_on c.loop.invariant c.loop-test.true c.in-Some.ensures c.in_ok-next.ensures)

pub indices-returns : goal.indices-returns
indices-returns t c =
    elim c.loop-test.branch [
      | indices-else-loop-test w ↦ is_full c.loop.invariant w.loop-test.false
      | indices-then-loop-test+in_default w ↦ is_last c.loop.invariant w.loop-test.true w.in_default.ensures
    ]

pub linked-returns-in_ok-others-in-Logic : goal.linked-returns-in_ok-others-in-Logic
linked-returns-in_ok-others-in-Logic t c =
    subst (λ (r : Operands). after_operand (expression_at c.args.left) (operand_of c.args.first) (words c.args.tokens.now) ≡ Some (chain c.in-Logic.logic (operand_of c.args.first) (operand_of c.in_ok-second-in-Logic.second) r, words c.in_ok-others-in-Logic.rest.now)) (sym (operands_made c.in_ok-others-in-Logic.others)) (grind (arith, common_steps, c.in_ok-others-in-Logic.ensures, c.in_ok-second-in-Logic.ensures, c.in-Logic.ensures))

pub operand-returns-in_ok-name-in-Name : goal.operand-returns-in_ok-name-in-Name
unfolding operand_with
operand-returns-in_ok-name-in-Name t c =
    subst (λ (r : Expressions). operand_with (expression_at c.args.left) (words c.args.tokens.now) ≡ Some (variable c.in_ok-name-in-Name.name r, words c.in_ok-subscripts-in-Name.rest.now)) (sym (expressions_made c.in_ok-subscripts-in-Name.subscripts)) (grind (arith, common_steps, c.in_ok-subscripts-in-Name.ensures, c.in_ok-name-in-Name.ensures))
