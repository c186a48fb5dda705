use Rattle.std.proofs.Common.{subst}
use Rattle.occ_check_meaning.specs.Expressions.{size_of_operand, typed_operand}
use Rattle.occ_check_lines.specs.View.{Gives, names_in, typed_of}
use Rattle.occ_check_lines.proofs.Expressions.{chain_gives, chain_nothing, variable_given, chained_first, chained_next, chained_nothing, chained_last, subscripted_first, subscripted_next, subscripted_nothing, subscripted_last}
use Rattle.occ_check_lines.proofs.expression.+typing.Goals as goal

pub typed_chain-loop-operand-init : goal.typed_chain-loop-operand-init
typed_chain-loop-operand-init t c = chained_first _ _ _ _ _

pub typed_chain-loop-operand-preserved : goal.typed_chain-loop-operand-preserved
typed_chain-loop-operand-preserved t c = chained_next _ _ _ _ _ _ _ _ c.loop-operand-test.true c.operand-item.is c.loop-operand.invariant _ c.in-Ok.ensures

pub typed_chain-returns-in-Err : goal.typed_chain-returns-in-Err
typed_chain-returns-in-Err t c = chained_nothing _ _ _ _ _ _ _ _ c.loop-operand-test.true c.operand-item.is c.loop-operand.invariant _ c.in-Err.ensures

pub typed_chain-returns : goal.typed_chain-returns
typed_chain-returns t c = chained_last _ _ _ _ _ _ _ c.loop-operand-test.false c.loop-operand.invariant

pub typed_subscripts-loop-e-init : goal.typed_subscripts-loop-e-init
typed_subscripts-loop-e-init t c = subscripted_first _ _ _ _ c.new-made.ensures

pub typed_subscripts-loop-e-preserved : goal.typed_subscripts-loop-e-preserved
typed_subscripts-loop-e-preserved t c = subscripted_next _ _ _ _ _ _ c.loop-e-test.true c.e-item.is c.loop-e.invariant _ _ c.in_ok-push.ensures.ok c.in-Ok.ensures

pub typed_subscripts-returns-in-Err : goal.typed_subscripts-returns-in-Err
typed_subscripts-returns-in-Err t c = subscripted_nothing _ _ _ _ _ _ c.loop-e-test.true c.e-item.is c.loop-e.invariant _ c.in-Err.ensures

pub typed_subscripts-returns : goal.typed_subscripts-returns
typed_subscripts-returns t c = subscripted_last _ _ _ _ _ c.loop-e-test.false c.loop-e.invariant

pub size_of_operand-returns-in-Variable : goal.size_of_operand-returns-in-Variable
size_of_operand-returns-in-Variable t c =
    subst (λ y. Gives (λ n. n) c.size_of_variable.result (size_of_operand (names_in c.args.context.scope) c.args.context.line y))
    (variable_given _ _ _ _ c.in-Variable.is c.deref.ensures.value) c.size_of_variable.ensures

pub typed_operand-returns-in-Variable : goal.typed_operand-returns-in-Variable
typed_operand-returns-in-Variable t c =
    subst (λ y. Gives typed_of c.typed_variable.result (typed_operand (names_in c.args.context.scope) c.args.context.line y))
    (variable_given _ _ _ _ c.in-Variable.is c.deref.ensures.value) c.typed_variable.ensures

pub typed-returns-in-Ok : goal.typed-returns-in-Ok
typed-returns-in-Ok t c =
    chain_gives _ _ _ _ _ _ _ _ _ _ _ c.in-Chain.is c.deref.ensures.value c.in_ok-x-in-Chain.ensures c.in_ok-y-in-Chain.ensures c.in_ok-left-in-Chain.ensures _ c.in-Ok.ensures

pub typed-returns-in-Err : goal.typed-returns-in-Err
typed-returns-in-Err t c =
    chain_nothing _ _ _ _ _ _ _ _ _ _ _ c.in-Chain.is c.deref.ensures.value c.in_ok-x-in-Chain.ensures c.in_ok-y-in-Chain.ensures c.in_ok-left-in-Chain.ensures _ c.in-Err.ensures
