use Rattle.std.specs.Prelude.{nat_abs, OnOk}
use Rattle.std.proofs.Common.{rules, true, false, map, pos, ◌≡◌, ◌∷◌, [], ◌++◌, ◌-◌, ◌<◌, ◌+◌, length, refl, ap, subst, sym, ◌∙◌, arith}
use Rattle.occ_term.specs.Messages.{product}
use Rattle.occ_term.specs.ArraySizes.{AreFew}
use Rattle.occ_term.proofs.Few.{few_behind, few_product}
use Rattle.occ_term.specs.Terms.{Binary}
use Rattle.occ_term.specs.View.{expression_of}
use Rattle.occ_term.specs.declared.expression.TermExpr.{the_lemmas}
use Rattle.occ_machine.specs.declared.instr.Instr.TheVariants.{AndThen, LoadLetter, OrElse}
use Rattle.occ_code.specs.OperandOrder.{comes_second}
use Rattle.occ_code.specs.Expressions.{expression_code}
use Rattle.occ_code.specs.Emits.{Emits}
use Rattle.occ_code.proofs.Emitting.{emits_then, emits_as, emits_since, left_first, left_second, whole_rest, subscripts_first, subscripts_next, product_before}
use Rattle.occ_code.proofs.Letters.{letters_back}
use Rattle.occ_code.proofs.expressions.+expressions.Goals as goal

pub emit_expression-returns-in_ok-text-in-Letter : goal.emit_expression-returns-in_ok-text-in-Letter
emit_expression-returns-in_ok-text-in-Letter t c =
    let same : c.in_ok-text-in-Letter.text ≡ map nat_abs (map pos c.in-Letter.text) = c.in_ok-text-in-Letter.ensures ∙ sym (letters_back c.in-Letter.text) in
    let seen : expression_code (expression_of c.get.result.now) ++ LoadLetter c.in-Letter.line (map nat_abs (map pos c.in-Letter.text)) ∷ [] ≡ expression_code (expression_of c.args.e.now) =
    search (rules, the_lemmas) in
    subst (λ l. OnOk c.emit_before.result (Emits c.args.code.now.items l c.emit_before.new.code.items)) (ap (λ l. expression_code (expression_of c.get.result.now) ++ LoadLetter c.in-Letter.line l ∷ []) same ∙ seen) c.emit_before.ensures

pub emit_expression-returns-in_ok-emit_expression-in-Binary-2 : goal.emit_expression-returns-in_ok-emit_expression-in-Binary-2
emit_expression-returns-in_ok-emit_expression-in-Binary-2 t c =
    let seen : Binary c.in-Binary.operator c.in-Binary.primitive c.in-Binary.line (expression_of c.get-left.result.now) (expression_of c.get-right.result.now) ≡ expression_of c.args.e.now = search (rules, the_lemmas) in
    let second : comes_second c.in-Binary.operator (expression_of c.get-left.result.now) (expression_of c.get-right.result.now) ≡ true = sym c.comes_second.ensures ∙ c.if-comes_second.true in
    emits_as (emits_then (emits_then c.in_ok-put-in-Binary.ensures c.in_ok-emit_expression-in-Binary.ensures) c.in_ok-emit_expression-in-Binary-2.ensures)
    (left_second _ c.in-Binary.primitive c.in-Binary.line _ _ second ∙ ap expression_code seen)

pub emit_expression-returns-in_ok-emit_expression-in-Binary-4 : goal.emit_expression-returns-in_ok-emit_expression-in-Binary-4
emit_expression-returns-in_ok-emit_expression-in-Binary-4 t c =
    let seen : Binary c.in-Binary.operator c.in-Binary.primitive c.in-Binary.line (expression_of c.get-left.result.now) (expression_of c.get-right.result.now) ≡ expression_of c.args.e.now = search (rules, the_lemmas) in
    let first : comes_second c.in-Binary.operator (expression_of c.get-left.result.now) (expression_of c.get-right.result.now) ≡ false = sym c.comes_second.ensures ∙ c.if-comes_second.false in
    emits_as (emits_then (emits_then c.in_ok-put-in-Binary.ensures c.in_ok-emit_expression-in-Binary-3.ensures) c.in_ok-emit_expression-in-Binary-4.ensures)
    (left_first _ c.in-Binary.primitive c.in-Binary.line _ _ first ∙ ap expression_code seen)

pub emit_expression-returns-in_ok-emit_expression-in-And-2 : goal.emit_expression-returns-in_ok-emit_expression-in-And-2
emit_expression-returns-in_ok-emit_expression-in-And-2 t c =
    let skip : c.since.result ≡ length (expression_code (expression_of c.get-in-And.result.now)) = c.since.ensures ∙ ap (λ n. length c.emit_expression-in-And.new.code.items - n) c.emitted-before.ensures ∙ emits_since c.in_ok-emit_expression-in-And.ensures in
    let seen : expression_code (expression_of c.get-in-And-2.result.now) ++ AndThen (length (expression_code (expression_of c.get-in-And.result.now))) ∷ expression_code (expression_of c.get-in-And.result.now) ≡ expression_code (expression_of c.args.e.now) =
    search (rules, the_lemmas) in
    emits_as (emits_then (emits_then c.in_ok-emit_expression-in-And.ensures (emits_as c.in_ok-put-in-And.ensures (ap (λ n. AndThen n ∷ []) skip))) c.in_ok-emit_expression-in-And-2.ensures) seen

pub emit_expression-returns-in_ok-emit_expression-in-Or-2 : goal.emit_expression-returns-in_ok-emit_expression-in-Or-2
emit_expression-returns-in_ok-emit_expression-in-Or-2 t c =
    let skip : c.since-in-Or.result ≡ length (expression_code (expression_of c.get-in-Or.result.now)) = c.since-in-Or.ensures ∙ ap (λ n. length c.emit_expression-in-Or.new.code.items - n) c.emitted-before-in-Or.ensures ∙ emits_since c.in_ok-emit_expression-in-Or.ensures in
    let seen : expression_code (expression_of c.get-in-Or-2.result.now) ++ OrElse (length (expression_code (expression_of c.get-in-Or.result.now))) ∷ expression_code (expression_of c.get-in-Or.result.now) ≡ expression_code (expression_of c.args.e.now) =
    search (rules, the_lemmas) in
    emits_as (emits_then (emits_then c.in_ok-emit_expression-in-Or.ensures (emits_as c.in_ok-put-in-Or.ensures (ap (λ n. OrElse n ∷ []) skip))) c.in_ok-emit_expression-in-Or-2.ensures) seen

pub emit_subscripts-product-stride-requires : goal.emit_subscripts-product-stride-requires
emit_subscripts-product-stride-requires t c = subst AreFew (sym (whole_rest c.args.sizes.now c.shorter-count.result)) (few_behind c.shorter-count.result c.args.sizes.now c.requires)

pub emit_subscripts-times-stride-requires : goal.emit_subscripts-times-stride-requires
emit_subscripts-times-stride-requires t c =
    let (within, within', strides, others) = c.loop-count.invariant in
    let some : 0 < c.loop-count.count = c.loop-count-test.true in
    let next : c.loop-count.count ≡ c.loop-count.count - 1 + 1 = omega (arith, some) in
    let lt' : c.loop-count.count - 1 < length c.args.sizes.now = omega (arith, some, within') in
    subst (λ n. n < 4294967296) (sym (product_before c.args.sizes.now (c.loop-count.count - 1) c.loop-count.count _ c.loop-count.stride next lt' refl strides))
    (few_product _ (few_behind (c.loop-count.count - 1) c.args.sizes.now c.requires))

pub emit_subscripts-loop-count-init : goal.emit_subscripts-loop-count-init
emit_subscripts-loop-count-init t c = (
  omega (arith, c.shorter-count.ensures),
  omega (arith, c.shorter-count.ensures),
  c.product-stride.ensures ∙ ap product (whole_rest c.args.sizes.now c.shorter-count.result),
  subscripts_first c.args.line c.args.list.now c.args.sizes.now c.shorter-count.result c.args.code.now.items c.shorter-count.ensures,
)

pub emit_subscripts-loop-count-preserved : goal.emit_subscripts-loop-count-preserved
emit_subscripts-loop-count-preserved t c =
    let (within, within', strides, others) = c.loop-count.invariant in
    let some : 0 < c.loop-count.count = c.loop-count-test.true in
    let next : c.loop-count.count ≡ c.loop-count.count - 1 + 1 = omega (arith, some) in
    let lt : c.loop-count.count - 1 < length c.args.list.now = omega (arith, some, within) in
    let lt' : c.loop-count.count - 1 < length c.args.sizes.now = omega (arith, some, within') in (
      omega (arith, within),
      omega (arith, within'),
      c.times-stride.ensures ∙ product_before c.args.sizes.now (c.loop-count.count - 1) c.loop-count.count _ c.loop-count.stride next lt' refl strides,
      subscripts_next c.args.line c.args.list.now c.args.sizes.now (c.loop-count.count - 1) c.loop-count.count c.index-list-count.result _ c.loop-count.stride next lt lt' c.index-list-count.is refl strides others c.in_ok-put.ensures c.in_ok-emit_expression.ensures,
    )
