use Rattle.std.proofs.Common.{rules, ◌≡◌, pos, sym, ap, ◌∙◌}
use Rattle.occ_term.specs.Terms as T
use Rattle.occ_term.specs.Evaluation.{evaluated}
use Rattle.occ_term.specs.Chains.{chosen}
use Rattle.occ_term.specs.Uses.{is_constant}
use Rattle.occ_term.specs.Values.{Value, value_of}
use Rattle.occ_term.specs.View.{expression_of}
use Rattle.occ_term.specs.declared.expression.TermExpr.{the_lemmas}
use Rattle.occ_term.proofs.Chains.{and_chosen, and_is_chosen, or_chosen, or_is_chosen}
use Rattle.occ_term.proofs.Chained.{first_of_both, second_of_both}
use Rattle.occ_term.proofs.constant.+constant.Goals as goal

pub chain_value-loop-rest-preserved-in-And : goal.chain_value-loop-rest-preserved-in-And
chain_value-loop-rest-preserved-in-And t c =
    let l = expression_of c.get-rest.result.now in
    let r = expression_of c.get.result.now in
    let on_true = evaluated c.loop-rest.on_true in
    let on_false = evaluated c.loop-rest.on_false in
    let seen : T.And l r ≡ expression_of c.loop-rest.rest.now = search (rules, the_lemmas) in (
      search (rules, the_lemmas),
      first_of_both _ _ (ap is_constant seen ∙ c.loop-rest.invariant.1),
      c.loop-rest.invariant.2 ∙ ap (λ e. chosen (value_of e (λ k. pos 0)) on_true on_false) (sym seen) ∙ and_chosen (value_of l (λ k. pos 0)) (value_of r (λ k. pos 0)) on_true on_false
          ∙ ap (λ y. chosen (value_of l (λ k. pos 0)) y on_false) (sym (c.chosen-on_true.ensures ∙ ap (λ y. chosen y on_true on_false) c.value_of_constant-right.ensures)),
    )

pub chain_value-loop-rest-preserved : goal.chain_value-loop-rest-preserved
chain_value-loop-rest-preserved t c =
    let l = expression_of c.get-rest-in-Or.result.now in
    let r = expression_of c.get-in-Or.result.now in
    let on_true = evaluated c.loop-rest.on_true in
    let on_false = evaluated c.loop-rest.on_false in
    let seen : T.Or l r ≡ expression_of c.loop-rest.rest.now = search (rules, the_lemmas) in (
      search (rules, the_lemmas),
      first_of_both _ _ (ap is_constant seen ∙ c.loop-rest.invariant.1),
      c.loop-rest.invariant.2 ∙ ap (λ e. chosen (value_of e (λ k. pos 0)) on_true on_false) (sym seen) ∙ or_chosen (value_of l (λ k. pos 0)) (value_of r (λ k. pos 0)) on_true on_false
          ∙ ap (λ y. chosen (value_of l (λ k. pos 0)) on_true y) (sym (c.chosen-on_false.ensures ∙ ap (λ y. chosen y on_true on_false) c.value_of_constant-right-in-Or.ensures)),
    )

pub value_of_constant-value_of_constant-b-requires : goal.value_of_constant-value_of_constant-b-requires
value_of_constant-value_of_constant-b-requires t c =
    let seen : T.Binary c.in-Binary.operator c.in-Binary.primitive c.in-Binary.line (expression_of c.get.result.now) (expression_of c.get-in-Binary.result.now) ≡ expression_of c.args.e.now = search (rules, the_lemmas) in
    (search (rules, the_lemmas), second_of_both _ _ (ap is_constant seen ∙ c.requires))

pub value_of_constant-returns-in-And : goal.value_of_constant-returns-in-And
value_of_constant-returns-in-And t c =
    let l = expression_of c.get-in-And-2.result.now in
    let r = expression_of c.get-in-And.result.now in
    let seen : T.And l r ≡ expression_of c.args.e.now = search (rules, the_lemmas) in
    c.chain_value.ensures ∙ ap (λ y. chosen (value_of l (λ k. pos 0)) y (Value (pos 0))) c.value_of_constant-right.ensures
    ∙ sym (and_is_chosen (value_of l (λ k. pos 0)) (value_of r (λ k. pos 0))) ∙ ap (λ e. value_of e (λ k. pos 0)) seen

pub value_of_constant-returns-in-Or : goal.value_of_constant-returns-in-Or
value_of_constant-returns-in-Or t c =
    let l = expression_of c.get-in-Or-2.result.now in
    let r = expression_of c.get-in-Or.result.now in
    let seen : T.Or l r ≡ expression_of c.args.e.now = search (rules, the_lemmas) in
    c.chain_value-in-Or.ensures ∙ ap (λ y. chosen (value_of l (λ k. pos 0)) (Value (pos 1)) y) c.value_of_constant-right-in-Or.ensures
    ∙ sym (or_is_chosen (value_of l (λ k. pos 0)) (value_of r (λ k. pos 0))) ∙ ap (λ e. value_of e (λ k. pos 0)) seen
