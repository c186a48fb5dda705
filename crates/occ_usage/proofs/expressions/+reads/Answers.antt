use Rattle.std.proofs.Common.{◌≡◌, ap, map, refl, rules}
use Rattle.occ_term.specs.Uses.{reading, reads_of, reads_in_place, reads_in_subscripts, union}
use Rattle.occ_term.specs.View.{expression_of, place_of, subscripts}
use Rattle.occ_term.specs.declared.expression.TermExpr.{the_lemmas}
use Rattle.occ_usage.proofs.UseSets.{adds_as, adds_then, left_next, left_none}
use Rattle.occ_usage.proofs.expressions.+reads.Goals as goal

pub note_expression-returns-in_ok-note_expression-in-Binary-2 : goal.note_expression-returns-in_ok-note_expression-in-Binary-2
note_expression-returns-in_ok-note_expression-in-Binary-2 t c =
    let seen : union (reads_of (expression_of c.get-in-Binary.result.now)) (reads_of (expression_of c.get-in-Binary-2.result.now)) ≡ reads_of (expression_of c.args.e.now) =
    search (rules, the_lemmas) in
    adds_as (adds_then c.in_ok-note_expression-in-Binary.ensures c.in_ok-note_expression-in-Binary-2.ensures) (ap reading seen)

pub note_expression-returns-in_ok-note_expression-in-And-2 : goal.note_expression-returns-in_ok-note_expression-in-And-2
note_expression-returns-in_ok-note_expression-in-And-2 t c =
    let seen : union (reads_of (expression_of c.get-in-And.result.now)) (reads_of (expression_of c.get-in-And-2.result.now)) ≡ reads_of (expression_of c.args.e.now) =
    search (rules, the_lemmas) in
    adds_as (adds_then c.in_ok-note_expression-in-And.ensures c.in_ok-note_expression-in-And-2.ensures) (ap reading seen)

pub note_expression-returns-in_ok-note_expression-in-Or-2 : goal.note_expression-returns-in_ok-note_expression-in-Or-2
note_expression-returns-in_ok-note_expression-in-Or-2 t c =
    let seen : union (reads_of (expression_of c.get-in-Or.result.now)) (reads_of (expression_of c.get-in-Or-2.result.now)) ≡ reads_of (expression_of c.args.e.now) =
    search (rules, the_lemmas) in
    adds_as (adds_then c.in_ok-note_expression-in-Or.ensures c.in_ok-note_expression-in-Or-2.ensures) (ap reading seen)

pub note_value-returns : goal.note_value-returns
note_value-returns t c = c.in_ok-note_place.ensures

pub note_place-returns : goal.note_place-returns
note_place-returns t c =
    let seen : reads_in_subscripts (subscripts (map expression_of c.as_slice.result.now)) ≡ reads_in_place (place_of c.args.place.now) = search (rules, the_lemmas) in
    adds_then c.in_ok-note_named.ensures (adds_as c.in_ok-note_subscripts.ensures (ap reading seen))

pub note_subscripts-returns : goal.note_subscripts-returns
note_subscripts-returns t c = left_none _ refl _ _ _ _ c.loop-subscript-test.false c.loop-subscript.invariant

pub note_subscripts-loop-subscript-preserved : goal.note_subscripts-loop-subscript-preserved
note_subscripts-loop-subscript-preserved t c =
    left_next _ (λ e. reading (reads_of (expression_of e))) (λ x xs. refl) _ _ _ _ _ _ c.loop-subscript-test.true c.subscript-item.is c.loop-subscript.invariant c.in_ok-note_expression.ensures
