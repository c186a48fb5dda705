use Rattle.std.proofs.Common.{rules, ◌≡◌, ℕ}
use Rattle.occ_term.specs.Values.{Evaluated, Fails}
use Rattle.occ_term.specs.Frames.{at}
use Rattle.occ_term.specs.View.{place_of}
use Rattle.occ_term.specs.Evaluation.{first_named}
use Rattle.occ_term.specs.declared.expression.TermExpr.{the_lemmas}
use Rattle.occ_term.proofs.Bounds.{begins_at, no_size_at, part_bounded, part_has_few, walked_at, fails_at, walks_at}
use Rattle.occ_term.proofs.value.+evaluation.Goals as goal

pub first_named-loop-e-init : goal.first_named-loop-e-init
first_named-loop-e-init t c =
    let place = c.args.place.now in
    let s = at c.args.frame.now in
    begins_at place s c.as_slice-e-items.result.now c.as_slice-sizes.result.now c.as_slice-e-items.ensures c.as_slice-sizes.ensures c.requires

pub first_named-returns-in-None : goal.first_named-returns-in-None
first_named-returns-in-None t c =
    no_size_at c.as_slice-e-items.result.now c.loop-e.e-index c.e-item.result c.loop-e-test.true c.e-item.is c.args.place.now.line c.loop-e.first (at c.args.frame.now) (first_named (place_of c.args.place.now) (at c.args.frame.now)) c.loop-e.sizes.now c.loop-e.invariant c.in-None.ensures.cases

pub first_named-first_of_component-requires : goal.first_named-first_of_component-requires
first_named-first_of_component-requires t c =
    let few = part_has_few c.as_slice-e-items.result.now c.loop-e.e-index c.e-item.result c.loop-e-test.true c.e-item.is c.args.place.now.line c.loop-e.first (at c.args.frame.now) (first_named (place_of c.args.place.now) (at c.args.frame.now)) c.loop-e.sizes.now c.loop-e.invariant c.in-Some.size.now c.in-Some.others.now c.in-Some.ensures.cases.0 in
    let bounded = part_bounded c.as_slice-e-items.result.now c.loop-e.e-index c.e-item.result c.loop-e-test.true c.e-item.is c.args.place.now.line c.loop-e.first (at c.args.frame.now) (first_named (place_of c.args.place.now) (at c.args.frame.now)) c.loop-e.sizes.now c.loop-e.invariant c.in-Some.size.now c.in-Some.others.now c.in-Some.ensures.cases.0 in
    (search (rules, the_lemmas), (few, bounded))

pub first_named-returns-in_err-first-in-Some : goal.first_named-returns-in_err-first-in-Some
first_named-returns-in_err-first-in-Some t c =
    let e : ◌≡◌ {A = Evaluated ℕ} (Fails c.in_err-first-in-Some.field-0.0) (first_named (place_of c.args.place.now) (at c.args.frame.now)) = fails_at c.as_slice-e-items.result.now c.loop-e.e-index c.e-item.result c.loop-e-test.true c.e-item.is c.args.place.now.line c.loop-e.first (at c.args.frame.now) (first_named (place_of c.args.place.now) (at c.args.frame.now)) c.loop-e.sizes.now c.loop-e.invariant c.in-Some.size.now c.in-Some.others.now c.in-Some.ensures.cases.0 c.in_err-first-in-Some.field-0.0 c.in_err-first-in-Some.ensures in
    search rules

pub first_named-loop-e-preserved : goal.first_named-loop-e-preserved
first_named-loop-e-preserved t c =
    walks_at c.as_slice-e-items.result.now c.loop-e.e-index c.e-item.result c.loop-e-test.true c.e-item.is c.args.place.now.line c.loop-e.first (at c.args.frame.now) (first_named (place_of c.args.place.now) (at c.args.frame.now)) c.loop-e.sizes.now c.loop-e.invariant c.in-Some.size.now c.in-Some.others.now c.in-Some.ensures.cases.0 c.in_ok-first-in-Some.first c.in_ok-first-in-Some.ensures

pub first_named-returns : goal.first_named-returns
first_named-returns t c =
    walked_at c.as_slice-e-items.result.now c.loop-e.e-index c.args.place.now.line c.loop-e.first (at c.args.frame.now) (first_named (place_of c.args.place.now) (at c.args.frame.now)) c.loop-e.sizes.now c.loop-e-test.false c.loop-e.invariant

pub evaluate-returns-in_err-a-in-Binary : goal.evaluate-returns-in_err-a-in-Binary
evaluate-returns-in_err-a-in-Binary t c = search (rules, the_lemmas)
