use Rattle.std.proofs.Common.{◌≡◌, ◌+◌, get_or, sym, ap, ◌∙◌, subst}
use Rattle.occ_usage.specs.declared.noted.Use.{Use}
use Rattle.occ_usage.specs.declared.noted.Kind.TheVariants.{Read}
use Rattle.occ_usage.proofs.Reaches.{Spans, spans_more, spans_none, spans_skip}
use Rattle.occ_usage.proofs.UseSets.{item_at}
use Rattle.occ_usage.proofs.index.spans_of.Goals as goal
use Rattle.occ_usage.proofs.index.spans_of.Goals.{in-Some+in_ok-push-in-Some, in-None}

abbrev no_use_at : Use
no_use_at = record { kind = Read; first = 0; end = 0; line = 0; order = 0 }

pub loop-one-preserved : goal.loop-one-preserved
loop-one-preserved c =
    let one = get_or c.args.uses.now c.loop-one.one-index no_use_at in
    let inside = c.loop-one-test.true in
    let here : one ≡ get_or c.args.uses.now c.loop-one.one-index one = item_at c.args.uses.now c.loop-one.one-index no_use_at one inside in
    elim c.match-span_of.branch [
      | in-Some+in_ok-push-in-Some w ↦
          let fits = c.span_of.ensures.some w.in-Some.span w.in-Some.is in
          spans_more c.args.kind c.args.uses.now c.loop-one.one-index one c.loop-one.spans.items c.match-span_of.spans.items w.in-Some.span inside here c.loop-one.invariant fits.0 fits.1
          (ap (λ v. v.items) w.spans-is ∙ w.in_ok-push-in-Some.ensures.items)
      | in-None w ↦
          subst (λ S. Spans c.args.kind c.args.uses.now (c.loop-one.one-index + 1) S) (ap (λ v. v.items) (sym w.spans-is))
          (spans_skip c.args.kind c.args.uses.now c.loop-one.one-index one c.loop-one.spans.items inside here c.loop-one.invariant (c.span_of.ensures.none w.in-None.is))
    ]

pub returns-clause-numbers : goal.returns-clause-numbers
returns-clause-numbers c = spans_none c.args.kind c.args.uses.now c.loop-one.one-index c.loop-one.spans.items c.loop-one-test.false c.loop-one.invariant
