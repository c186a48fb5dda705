use Rattle.std.proofs.Common.{◌∙◌, ◌++◌, ap}
use Rattle.occ_report.specs.Reports.{ring_text}
use Rattle.occ_report.proofs.standing.write_circle.Goals as goal

pub returns : goal.returns
returns c = λ p keyboard net h.
    c.in_ok-write_ring.ensures ∙ ap (λ l. c.args.out.now.items ++ ring_text l c.args.circle.now) (c.as_slice.ensures.value ∙ c.in_ok-choosing.ensures p keyboard net h)
