use Rattle.occ_choices.specs.Plans.{choices_of}
use Rattle.occ_program.proofs.Ended.{refused_by}
use Rattle.occ_program.proofs.seeding.ends_on.Goals as goal

pub returns-in-Ok-clause-ends : goal.returns-in-Ok-clause-ends
returns-in-Ok-clause-ends g c =
    let h = c.in-Ok.ensures.played in (
      λ e. record { played = c.in-Ok.played; answer = h.0; run = h.1; ended = c.has_ended.ensures.ends e },
      λ e. record { played = c.in-Ok.played; answer = h.0; run = h.1; other = c.has_ended.ensures.other e },
    )

pub returns-in-Err-clause-refused : goal.returns-in-Err-clause-refused
returns-in-Err-clause-refused g c =
    refused_by g.W.Write.contents c.args.options.now c.args.source.now c.args.keyboard.now (choices_of c.args.plan.now) c.args.out.now _ c.in-Err.fault c.in-Err.ensures.fault
