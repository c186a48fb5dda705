use Rattle.occ_shown.specs.Answers.{names_of}
use Rattle.occ_text.specs.Words.{logical_lines}
use Rattle.occ_report.proofs.Lines.{lines_step}
use Rattle.occ_report.proofs.process_lines.write_lines.Goals as goal

pub loop-number-preserved : goal.loop-number-preserved
loop-number-preserved c = λ p keyboard net h.
    let told = c.args.told in
    lines_step (names_of c.args.channels.now) c.args.ends.readers.now c.args.ends.writers.now told.source.now (logical_lines told.lines.now) told.unfolded.now.cells told.code.now.bodies told.places.now net.tasks c.loop-number.number c.args.out.now.items c.loop-number.out.items _ (c.loop-number.invariant p keyboard net h) (c.in_ok-write_numbered.ensures p keyboard net h)
