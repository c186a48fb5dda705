use Rattle.std.proofs.Common.{◌∙◌, ◌++◌, [], ap, map, refl}
use Rattle.occ_explaining.specs.Files.{files_of}
use Rattle.occ_explaining.specs.Unreached.{told_line, told_lines}
use Rattle.occ_explaining.specs.Reach.{unchecked_head}
use Rattle.occ_shown.proofs.Texts.{IsText, text_step}
use Rattle.occ_explaining.proofs.unreached.told_lines.Goals as goal

pub loop-proc-preserved : goal.loop-proc-preserved
loop-proc-preserved c =
    let file = files_of c.args.files.now in
    let text : IsText (λ p. told_line file c.args.json (unchecked_head p)) (λ ps. told_lines file c.args.json (map unchecked_head ps)) = record { none = refl; more = λ p ps. refl } in
    let grown = c.in_ok-extend_from_slice.ensures.items ∙ ap (λ l. c.loop-proc.text.items ++ l) (c.as_slice.ensures.value ∙ c.in_ok-line.ensures) in
    text_step text c.args.procs.now c.loop-proc.proc-index c.proc-item.result c.loop-proc-test.true c.proc-item.is [] c.loop-proc.text.items _ c.loop-proc.invariant grown
