use Rattle.occ_explaining.specs.Studied.{IsTraceBy}
use Rattle.occ_program.specs.Pages.{TracesRun}
use Rattle.occ_program.proofs.ToldFiles.{none_told, text_told, trace_of_run}
use Rattle.occ_program.proofs.telling.tell_trace.Goals as goal

pub returns-in-Ok-clause-left : goal.returns-in-Ok-clause-left
returns-in-Ok-clause-left g c =
    let words = c.args.words.now in
    let inputs = c.args.inputs.now in
    let played = c.args.played.now in
    let s = c.args.studied.now in
    let keyboard = c.as_slice-keyboard.result.now in
    let list = c.as_slice-choices.result.now in
    let form = c.form_of-form.result in
    text_told g.F.Folder.left (IsTraceBy s keyboard list form) (TracesRun words inputs played) c.args.folder.now c.save_trace.new.folder words.trace_to c.in-Some.path c.in-Some.is
    (λ text. trace_of_run words inputs played s keyboard list form text c.as_slice-keyboard.ensures.value c.as_slice-choices.ensures.value c.form_of-form.ensures c.requires) c.in-Ok.ensures.saved

pub returns-in-None-clause-left : goal.returns-in-None-clause-left
returns-in-None-clause-left g c = none_told g.F.Folder.left (TracesRun c.args.words.now c.args.inputs.now c.args.played.now) c.args.folder.now c.args.words.now.trace_to c.in-None.is
