use Rattle.std.proofs.Common.{subst}
use Rattle.occ_play.specs.Working.{IsAnswerWithin, WorkersRefuse}
use Rattle.occ_program.specs.Watched.{CameTo}
use Rattle.occ_program.proofs.Watched.{came_to, without_crew}
use Rattle.occ_program.proofs.program.play_by.Goals as goal

pub returns : goal.returns
returns g c =
    let limit = c.args.words.now.limit in
    let trace = c.args.words.now.trace in
    let workers = c.args.workers in
    let fault = without_crew g.W.Write.contents workers c.options_of.result c.as_slice.result.now c.as_slice-2.result.now limit trace (WorkersRefuse workers c.options_of.result c.as_slice.result.now) _ _ c.play_workers_in.result c.play_workers_in.ensures.fault in
    let came = came_to g.W.Write.contents (IsAnswerWithin c.options_of.result c.as_slice.result.now c.as_slice-2.result.now limit trace) (WorkersRefuse workers c.options_of.result c.as_slice.result.now) _ _ c.play_workers_in.result c.play_workers_in.ensures.played fault in
    let source = subst (λ xs. CameTo (IsAnswerWithin c.options_of.result xs c.as_slice-2.result.now limit trace) (WorkersRefuse workers c.options_of.result xs) c.play_workers_in.result) c.as_slice.ensures.value came in
    let keyboard = subst (λ ks. CameTo (IsAnswerWithin c.options_of.result c.args.inputs.now.source.items ks limit trace) (WorkersRefuse workers c.options_of.result c.args.inputs.now.source.items) c.play_workers_in.result) c.as_slice-2.ensures.value source in
    subst (λ q. CameTo (IsAnswerWithin q c.args.inputs.now.source.items c.args.inputs.now.keyboard.items limit trace) (WorkersRefuse workers q c.args.inputs.now.source.items) c.play_workers_in.result) c.options_of.ensures keyboard
