use Rattle.std.proofs.Common.{subst}
use Rattle.occ_choices.specs.Plans.{choices_of}
use Rattle.occ_play.specs.Playing.{IsAnswer, Refuses}
use Rattle.occ_program.specs.Watched.{CameTo}
use Rattle.occ_program.proofs.Watched.{came_to}
use Rattle.occ_program.proofs.program.play_plan.Goals as goal

pub returns : goal.returns
returns g c =
    let list = choices_of c.args.inputs.now.plan in
    let trace = c.args.words.now.trace in
    let came = came_to g.W.Write.contents (IsAnswer c.options_of.result c.as_slice.result.now c.as_slice-2.result.now list trace) (Refuses c.options_of.result c.as_slice.result.now) _ _ c.play_in.result c.play_in.ensures.played c.play_in.ensures.fault in
    let source = subst (λ xs. CameTo (IsAnswer c.options_of.result xs c.as_slice-2.result.now list trace) (Refuses c.options_of.result xs) c.play_in.result) c.as_slice.ensures.value came in
    let keyboard = subst (λ ks. CameTo (IsAnswer c.options_of.result c.args.inputs.now.source.items ks list trace) (Refuses c.options_of.result c.args.inputs.now.source.items) c.play_in.result) c.as_slice-2.ensures.value source in
    subst (λ q. CameTo (IsAnswer q c.args.inputs.now.source.items c.args.inputs.now.keyboard.items list trace) (Refuses q c.args.inputs.now.source.items) c.play_in.result) c.options_of.ensures keyboard
