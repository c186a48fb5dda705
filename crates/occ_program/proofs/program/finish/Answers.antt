use Rattle.std.proofs.Common.{subst, sym}
use Rattle.occ_choices.specs.Plans.{choices_of}
use Rattle.occ_program.specs.Coming.{CameToBy, workers_asked}
use Rattle.occ_program.proofs.Statuses.{came_to_both, crew_asked}
use Rattle.occ_program.proofs.program.finish.Goals as goal

pub returns-clause-came : goal.returns-clause-came
returns-clause-came g c =
    let inputs = c.args.inputs.now in
    let words = c.args.words.now in
    let workers = workers_asked words.watch words.workers words.choices in
    let came = came_to_both workers words inputs.source.items inputs.keyboard.items (choices_of inputs.plan) c.in_ok-left.left c.args.played (crew_asked words.watch words.workers words.choices words.workers_in_range) c.in_ok-left.ensures c.requires.came in
    record {
      plan = inputs.plan;
      asked = c.requires.asked;
      tried = c.requires.tried;
      played = c.and-came.result;
      came = subst (CameToBy workers words inputs.source.items inputs.keyboard.items (choices_of inputs.plan)) (sym c.and-came.ensures) came;
      is = c.told.ensures;
    }
