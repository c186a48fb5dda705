use Rattle.occ_program.proofs.Statuses.{searched_to}
use Rattle.occ_program.proofs.exploring.search.Goals as goal

pub returns : goal.returns
returns g c =
    searched_to c.args.words.now c.args.inputs.now.source.items c.args.inputs.now.keyboard.items c.as_slice.result.now c.as_slice-2.result.now c.args.asked
    c.options_of.result c.explore_in.result c.options_of.ensures c.as_slice.ensures.value c.as_slice-2.ensures.value c.explore_in.ensures.explored c.explore_in.ensures.first c.is_some.result c.is_some.ensures c.explore_in.ensures.drawn c.explore_in.ensures.refused
