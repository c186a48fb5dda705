use Rattle.occ_program.proofs.Statuses.{only_to}
use Rattle.occ_program.proofs.exploring.only.Goals as goal

pub returns : goal.returns
returns c =
    only_to c.args.words.now c.args.inputs.now.source.items c.args.inputs.now.keyboard.items c.as_slice.result.now c.as_slice-2.result.now
    c.options_of.result c.turns_within.result c.only_answer_in.result c.options_of.ensures c.as_slice.ensures.value c.as_slice-2.ensures.value c.turns_within.ensures c.only_answer_in.ensures.only c.only_answer_in.ensures.untold c.only_answer_in.ensures.refused
