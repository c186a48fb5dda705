use Rattle.occ_program.proofs.Statuses.{kept_to}
use Rattle.occ_program.proofs.keeping.keep.Goals as goal

pub returns : goal.returns
returns g c =
    kept_to c.args.words.now c.args.specification.now.bytes.items c.args.inputs.now.source.items c.args.inputs.now.keyboard.items
    c.as_slice.result.now c.as_slice-2.result.now c.as_slice-3.result.now c.asked_in.result c.options_of.result c.keep_in.result
    c.options_of.ensures c.as_slice.ensures.value c.as_slice-2.ensures.value c.as_slice-3.ensures.value c.asked_in.ensures
    c.keep_in.ensures.kept c.keep_in.ensures.runs c.keep_in.ensures.refused
