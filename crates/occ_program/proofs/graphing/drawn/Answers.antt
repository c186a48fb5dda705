use Rattle.occ_program.proofs.Graphs.{graph_written}
use Rattle.occ_program.proofs.graphing.drawn.Goals as goal

pub returns : goal.returns
returns c =
    graph_written c.args.words.now c.args.inputs.now c.args.path.now c.args.states c.args.graph.now c.in-Ok.code c.options_of.result c.as_slice.result.now c.named_form.result c.channels.result.now c.in_ok-text.text.items
    c.options_of.ensures c.as_slice.ensures.value c.in-Ok.ensures.code c.named_form.ensures c.channels.ensures c.in_ok-text.ensures
