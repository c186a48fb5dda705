use Rattle.occ_play_inputs.proofs.Whole.{whole_read}
use Rattle.occ_play_inputs.proofs.inputs.read_all.Goals as goal

pub returns-clause-bytes : goal.returns-clause-bytes
returns-clause-bytes g c = whole_read (g.R.Read.remaining c.args.reader) c.read_most.result c.read_most.ensures.bytes
