use Rattle.occ_check.proofs.one_line.counted_output.Goals as goal

pub returns : goal.returns
returns c = c.count_output.ensures c.args.tag
