use Rattle.std.proofs.Common.{◌∙◌, ap, take}
use Rattle.occ_net_tables.proofs.ReadLists.{first_read}
use Rattle.occ_net_tables.proofs.trace_entries.Entries.first.Goals as goal

pub returns : goal.returns
returns c = first_read c.args.count c.min.result c.self.inside.heads.now _ _ _ c.min.ensures ∙ ap (take c.args.count) c.self.view_is
