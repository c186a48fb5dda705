use Rattle.std.proofs.Common.{◌∙◌, ap, length, sym}
use Rattle.occ_net_tables.proofs.ReadLists.{count_read}
use Rattle.occ_net_tables.proofs.trace_entries.Entries.len.Goals as goal

pub returns : goal.returns
returns c = sym (count_read c.self.inside.heads.now _ _ _) ∙ ap length c.self.view_is
