use Rattle.std.proofs.Common.{map}
use Rattle.occ_tree_grammar.specs.Processes.Views.{item_of}
use Rattle.occ_check.proofs.MainProcess.{a_procedure, no_protocol, no_value}
use Rattle.occ_check.proofs.program.main_at.Goals as goal

pub returns-in-Proc : goal.returns-in-Proc
returns-in-Proc c = a_procedure (map item_of c.args.before.now) c.args.item.now _ _ _ _ _ c.in-Proc.is

pub returns-in-Value : goal.returns-in-Value
returns-in-Value c = no_value (map item_of c.args.before.now) c.args.item.now _ _ _ _ c.in-Value.is

pub returns-in-Protocol : goal.returns-in-Protocol
returns-in-Protocol c = no_protocol (map item_of c.args.before.now) c.args.item.now _ c.in-Protocol.is
