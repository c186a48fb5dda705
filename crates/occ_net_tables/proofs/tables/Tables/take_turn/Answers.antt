use Rattle.occ_proc.specs.Turns.{left_message}
use Rattle.occ_proc.proofs.Mapped.{on_ok_map}
use Rattle.occ_net_tables.proofs.Halves.{has_taken, has_turned}
use Rattle.occ_net_tables.proofs.Turned.{are_bytes}
use Rattle.occ_net_tables.proofs.tables.Tables.take_turn.Goals as goal

pub begin_turn-requires : goal.begin_turn-requires
begin_turn-requires c = record { keyboard = c.args.keyboard.now; bytes = are_bytes c.args.keyboard.now (λ k. (c.type_inv.keyboard k).fits); standing = c.requires }

pub end_turn-requires : goal.end_turn-requires
end_turn-requires c = has_taken c.args.code.now c.args.keyboard.now c.args.choice c.args.self.now c.in_ok-begun.begun (left_message c.begin_turn.new.scratch) c.begin_turn.new.self c.in_ok-begun.ensures c.requires

pub returns-clause-turn : goal.returns-clause-turn
returns-clause-turn c =
    on_ok_map _ _ c.end_turn.result
    (λ turns net h. has_turned c.args.code.now c.args.keyboard.now c.args.choice c.args.self.now c.in_ok-begun.begun (left_message c.begin_turn.new.scratch) c.begin_turn.new.self c.in_ok-begun.ensures c.requires _ turns net h)
    c.end_turn.ensures.turn
