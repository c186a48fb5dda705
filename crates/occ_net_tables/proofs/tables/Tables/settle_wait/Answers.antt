use Rattle.std.proofs.Common.{refl, sym, subst}
use Rattle.occ_machine.specs.declared.task.Wait.{Wait}
use Rattle.occ_net_tables.specs.declared.tables.Tables.{Tables}
use Rattle.occ_net_tables.specs.Settling.{HasMid, LeftReady, Settles}
use Rattle.occ_net_tables.proofs.tables.Tables.settle_wait.Goals as goal

pub take_wait-wait-requires : goal.take_wait-wait-requires
take_wait-wait-requires c = record { task = c.requires.task; there = c.requires.there }

pub settle-requires : goal.settle-requires
settle-requires c =
    let n = c.args.self.now in
    let t = c.requires.task in
    let taken = c.take_wait-wait.ensures t c.requires.there in
    let between : Tables = record { tasks = c.take_wait-wait.new.tasks; ready = n.ready; offering = n.offering; awaiting = n.awaiting; parents = n.parents; unfinished = n.unfinished; fault = n.fault; used = n.used; trace = n.trace } in
    let left : LeftReady n c.args.number t between = record { tasks = taken.is; ready = refl; offering = refl; awaiting = refl; parents = refl; unfinished = refl; fault = refl; used = refl; trace = refl } in
    subst (HasMid c.args.code.now between c.args.number c.args.place) taken.waits (c.requires.mid between left)

pub returns : goal.returns
returns c = λ t there.
    let n = c.args.self.now in
    let taken = c.take_wait-wait.ensures t there in
    let between : Tables = record { tasks = c.take_wait-wait.new.tasks; ready = n.ready; offering = n.offering; awaiting = n.awaiting; parents = n.parents; unfinished = n.unfinished; fault = n.fault; used = n.used; trace = n.trace } in
    record {
      between = between;
      left = record { tasks = taken.is; ready = refl; offering = refl; awaiting = refl; parents = refl; unfinished = refl; fault = refl; used = refl; trace = refl };
      settles = subst (λ (w : Wait). Settles c.args.code.now c.args.keyboard.now c.args.pick c.args.number c.args.place w between c.settle.new.self) (sym taken.waits) c.in-Ok.ensures.ok;
    }
