use Rattle.std.proofs.Common.{refl}
use Rattle.occ_machine.specs.declared.task.Wait.TheVariants as W
use Rattle.occ_net_replay.specs.Replay.{made_ready}
use Rattle.occ_net_tables.proofs.Between.{fails, there_old}
use Rattle.occ_net_tables.proofs.Waits.{rests_faulted, sized_at_rest, light_of, within_of}
use Rattle.occ_net_tables.proofs.tables.Tables.fail.Goals as goal

pub rest-requires-clause-there : goal.rest-requires-clause-there
rest-requires-clause-there c = light_of c.requires.0 c.args.self.now c.args.number c.args.place (W.Faulted c.args.fault) c.requires.1

pub rest-requires-clause-within : goal.rest-requires-clause-within
rest-requires-clause-within c = within_of c.requires.0 c.args.self.now c.args.number c.args.place (W.Faulted c.args.fault) c.requires.1

pub returns : goal.returns
returns c = λ p kb pick after net mid w.
    let tasks = c.rest.ensures.tasks (made_ready after) (there_old p kb c.args.self.now c.args.number c.args.place after net mid) in
    fails p kb c.args.self.now c.args.number c.args.place after net mid _ pick c.args.fault w tasks refl refl (rests_faulted p kb c.args.self.now c.args.number c.args.place after net mid c.args.fault tasks c.rest.ensures.ready (c.first_of-self.ensures net.noted mid.sound.fault_is)) (sized_at_rest p kb c.args.self.now c.args.number c.args.place after net mid (W.Faulted c.args.fault) tasks)
