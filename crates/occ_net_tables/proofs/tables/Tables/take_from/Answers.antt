use Rattle.std.proofs.Common.{◌≡◌, ◌∙◌, refl, ap, ◌∷◌, ◌++◌, Some, []}
use Rattle.std.specs.Prelude.{slice_get, slice_set}
use Rattle.occ_machine.specs.SameStop.{ready_with}
use Rattle.occ_machine.specs.declared.task.Wait.TheVariants as W
use Rattle.occ_net_replay.specs.Replay.{made_ready}
use Rattle.occ_net_replay.proofs.Tables.{set_other}
use Rattle.occ_term.specs.declared.communication.End.TheVariants.{Process}
use Rattle.occ_net_tables.specs.Settling.{communicated}
use Rattle.occ_net_tables.proofs.tables.Tables.take_from.Goals as goal

pub set_wait-requires : goal.set_wait-requires
set_wait-requires c =
    let o = c.requires.offers in
    let r = c.requires.there in
    record { task = r.task; there = ap (λ l. slice_get l c.args.number) (c.take_offered-message.ensures o.task c.args.chan o.message o.there o.waits).1 ∙ set_other c.args.self.now.tasks.items c.args.giver c.args.number (Some (made_ready o.task)) c.requires.apart ∙ r.there; light = r.light }

pub returns-clause-ok : goal.returns-clause-ok
returns-clause-ok c = λ t m there waits.
    let taken = c.take_offered-message.ensures t c.args.chan m there waits in
    let a = c.args.arm in
    let wait : c.took.result ≡ W.Took a.number a.indices (Some m) = c.took.ensures ∙ ap (λ x. W.Took a.number a.indices (Some x)) taken.0 in
    record {
      tasks = λ u h.
          c.set_wait.ensures u (ap (λ l. slice_get l c.args.number) taken.1 ∙ set_other c.args.self.now.tasks.items c.args.giver c.args.number (Some (made_ready t)) c.requires.apart ∙ h)
          ∙ ap (λ l. slice_set l c.args.number (Some (ready_with u c.took.result))) taken.1
          ∙ ap (λ x. slice_set (slice_set c.args.self.now.tasks.items c.args.giver (Some (made_ready t))) c.args.number (Some (ready_with u x))) wait;
      ready = c.insert.ensures.items;
      offering = c.set_entry.ensures;
      trace = c.in_ok-push.ensures.pushed ∙ ap (λ x. c.args.self.now.trace ++ communicated c.args.chan (Process c.args.giver) (Process c.args.number) x ∷ []) (c.offered.ensures t c.args.chan m (ap (λ l. slice_get l c.args.giver) c.deref.ensures.value ∙ there) waits);
      awaiting = refl;
      parents = refl;
      unfinished = refl;
      fault = refl;
      used = refl;
    }
