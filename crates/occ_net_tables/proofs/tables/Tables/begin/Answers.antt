use Rattle.std.proofs.Common.{◌≡◌, ◌∙◌, [], refl, sym, ap, subst, Some, arith}
use Rattle.std.specs.Prelude.{slice_set, option_map}
use Rattle.std.specs.Option.{option_map_or}
use Rattle.std.proofs.lemmas.Option.{slice_get_within}
use Rattle.occ_machine.specs.SameStop.{IsRising}
use Rattle.occ_machine.specs.Machine.{Body}
use Rattle.occ_net_replay.specs.Replay.{branch_task, branch_frame, first_task, ready_from, turns_at}
use Rattle.occ_net_tables.specs.Ready.{put_in}
use Rattle.occ_net_tables.proofs.Keys.{first_held}
use Rattle.occ_net_tables.proofs.OneChange.{get_some}
use Rattle.occ_net_tables.proofs.ReadyLists.{ready_put, ready_rising}
use Rattle.occ_net_tables.proofs.tables.Tables.begin.Goals as goal

pub insert-requires-clause-rising : goal.insert-requires-clause-rising
insert-requires-clause-rising c = subst IsRising (sym c.requires.may.ready_is) (ready_rising 0 c.args.self.now.tasks.items)

pub put_task-requires : goal.put_task-requires
put_task-requires c = let x = c.requires.may.free c.args.number (first_held c.args.number []) in slice_get_within c.args.self.now.tasks.items c.args.number x.entry x.is

pub returns-clause-began : goal.returns-clause-began
returns-clause-began c = λ f e.
    let n = c.args.number in
    let bodies = c.args.code.now.bodies in
    let old = c.args.self.now.tasks.items in
    let x = c.requires.may.free n (first_held n []) in
    let b = get_some bodies n (c.requires.may.have_bodies n (first_held n [])) in
    let body : Body = b.0 in
    let is : branch_task bodies f old n ≡ Some (first_task n (turns_at old n) (branch_frame body f)) = ap (option_map (λ z. first_task n (turns_at old n) (branch_frame z f))) b.1 in
    let turns : c.turns_at-turns.result ≡ turns_at old n = c.turns_at-turns.ensures ∙ ap (λ l. turns_at l n) c.deref.ensures.value in
    let frame : c.args.frame ≡ branch_frame body f = e ∙ ap (λ z. option_map_or (λ y. branch_frame y f) z f) b.1 in
    let same : Some (first_task n c.turns_at-turns.result c.args.frame) ≡ branch_task bodies f old n = ap (λ t. Some (first_task n t c.args.frame)) turns ∙ ap (λ g. Some (first_task n (turns_at old n) g)) frame ∙ sym is in
    let tasks = c.put_task.ensures ∙ ap (slice_set old n) same in
    record {
      tasks = tasks;
      ready_is = c.insert.ensures.items ∙ ap (put_in n) c.requires.may.ready_is ∙ sym (ready_put 0 old n n x.entry (Some (first_task n c.turns_at-turns.result c.args.frame)) x.is x.still refl (omega arith)) ∙ ap (ready_from 0) (sym c.put_task.ensures);
      parents = c.set_entry.ensures;
      offering = refl;
      awaiting = refl;
      unfinished = refl;
      fault = refl;
      used = refl;
      trace = refl;
    }
