use Rattle.std.proofs.Common.{◌≡◌, ◌∙◌, ℕ, refl, sym, ap, subst, length, map, Some, None, arith}
use Rattle.std.specs.Prelude.{slice_get, slice_set}
use Rattle.occ_machine.specs.SameStop.{ready_with}
use Rattle.occ_machine.specs.declared.task.Task.{Task}
use Rattle.occ_machine.specs.declared.task.Wait.{Wait}
use Rattle.occ_machine.specs.declared.task.Wait.TheVariants as W
use Rattle.occ_net_replay.specs.Replay.{made_ready}
use Rattle.occ_net_replay.proofs.Tables.{task_once}
use Rattle.occ_net_tables.specs.declared.tables.Tables.{Tables}
use Rattle.occ_net_tables.specs.Room.{first_frame}
use Rattle.occ_net_tables.specs.Settling.{AllBegan, BranchesMayBegin}
use Rattle.occ_net_tables.specs.Tasks.{IsThere}
use Rattle.occ_net_tables.proofs.Between.{there_old}
use Rattle.occ_net_tables.proofs.Branches.{branches_length}
use Rattle.occ_net_tables.proofs.Forked.{forks_to, may_begin, number_within}
use Rattle.occ_net_tables.proofs.OneChange.{set_length}
use Rattle.occ_net_tables.proofs.Waits.{there_of, within_of}
use Rattle.occ_net_tables.proofs.tables.Tables.fork.Goals as goal

pub frames_of-requires : goal.frames_of-requires
frames_of-requires c = subst (λ l. IsThere l c.args.number) (sym c.deref.ensures.value) (there_of c.args.code.now c.args.self.now c.args.number c.args.place (W.Joins c.args.branches) c.requires.mid)

pub remove-requires : goal.remove-requires
remove-requires c = within_of c.args.code.now c.args.self.now c.args.number c.args.place (W.Joins c.args.branches) c.requires.mid

pub take_task-task-requires : goal.take_task-task-requires
take_task-task-requires c = there_of c.args.code.now c.args.self.now c.args.number c.args.place (W.Joins c.args.branches) c.requires.mid

pub begin_all-requires-clause-may : goal.begin_all-requires-clause-may
begin_all-requires-clause-may c =
    let h = c.requires.mid in
    let old = c.args.self.now in
    let between : Tables = record { tasks = c.take_task-task.new.tasks; ready = c.remove.new.self; offering = old.offering; awaiting = old.awaiting; parents = old.parents; unfinished = old.unfinished; fault = old.fault; used = old.used; trace = old.trace } in
    subst (BranchesMayBegin c.args.code.now between) (sym c.as_slice-2.ensures) (may_begin c.args.code.now h.keyboard old c.args.number c.args.place h.after h.net h.mid c.args.branches h.waits between c.take_task-task.ensures.empty c.remove.ensures.items)

pub begin_all-requires-clause-frames : goal.begin_all-requires-clause-frames
begin_all-requires-clause-frames c =
    let t = c.take_task-task.result in
    let there = ap (λ l. slice_get l c.args.number) c.deref.ensures.value ∙ c.take_task-task.ensures.task in
    record {
      frame = t.frame;
      are = c.in-Ok.ensures t there ∙ ap (map (first_frame c.args.code.now.bodies t.frame)) (c.as_slice.ensures ∙ sym c.as_slice-2.ensures);
    }

pub begin_all-requires-clause-room : goal.begin_all-requires-clause-room
begin_all-requires-clause-room c =
    let count = ap length c.as_slice-2.ensures in
    let room = c.requires.room.ready in
    omega (arith, count, room, c.remove.ensures.len, c.remove.ensures.capacity)

pub put_task-requires : goal.put_task-requires
put_task-requires c =
    let h = c.requires.mid in
    let old = c.args.self.now in
    let t = c.take_task-task.result in
    let there = ap (λ l. slice_get l c.args.number) c.deref.ensures.value ∙ c.take_task-task.ensures.task in
    let are = c.in-Ok.ensures t there ∙ ap (map (first_frame c.args.code.now.bodies t.frame)) (c.as_slice.ensures ∙ sym c.as_slice-2.ensures) in
    let began = c.begin_all.ensures t.frame are in
    let l = number_within c.args.code.now h.keyboard old c.args.number c.args.place h.after h.net h.mid c.args.branches h.waits in
    let e : length c.begin_all.new.self.tasks.items ≡ length old.tasks.items = ap length began.tasks ∙ branches_length c.args.code.now.bodies t.frame c.as_slice-2.result.now c.take_task-task.new.tasks.items ∙ ap length c.take_task-task.ensures.empty ∙ set_length old.tasks.items c.args.number None in
    omega (arith, l, e)

pub returns-clause-ok : goal.returns-clause-ok
returns-clause-ok c = λ kb pick after net mid w.
    let p = c.args.code.now in
    let old = c.args.self.now in
    let n = c.args.number in
    let ns = c.args.branches in
    let t = c.take_task-task.result in
    let there = ap (λ l. slice_get l n) c.deref.ensures.value ∙ c.take_task-task.ensures.task in
    let are = c.in-Ok.ensures t there ∙ ap (map (first_frame p.bodies t.frame)) (c.as_slice.ensures ∙ sym c.as_slice-2.ensures) in
    let between : Tables = record { tasks = c.take_task-task.new.tasks; ready = c.remove.new.self; offering = old.offering; awaiting = old.awaiting; parents = old.parents; unfinished = old.unfinished; fault = old.fault; used = old.used; trace = old.trace } in
    let same : t ≡ made_ready after = task_once old.tasks.items n c.take_task-task.ensures.task (there_old p kb old n c.args.place after net mid) in
    let whole : record t { wait = W.Joins ns } ≡ after = ap (λ (t : Task). ready_with t (W.Joins ns)) same ∙ ap (λ (v : Wait). ready_with after v) (sym w) in
    let began : AllBegan p n after.frame between ns c.begin_all.new.self =
    subst (λ l. AllBegan p n after.frame between l c.begin_all.new.self) c.as_slice-2.ensures (subst (λ z. AllBegan p n z.frame between c.as_slice-2.result.now c.begin_all.new.self) same (c.begin_all.ensures t.frame are)) in
    let counts : c.set_count.new.counts.items ≡ slice_set c.begin_all.new.self.unfinished.items n (length ns) = c.set_count.ensures ∙ ap (λ (k : ℕ). slice_set c.begin_all.new.self.unfinished.items n k) c.len.ensures in
    forks_to p kb old n c.args.place after net mid ns w between c.begin_all.new.self _ pick c.take_task-task.ensures.empty c.remove.ensures.items refl refl refl refl refl refl refl began
    (c.put_task.ensures ∙ ap (λ z. slice_set c.begin_all.new.self.tasks.items n (Some z)) whole) refl refl refl refl
    counts refl refl refl
