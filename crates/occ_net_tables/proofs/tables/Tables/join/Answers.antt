use Rattle.std.proofs.Common.{◌≡◌, ◌∙◌, false, refl, sym, ap, Some, None}
use Rattle.std.specs.Prelude.{slice_set}
use mathlib.Core.Bool.{true≢false}
use Rattle.occ_term.specs.Frames.{Variables, is_held}
use Rattle.occ_machine.specs.SameStop.{joined_with}
use Rattle.occ_machine.specs.declared.task.Wait.{Wait}
use Rattle.occ_machine.specs.declared.task.Wait.TheVariants as W
use Rattle.occ_net_replay.specs.Replay.{merged}
use Rattle.occ_net_replay.proofs.Tables.{set_other, task_once}
use Rattle.occ_net_tables.specs.Keys.{set_all}
use Rattle.occ_net_tables.proofs.Branches.{merged_same}
use Rattle.occ_net_tables.proofs.OneChange.{set_twice}
use Rattle.occ_net_tables.proofs.tables.Tables.join.Goals as goal

pub returns : goal.returns
returns c = λ t ns there waits.
    let m = c.args.number in
    let old = c.args.self.now.tasks.items in
    let bodies = c.args.code.now.bodies in
    let same : t ≡ c.take_task-task.result = task_once old m there c.take_task-task.ensures.task in
    let branches : c.in-Joins.branches ≡ ns = (let q = sym c.in-Joins.is ∙ c.replace.ensures.value ∙ ap (λ z. z.wait) (sym same) ∙ waits in cc) in
    let r = c.requires.joining in
    let mine : r.branches ≡ ns = (let q = sym r.waits ∙ ap (λ z. z.wait) (task_once old m r.there there) ∙ waits in cc) in
    let apart : is_held ns m ≡ false = ap (λ l. is_held l m) (sym mine) ∙ r.apart in
    let rest : merged bodies (slice_set old m None) ns t.frame ≡ merged bodies old ns t.frame = merged_same bodies (slice_set old m None) old ns t.frame (λ i h. set_other old m i None (λ e. true≢false (sym h ∙ ap (is_held ns) e ∙ apart))) in
    let list : c.as_slice.result.now ≡ ns = c.as_slice.ensures ∙ branches in
    let list' : c.as_slice-2.result.now ≡ ns = c.as_slice-2.ensures ∙ branches in
    let slots : c.deref.result.now ≡ slice_set old m None = c.deref.ensures.value ∙ c.take_task-task.ensures.empty in
    let frame : c.merge.new.frame ≡ merged bodies old ns t.frame =
    c.merge.ensures ∙ ap (λ l. merged bodies l c.as_slice.result.now c.take_task-task.result.frame) slots ∙ ap (λ l. merged bodies (slice_set old m None) l c.take_task-task.result.frame) list
    ∙ ap (λ z. merged bodies (slice_set old m None) ns z.frame) (sym same) ∙ rest in
    let whole : (f : Variables) (w : Wait) → f ≡ merged bodies old ns t.frame → w ≡ W.Ready → record c.take_task-task.result { frame = f; wait = w } ≡ joined_with t (merged bodies old ns t.frame) = λ f w e r. ap (λ g. record c.take_task-task.result { frame = g; wait = w }) e ∙ ap (λ v. record c.take_task-task.result { frame = merged bodies old ns t.frame; wait = v }) r ∙ ap (λ z. joined_with z (merged bodies old ns t.frame)) (sym same) in
    record {
      tasks =
          c.put_task.ensures ∙ ap (λ l. slice_set l m (Some (record c.take_task-task.result { frame = c.merge.new.frame; wait = c.replace.new.dest }))) c.take_task-task.ensures.empty
          ∙ set_twice old m None (Some (record c.take_task-task.result { frame = c.merge.new.frame; wait = c.replace.new.dest })) ∙ ap (λ z. slice_set old m (Some z)) (whole c.merge.new.frame c.replace.new.dest frame c.replace.ensures.after);
      ready = c.insert.ensures.items;
      parents = c.clear_entries.ensures ∙ ap (λ l. set_all l None c.args.self.now.parents.items) list';
      offering = refl;
      awaiting = refl;
      unfinished = refl;
      fault = refl;
      used = refl;
      trace = refl;
    }
