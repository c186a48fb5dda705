use Rattle.std.proofs.Common.{◌≡◌, ◌∙◌, ◌∷◌, ◌++◌, [], ℕ, List, refl, sym, ap, length, replicate, Some, None, Option}
use Rattle.std.specs.Prelude.{slice_get, slice_set}
use Rattle.occ_term.specs.declared.names.Channel.{Channel}
use Rattle.occ_term.specs.Frames.{Variables, zero_frame}
use Rattle.occ_machine.specs.Machine.{Body}
use Rattle.occ_machine.specs.declared.task.Task.{Task}
use Rattle.occ_net_replay.specs.Replay.{first_task}
use Rattle.occ_net_tables.proofs.Start.{main_there, starts}
use Rattle.occ_net_tables.proofs.tables.Tables.new.Goals as goal

pub unreachable-requires : goal.unreachable-requires
unreachable-requires c = main_there c.args.code.now c.compiled.ensures c.in_default.ensures.none

pub returns : goal.returns
returns c = λ kb.
    let p = c.args.code.now in
    let body : Body = c.deref.result.now in
    let has : slice_get p.bodies 0 ≡ Some body = c.in-Some.ensures.some ∙ ap Some (sym c.deref.ensures) in
    let second : c.deref-2.result.now ≡ body = c.deref-2.ensures ∙ sym c.deref.ensures in
    let loops : c.loops.result ≡ body.loops = c.loops.ensures ∙ ap (λ (b : Body). b.loops) second in
    let frame : c.in_ok-frame.frame ≡ zero_frame body.cells body.loops = c.in_ok-frame.ensures ∙ ap (λ (l : List ℕ). zero_frame l c.loops.result) c.cells.ensures ∙ ap (λ (k : ℕ). zero_frame body.cells k) loops in
    let slots : c.in_ok-tasks.tasks.items ≡ replicate (length p.bodies) None = c.in_ok-tasks.ensures ∙ ap (λ (k : ℕ). replicate k None) c.len-count.ensures in
    let tasks = c.put_task.ensures ∙ ap (λ (f : Variables). slice_set c.in_ok-tasks.tasks.items 0 (Some (first_task 0 0 f))) frame ∙ ap (λ (l : List (Option Task)). slice_set l 0 (Some (first_task 0 0 (zero_frame body.cells body.loops)))) slots in
    let channels = λ (l : List Channel). replicate {A = Option ℕ} (length l) None in
    let ready = c.in_ok-push.ensures.items ∙ ap (λ (l : List ℕ). l ++ 0 ∷ []) c.new-ready.ensures.items in
    let empty = λ (k : ℕ). replicate {A = Option ℕ} k None in
    starts p kb _ body has tasks ready (c.in_ok-offering.ensures ∙ ap channels c.channels-channels.ensures) (c.in_ok-awaiting.ensures ∙ ap channels c.channels-channels.ensures) (c.in_ok-parents.ensures ∙ ap empty c.len-count.ensures) (c.in_ok-unfinished.ensures ∙ ap (λ (k : ℕ). replicate {A = ℕ} k 0) c.len-count.ensures) refl refl c.new-trace.ensures
