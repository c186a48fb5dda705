-- How a turn ended, and the task that it came to.
use Rattle.std.proofs.Common.{◌≡◌, ◌∙◌, refl, ap, ℕ, Some}
use Rattle.std.specs.Prelude.{slice_set}
use Rattle.occ_machine.specs.SameStop.{ready_with}
use Rattle.occ_machine.specs.Machine.{Body, Stopping}
use Rattle.occ_machine.specs.declared.task.Task.{Task}
use Rattle.occ_machine.specs.declared.task.Wait.{Wait}
use Rattle.occ_machine.specs.declared.task.Wait.TheVariants as W
use Rattle.occ_net_replay.specs.Replay.{Tasks, made_ready}
use Rattle.occ_net_tables.specs.Tasks.{Advanced}
use Rattle.occ_net_tables.proofs.OneChange.{set_twice}

-- what the process stands at was handed over
pub handed_over : (body : Body) (old : Tasks) (n : ℕ) (t last : Task) (wait : Wait) (new : Tasks) → Stopping body t (ready_with last wait) → last.wait ≡ W.Ready → new ≡ slice_set old n (Some last) → Advanced body old n t wait new
handed_over body old n t last wait new stops left is = record { after = ready_with last wait; stops = stops; waits = refl; is = is ∙ ap (λ v. slice_set old n (Some (ready_with last v))) left }

-- it was taken out of the task
pub taken_out : (body : Body) (old : Tasks) (n : ℕ) (t last : Task) (between new : Tasks) → Stopping body t (ready_with last last.wait) → between ≡ slice_set old n (Some last) → new ≡ slice_set between n (Some (made_ready last)) → Advanced body old n t last.wait new
taken_out body old n t last between new stops is out = record { after = last; stops = stops; waits = refl; is = out ∙ ap (λ l. slice_set l n (Some (made_ready last))) is ∙ set_twice old n (Some last) (Some (made_ready last)) }
