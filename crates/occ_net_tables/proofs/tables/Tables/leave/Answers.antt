use Rattle.std.proofs.Common.{◌≡◌, ◌∙◌, [], refl, sym, ap, Some, None}
use Rattle.std.specs.Prelude.{slice_get}
use Rattle.occ_net_replay.specs.Replay.{arm_chosen}
use Rattle.occ_net_replay.specs.Waiting.{channels_at, channels_of}
use Rattle.occ_net_tables.specs.Choosing.{offered_by}
use Rattle.occ_net_tables.specs.Keys.{set_all}
use Rattle.occ_net_tables.proofs.Arms.{chosen_where, choice_of, input_of, no_other}
use Rattle.occ_net_tables.proofs.tables.Tables.leave.Goals as goal

pub unreachable-requires : goal.unreachable-requires
unreachable-requires c =
    let r = c.requires in
    let wait = (c.take_wait.ensures r.task r.there).waits ∙ c.in-Chooses.is in
    let none : arm_chosen c.in-Chooses.pri c.args.pick (offered_by (Some c.args.chan) []) c.in-Chooses.arms ≡ None = chosen_where c.in-Chooses.pri c.args.pick (Some c.args.chan) (Some c.args.chan) [] [] c.as_slice-in-Chooses.result.now c.in-Chooses.arms None c.in-None.ensures.arm refl refl c.as_slice-in-Chooses.ensures in
    let q : Some r.arm ≡ None = sym (choice_of c.in-Chooses.pri c.in-Chooses.arms r.takes wait) ∙ none in
    cc

pub unreachable-requires-in_default : goal.unreachable-requires-in_default
unreachable-requires-in_default c =
    let r = c.requires in
    let waits = (c.take_wait.ensures r.task r.there).waits in
    no_other r.takes (λ d e. c.in_default.not-Awaits d (sym waits ∙ e)) (λ pri arms e. c.in_default.not-Chooses pri arms (sym waits ∙ e))

pub returns-in-Awaits-clause-arm : goal.returns-in-Awaits-clause-arm
returns-in-Awaits-clause-arm c = λ t a there takes. c.input_arm.ensures ∙ sym (input_of c.in-Awaits.own takes ((c.take_wait.ensures t there).waits ∙ c.in-Awaits.is))

pub returns-in-Awaits-clause-left : goal.returns-in-Awaits-clause-left
returns-in-Awaits-clause-left c = λ t there.
    let taken = c.take_wait.ensures t there in
    record {
      tasks = taken.is;
      awaiting = c.set_entry.ensures ∙ ap (λ w. set_all (channels_at w) None c.args.self.now.awaiting.items) (sym (taken.waits ∙ c.in-Awaits.is));
      ready = refl;
      offering = refl;
      parents = refl;
      unfinished = refl;
      fault = refl;
      used = refl;
      trace = refl;
    }

pub returns-in-Some-clause-arm : goal.returns-in-Some-clause-arm
returns-in-Some-clause-arm c = λ t a there takes.
    let arms = c.in-Chooses.arms in
    let pri = c.in-Chooses.pri in
    let item : Some c.remove.result ≡ arm_chosen pri c.args.pick (offered_by (Some c.args.chan) []) c.as_slice-in-Chooses.result.now = sym c.remove.ensures.item ∙ ap (λ l. slice_get l c.in-Some.at) (sym c.as_slice-in-Chooses.ensures) ∙ c.in-Some.ensures.arm in
    let chosen : arm_chosen pri c.args.pick (offered_by (Some c.args.chan) []) arms ≡ Some c.remove.result = chosen_where pri c.args.pick (Some c.args.chan) (Some c.args.chan) [] [] c.as_slice-in-Chooses.result.now arms (Some c.remove.result) item refl refl c.as_slice-in-Chooses.ensures in
    let q : Some c.remove.result ≡ Some a = sym chosen ∙ choice_of pri arms takes ((c.take_wait.ensures t there).waits ∙ c.in-Chooses.is) in
    cc

pub returns-in-Some-clause-left : goal.returns-in-Some-clause-left
returns-in-Some-clause-left c = λ t there.
    let taken = c.take_wait.ensures t there in
    record {
      tasks = taken.is;
      awaiting = c.set_arms.ensures ∙ ap (λ l. set_all (channels_of l) None c.args.self.now.awaiting.items) c.as_slice.ensures ∙ ap (λ w. set_all (channels_at w) None c.args.self.now.awaiting.items) (sym (taken.waits ∙ c.in-Chooses.is));
      ready = refl;
      offering = refl;
      parents = refl;
      unfinished = refl;
      fault = refl;
      used = refl;
      trace = refl;
    }
