use Rattle.std.proofs.Common.{arith, ◌≡◌, ◌∙◌, ◌<◌, ◌^◌, Bool, List, ap, length, rules, subst, sym, take, ℕ}
use Rattle.std.proofs.lemmas.List.{length-replicate}
use Rattle.std.specs.Prelude.{false, replicate}
use Rattle.occ_choices.specs.Plans.{choices_of}
use Rattle.occ_net_tables.specs.declared.running.Keep.TheVariants.{Places}
use Rattle.occ_net_tables.specs.Outcomes.{IsRan}
use Rattle.occ_net_replay.specs.Following.{AreBytes}
use Rattle.occ_net.specs.Keeping.{KeepsReplay}
use Rattle.occ_net.proofs.CameTo.{outcome_is}
use Rattle.occ_net.proofs.States.{all_bytes, kept_run}
use Rattle.occ_net.proofs.outcome.run.Goals as goal

pub invariant_of-network : goal.invariant_of-network
invariant_of-network c =
    let p = c.args.code in
    let kb : List ℕ = c.args.keyboard.items in
    let bytes : AreBytes kb = all_bytes kb (λ i d l. omega arith) in
    let few : length c.in_ok-kept.field-0.kept.items < 2 ^ 64 = search rules in
    let r : IsRan p kb (choices_of c.args.plan.now) Places c.in_ok-kept.field-0 = rw c.deref.ensures.value at c.in_ok-kept.ensures in
    let none : replicate (length p.bodies) false ≡ c.in_ok-out.out.items = ap (λ n. replicate n false) (sym c.len-2.ensures) ∙ sym c.in_ok-out.ensures in
    subst (λ (out : List Bool). KeepsReplay record { program = p; keyboard = kb; choices = c.in_ok-kept.field-0.kept.items; out = out } c.in_ok-kept.field-0.tables) none
    (kept_run p kb r.given c.in_ok-kept.field-0.kept.items c.in_ok-kept.field-0.tables r.run c.compiled.ensures bytes few (length-replicate (length p.bodies) false))

pub returns-in-Ok-clause-ok : goal.returns-in-Ok-clause-ok
returns-in-Ok-clause-ok c =
    let p = c.args.code in
    let kb : List ℕ = c.args.keyboard.items in
    let r : IsRan p kb (choices_of c.args.plan.now) Places c.in_ok-kept.field-0 = rw c.deref.ensures.value at c.in_ok-kept.ensures in
    let none : c.in_ok-out.out.items ≡ replicate (length p.bodies) false = c.in_ok-out.ensures ∙ ap (λ n. replicate n false) c.len-2.ensures in
    let count : c.len.result ≡ length c.in_ok-kept.field-0.kept.items = c.len.ensures ∙ c.in_ok-kept.field-0.kept.ok.0 in
    outcome_is p kb (choices_of c.args.plan.now) c.in_ok-kept.field-0 r c.in-Ok.outcome _ (ap (λ (out : List Bool). record { program = p; keyboard = kb; choices = c.in_ok-kept.field-0.kept.items; out = out }) none)
    c.in-Ok.ensures.network (ap (λ v. v.items) c.in-Ok.ensures.choices ∙ c.in_ok-choices.ensures ∙ ap (λ n. take n (choices_of c.args.plan.now)) count) c.in-Ok.ensures.shows
