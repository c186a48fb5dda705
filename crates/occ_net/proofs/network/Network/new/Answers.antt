use Rattle.std.proofs.Common.{arith, ◌≡◌, ◌∙◌, Bool, List, [], ap, length, subst, sym, ℕ}
use Rattle.std.proofs.lemmas.List.{length-replicate}
use Rattle.std.specs.Prelude.{false, replicate}
use Rattle.occ_net_replay.specs.declared.choice.Choice.{Choice}
use Rattle.occ_net_replay.specs.Following.{AreBytes}
use Rattle.occ_net.specs.Keeping.{KeepsReplay}
use Rattle.occ_net.proofs.States.{all_bytes, kept_fresh}
use Rattle.occ_net.proofs.network.Network.new.Goals as goal

pub invariant_of-result : goal.invariant_of-result
invariant_of-result c =
    let p = c.args.code in
    let kb : List ℕ = c.args.keyboard.items in
    let bytes : AreBytes kb = all_bytes kb (λ i d l. omega arith) in
    let none : replicate (length p.bodies) false ≡ c.in_ok-out.out.items = ap (λ n. replicate n false) (sym c.len.ensures) ∙ sym c.in_ok-out.ensures in
    subst (λ (cs : List Choice). KeepsReplay record { program = p; keyboard = kb; choices = cs; out = c.in_ok-out.out.items } c.in_ok-tables.tables) (sym c.new-2.ensures.items)
    (subst (λ (out : List Bool). KeepsReplay record { program = p; keyboard = kb; choices = []; out = out } c.in_ok-tables.tables) none
    (kept_fresh p kb c.in_ok-tables.tables c.compiled.ensures bytes c.in_ok-tables.ensures (length-replicate (length p.bodies) false)))
