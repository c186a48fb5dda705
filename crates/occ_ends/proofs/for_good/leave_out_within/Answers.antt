use Rattle.std.proofs.Common.{◌≡◌, ◌≤◌, ◌+◌, ◌∙◌, arith, false, refl, subst, sym}
use Rattle.occ_ends.specs.Endless.{flag}
use Rattle.occ_ends.proofs.Leaving.{stays_beside}
use Rattle.occ_ends.proofs.for_good.leave_out_within.Goals as goal

pub returns-then-not-is_flagged : goal.returns-then-not-is_flagged
returns-then-not-is_flagged c = λ us tasks place there set closed within.
    let p = c.args.process.now in
    let out : flag c.args.flags.now.items p.number ≡ false = subst (λ l. flag l p.number ≡ false) c.deref.ensures.value (sym c.is_flagged.ensures ∙ c.if-not-is_flagged.true) in
    let few : c.saturating_add.result ≤ p.number + 1 + p.within = let is = c.saturating_add.ensures in omega (arith, is) in
    stays_beside us tasks c.args.flags.now.items c.clear.new.flags.items p place (p.number + 1) c.saturating_add.result there out refl few c.clear.ensures set closed within
