use Rattle.std.proofs.Common.{◌≡◌, ◌∙◌, ap, length, map, rules, subst, sym}
use Rattle.occ_ends.specs.Ends.{noted_for}
use Rattle.occ_ends.specs.Endless.{flag}
use Rattle.occ_ends.specs.ForGood.{IsGreatest}
use Rattle.occ_ends.proofs.Leaving.{are_waiting}
use Rattle.occ_ends.proofs.for_good.waiting_in.Goals as goal

pub returns : goal.returns
returns c = λ keyboard net h.
    let p = c.args.code.now in
    let same : c.in-Ok.count ≡ length p.bodies = search rules in
    let many : c.in-Ok.count ≡ length net.tasks = same ∙ sym (ap length h.tasks ∙ h.sized.tasks_are) in
    record {
      set = flag c.as_slice.result.now;
      greatest = subst (λ l. IsGreatest (map noted_for c.args.uses.now) net.tasks (flag l)) (sym c.as_slice.ensures.value) (c.in_ok-flags.ensures keyboard net h);
      are = are_waiting net.tasks c.as_slice.result.now c.in-Ok.count _ many (c.in_ok-numbers.ensures p keyboard net h);
    }
