use Rattle.std.proofs.Common.{◌≡◌, ◌∙◌, length, ap, arith}
use Rattle.occ_proc.proofs.Moving.{counters_stay}
use Rattle.occ_proc.proofs.counters.turn_to.Goals as goal

pub set_left-requires-2 : goal.set_left-requires-2
set_left-requires-2 c =
    let long : length c.set_left.new.self.left ≡ length c.args.frame.now.left =
    ap (λ f. length f.left) c.set_left.ensures ∙ counters_stay c.set_in.new.self.left c.args.slot c.args.left ∙ ap (λ f. length f.left) c.set_in.ensures in
    omega (arith, long, c.requires.counts)
