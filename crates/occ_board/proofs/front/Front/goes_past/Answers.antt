use Rattle.std.proofs.Common.{List, ap, subst, refl}
use mathlib.Core.List.{IsPrefix}
use Rattle.occ_board.specs.declared.shown.Edition.{Edition}
use Rattle.occ_board.proofs.Histories.{in_order}
use Rattle.occ_board.proofs.front.Front.goes_past.Goals as goal

pub returns : goal.returns
returns c =
    let mine = c.self.inside.seen.log in
    let yours = c.other.inside.seen.log in
    let both = c.learn.new.self.log in
    let this : IsPrefix mine both = subst (λ (l : List Edition). IsPrefix l both) (ap (λ s. s.log) c.again-both.ensures) c.learn.ensures.2 in
    rw (← c.self.view_is, ← c.other.view_is, c.self.invariant.0, c.other.invariant.0)
    (in_order mine yours both this c.learn.ensures.3 c.self.invariant.1 c.other.invariant.1 _ refl)
