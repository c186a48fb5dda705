use Rattle.std.proofs.Common.{◌≡◌, ◌∙◌, ◌⊎◌, inl, inr, ap, refl, true, IsTrue, Some}
use Rattle.std.specs.Prelude.{slice_get}
use Rattle.occ_explore_laws.proofs.Lists.{at_index, set_many}
use Rattle.occ_ends.specs.Endless.{StandsInLoop, flag, is_set}
use Rattle.occ_ends.proofs.Flagging.{gets, has_none, is_endless, is_not}
use Rattle.occ_ends.proofs.endless.flag_process.Goals as goal

pub returns-in_default : goal.returns-in_default
returns-in_default c = record { many = refl; one = λ keyboard net h f. has_none f (λ t there. c.in_default.ensures.none c.args.code.now keyboard net t h there) }

pub returns-then-not-is_endless : goal.returns-then-not-is_endless
returns-then-not-is_endless c =
    let flags = c.args.flags.now.items in
    let n = c.args.number in
    let at : slice_get flags n ≡ Some c.index.result.now = at_index flags n c.index.result.now c.requires c.index.ensures in
    let not = c.is_endless.ensures.no c.if-not-is_endless.true in
    record { many = refl; one = λ keyboard net h f. is_not f c.in-Some.task.now (c.in-Some.ensures.some c.args.code.now keyboard net h) (ap is_set at ∙ not.0) not.1 }

pub returns : goal.returns
returns c =
    let flags = c.args.flags.now.items in
    let n = c.args.number in
    let at : slice_get flags n ≡ Some c.index.result.now = at_index flags n c.index.result.now c.requires c.index.ensures in
    let yes : IsTrue (flag flags n) ⊎ StandsInLoop c.args.code.now.bodies n c.in-Some.task.now.pc =
    elim (c.is_endless.ensures.yes c.if-not-is_endless.false) [ inl h ↦ inl (ap is_set at ∙ h) | inr h ↦ inr h ] in
    record {
      many = c.flag_below.ensures.many ∙ set_many flags n true;
      one = λ keyboard net h f.
          let there = c.in-Some.ensures.some c.args.code.now keyboard net h in
          gets f c.in-Some.task.now c.flag_below.new.flags.items there c.requires (is_endless f c.in-Some.task.now there yes) c.flag_below.ensures;
    }
