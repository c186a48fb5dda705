use Rattle.std.proofs.Common.{get_or, refl}
use Rattle.occ_usage.specs.Noted.{use_of, between}
use Rattle.occ_usage.specs.declared.noted.Use.{Use}
use Rattle.occ_usage.specs.declared.noted.Kind.TheVariants.{Read}
use Rattle.occ_usage.proofs.UseSets.{adds_one, item_at, left_next, left_none}
use Rattle.occ_usage.proofs.noted.Noted.extend.Goals as goal

pub returns : goal.returns
returns c = left_none _ refl _ _ _ _ c.loop-one-test.false c.loop-one.invariant

abbrev no_use_at : Use
no_use_at = record { kind = Read; first = 0; end = 0; line = 0; order = 0 }

pub loop-one-preserved : goal.loop-one-preserved
loop-one-preserved c =
    left_next _ (λ u. use_of u.kind (between u.first u.end)) (λ x xs. refl) _ _ (get_or c.args.list.now c.loop-one.one-index no_use_at) _ _ _ c.loop-one-test.true
    (item_at c.args.list.now c.loop-one.one-index no_use_at _ c.loop-one-test.true) c.loop-one.invariant (adds_one _ c.in_ok-push.ensures.ok)
