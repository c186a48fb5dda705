use Rattle.std.proofs.Common.{◌≡◌, ℕ, get_or, ap, sym, ◌∙◌}
use Rattle.std.specs.Prelude.{false, true}
use Rattle.occ_term.specs.Uses.{Uses}
use Rattle.occ_usage.specs.Noted.{breaking, uses_in}
use Rattle.occ_usage.specs.declared.noted.Use.{Use}
use Rattle.occ_usage.specs.declared.noted.Rule.{Rule}
use Rattle.occ_usage.specs.declared.noted.Kind.TheVariants.{Read}
use Rattle.occ_usage.proofs.Branches.{scan_found, scan_next, scan_none, use_at}
use Rattle.occ_usage.proofs.UseSets.{item_at}
use Rattle.occ_usage.proofs.clashes.clash_between.Goals as goal

abbrev no_use_at : Use
no_use_at = record { kind = Read; first = 0; end = 0; line = 0; order = 0 }

pub loop-one-preserved : goal.loop-one-preserved
loop-one-preserved c =
    let one = get_or c.args.right.now c.loop-one.one-index no_use_at in
    let inside = c.loop-one-test.true in
    let misses : (rule : Rule) (n : ℕ) → breaking rule n (uses_in c.args.left.now) (use_at one) ≡ false =
    λ rule n. ap (λ (u : Uses). breaking rule n u (use_at one)) (sym c.in_ok-all.ensures.uses) ∙ c.clash_of.ensures.none c.in-None.is rule n in
    scan_next _ _ _ one inside (item_at c.args.right.now c.loop-one.one-index no_use_at one inside) c.loop-one.invariant misses

pub returns-in-Some : goal.returns-in-Some
returns-in-Some c =
    let one = get_or c.args.right.now c.loop-one.one-index no_use_at in
    let inside = c.loop-one-test.true in
    let f = c.in-Some.found in
    let hits : breaking f.rule f.number (uses_in c.args.left.now) (use_at one) ≡ true =
    ap (λ (u : Uses). breaking f.rule f.number u (use_at one)) (sym c.in_ok-all.ensures.uses) ∙ c.clash_of.ensures.some f c.in-Some.is in
    scan_found _ _ _ one f inside (item_at c.args.right.now c.loop-one.one-index no_use_at one inside) c.loop-one.invariant hits

pub returns : goal.returns
returns c = scan_none _ _ _ c.loop-one-test.false c.loop-one.invariant
