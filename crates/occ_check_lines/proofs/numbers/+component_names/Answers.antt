use Rattle.occ_check_meaning.specs.Numbers.{component_names}
use Rattle.occ_term.specs.Names.{component_name}
use Rattle.occ_check_lines.proofs.ComponentNames.{names_next, no_more_names}
use Rattle.occ_check_lines.proofs.numbers.+component_names.Goals as goal

pub loop-k-preserved : goal.loop-k-preserved
loop-k-preserved t c =
    names_next (λ k. component_names (component_name c.args.name.now k) c.in-Some.others.now) c.in-Some.size.now c.loop-k.k c.loop-k.names.items _ _ c.loop-k-test.true
    (cc (c.in_ok-component_names-in-Some.ensures, c.in_ok-component-in-Some.ensures, c.in_ok-array-in-Some.ensures)) c.loop-k.invariant

pub returns-after-loop-k : goal.returns-after-loop-k
unfolding component_names
returns-after-loop-k t c =
    let e = no_more_names (λ k. component_names (component_name c.args.name.now k) c.in-Some.others.now) c.in-Some.size.now c.loop-k.k c.loop-k.names.items _ c.loop-k-test.false c.loop-k.invariant in
    rw c.in-Some.ensures.cases.0 e
