use Rattle.std.proofs.Common.{length, ◌≡◌, ◌++◌, ◌-◌}
use Rattle.occ_check_meaning.specs.Numbers.{component_names, from_number}
use Rattle.occ_term.specs.Names.{component_name}
use Rattle.occ_check_lines.proofs.numbers.+component_names.Given as goal

abbrev pub decreases-component_names : goal.decreases-component_names
decreases-component_names l = length l.sizes.now

abbrev pub invariant-loop-k : goal.invariant-loop-k
invariant-loop-k l =
    l.names.items ++ from_number (λ k. component_names (component_name l.name k) l.others) (l.k-end - l.k) l.k
    ≡ l.initial.names.items ++ from_number (λ k. component_names (component_name l.name k) l.others) l.k-end 0
