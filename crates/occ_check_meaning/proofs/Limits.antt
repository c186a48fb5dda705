-- Whatever a program unfolds to keeps the limits.
use Rattle.std.proofs.Common.{◌≡◌, ◌≤◌, ℕ, ◌+◌, List, Some, refl, subst, arith}
use Rattle.std.specs.Prelude.{nat_le}
use Rattle.std.proofs.lemmas.Bool.{leb-true}
use Rattle.occ_tree_grammar.specs.Processes.Trees.{Item}
use Rattle.occ_term.specs.Sizes.{Size, size_of}
use Rattle.occ_term.specs.Terms.{Term}
use Rattle.occ_check_meaning.specs.Numbers.{Numbers, at_start, more_processes, most_depth, most_nodes, most_processes, room}
use Rattle.occ_check_meaning.specs.ProgramUnfolding.{ProgramUnfolding}
use Rattle.occ_check_meaning.specs.Limits.{KeepsLimits}
use Rattle.occ_check_meaning.proofs.Counting.{both_true, kept}
use Rattle.occ_check_meaning.proofs.CountingTree.{program_counted}
use Rattle.occ_check_meaning.proofs.Growth.{program_grown, start_limits}
use Rattle.occ_check_meaning.proofs.Stepping.{Stepping}
use Rattle.occ_check_meaning.proofs.TreeSteps.{program_steps}

-- no more nodes and processes than there may be
record AreFew (n : Numbers) : Type 0 where
  nodes : n.nodes ≤ most_nodes
  processes : n.processes ≤ most_processes

abbrev StayFew : Numbers → Numbers → Type 0
StayFew n m = AreFew n → AreFew m

room_few : (depth : ℕ) (s : Size) (n m : Numbers) → room depth s n ≡ Some m → StayFew n m
room_few depth s n m e h =
    let k = kept _ _ m e in
    let b = both_true (nat_le (depth + s.depth) most_depth) (nat_le (n.nodes + s.nodes) most_nodes) k.0 in
    subst AreFew k.1 (record { nodes = leb-true (n.nodes + s.nodes) most_nodes b.1; processes = h.processes })

processes_few : (n m : Numbers) → more_processes n ≡ Some m → StayFew n m
processes_few n m e h =
    let k = kept _ _ m e in
    subst AreFew k.1 (record { nodes = h.nodes; processes = leb-true (n.processes + 1) most_processes k.0 })

staying : Stepping StayFew
staying = record {
  same = λ n h. h;
  chained = λ n m l f g h. g (f h);
  by_cells = λ type x sizes n m e h. subst AreFew (kept _ _ m e).1 (record { nodes = h.nodes; processes = h.processes });
  by_channels = λ p x sizes n m e h. subst AreFew (kept _ _ m e).1 (record { nodes = h.nodes; processes = h.processes });
  by_protocols = λ n h. record { nodes = h.nodes; processes = h.processes };
  by_room = room_few;
}

start_few : AreFew at_start
start_few = record { nodes = leb-true 0 100000 refl; processes = leb-true 1 4096 refl }

pub keeps_limits : {items : List Item} {t : Term} {m : Numbers} → ProgramUnfolding items t m → KeepsLimits t m
keeps_limits {t = t} {m = m} u =
    let few = program_steps StayFew staying processes_few u start_few in
    let limits = (program_grown u).limits start_limits in
    let counted = program_counted u in
    let all : m.nodes ≡ 0 + (size_of t).nodes = counted.nodes in
    let below : m.nodes ≤ most_nodes = few.nodes in
    let deep : (size_of t).depth ≤ 200 = counted.deep in
    record { cells = limits.cells; channels = limits.channels; processes = few.processes; nodes = omega (arith, all, below); depth = deep }
