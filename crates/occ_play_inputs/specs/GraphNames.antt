-- How a graph is written, by the name of its file.
-- Manual: nothing; this is (own).
use Rattle.std.specs.List.{ends_with}
use Rattle.std.specs.Prelude.{Bool, List, codes, if◌then◌else◌, nat_eq, ℕ, ◌||◌}
use Rattle.occ_explore.specs.declared.exploration.GraphForm.{GraphForm}
use Rattle.occ_explore.specs.declared.exploration.GraphForm.TheVariants.{Aldebaran, Graphviz}

abbrev pub is_graph_name : (path : List ℕ) → Bool
is_graph_name path = ends_with nat_eq path (codes ".aut") || ends_with nat_eq path (codes ".dot") || ends_with nat_eq path (codes ".gv")

abbrev pub named_form : (path : List ℕ) → GraphForm
named_form path = if ends_with nat_eq path (codes ".dot") || ends_with nat_eq path (codes ".gv") then Graphviz else Aldebaran
