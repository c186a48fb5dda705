-- The numbers that are given out while a tree is unfolded: each step gives out the next ones, and none where a limit is passed.
-- Manual: nothing; the numbers and the limits are (own).
use Rattle.std.specs.Prelude.{List, Option, [], length, map, nat_le, zero, suc, ℕ, ◌&&◌, ◌+◌, ◌++◌, ◌∷◌}
use Rattle.occ_term.specs.declared.primitive.Primitive.{Primitive}
use Rattle.occ_term.specs.declared.names.Cell.{Cell}
use Rattle.occ_term.specs.declared.names.Channel.{Channel}
use Rattle.occ_term.specs.declared.protocol.Protocol.{Protocol}
use Rattle.occ_term.specs.Messages.{product}
use Rattle.occ_term.specs.Names.{component_name}
use Rattle.occ_term.specs.Sizes.{Size}
use Rattle.occ_term.specs.UnfoldedProgram.{first_channels, most_cells, most_channels}
use Rattle.occ_check_meaning.specs.Scope.{Name, keep}

-- The cells and the channels that are declared so far, each with its name, and how many processes, named protocols and nodes
-- there are so far.
pub record Numbers : Type 0 where
  pub cells : List Cell
  pub channels : List Channel
  pub processes : ℕ
  pub protocols : ℕ
  pub nodes : ℕ

-- the main process is number 0, and the keyboard, the screen and the error channel are there
abbrev pub at_start : Numbers
at_start = record { cells = []; channels = first_channels; processes = 1; protocols = 0; nodes = 0 }

-- ---- the names of components: `a[2]`, and the last subscript moves fastest

-- so many, from number k on
unfoldable pub from_number : (ℕ → List Name) → (count k : ℕ) → List Name
from_number names zero k = []
from_number names (suc count) k = names k ++ from_number names count (k + 1)

unfoldable pub component_names : Name → List ℕ → List Name
component_names x [] = x ∷ []
component_names x (n ∷ ns) = from_number (λ k. component_names (component_name x k) ns) n 0

abbrev pub cell : Primitive → Name → Cell
cell type x = record { name = x; primitive = type }

abbrev pub channel : Protocol → Name → Channel
channel protocol x = record { name = x; protocol = protocol }

-- ---- what is given out

-- (refusal: too large) the cells of a variable, a named value or an index
abbrev pub more_cells : Primitive → Name → List ℕ → Numbers → Option Numbers
more_cells type x sizes n = keep (nat_le (length n.cells + product sizes) most_cells)
    (record n { cells = n.cells ++ map (cell type) (component_names x sizes) })

-- (refusal: too large) the channels of a declaration
abbrev pub more_channels : Protocol → Name → List ℕ → Numbers → Option Numbers
more_channels protocol x sizes n = keep (nat_le (length n.channels + product sizes) most_channels)
    (record n { channels = n.channels ++ map (channel protocol) (component_names x sizes) })

abbrev pub most_processes : ℕ
most_processes = 4096

-- (refusal: too large) a branch of a PAR
abbrev pub more_processes : Numbers → Option Numbers
more_processes n = keep (nat_le (n.processes + 1) most_processes) (record n { processes = n.processes + 1 })

-- a declaration of a protocol, for which there is no limit
abbrev pub more_protocols : Numbers → Numbers
more_protocols n = record n { protocols = n.protocols + 1 }

abbrev pub most_nodes : ℕ
most_nodes = 100000

abbrev pub most_depth : ℕ
most_depth = 200

-- (refusal: too large) so many levels more, none of which is a node, under so many that stand round them
abbrev pub deeper : ℕ → (levels : ℕ) → Option ℕ
deeper depth levels = keep (nat_le (depth + levels) most_depth) (depth + levels)

-- (refusal: too large) nodes of this size, under so many nodes that stand round them
abbrev pub room : ℕ → Size → Numbers → Option Numbers
room depth size n = keep (nat_le (depth + size.depth) most_depth && nat_le (n.nodes + size.nodes) most_nodes)
    (record n { nodes = n.nodes + size.nodes })
