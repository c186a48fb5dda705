-- An unfolded program: its term, its cells and its channels, each with its declared name.
-- Manual: scope, procedures. The numbers of cells, channels and processes: (own).
use Rattle.std.specs.Prelude.{List, [], codes, length, map, slice_get, ℕ, ◌++◌, ◌+◌, ◌∷◌, ◌≡◌, ◌≤◌, ⊤}
use Rattle.occ_term.specs.Messages.{Byte, Simple}
use Rattle.occ_term.specs.Terms as T
use Rattle.occ_term.specs.Uses as Uses
use Rattle.occ_term.specs.TermTyping.{Declared, TermHas}
use Rattle.occ_term.specs.Processes.{Numbered, processes_of}
use Rattle.occ_term.specs.View.{term_of}
use Rattle.occ_term.specs.declared.term.Term.{Term}
use Rattle.occ_term.specs.declared.names.Cell.{Cell}
use Rattle.occ_term.specs.declared.names.Channel.{Channel}

pub record UnfoldedProgram : Type 0 where
  pub term : Term
  pub cells : List Cell
  pub channels : List Channel

-- the term as the definitions have it
abbrev pub meaning : UnfoldedProgram → T.Term
meaning u = term_of u.term

abbrev pub declared : UnfoldedProgram → Declared
declared u = record { types = λ c. slice_get (map (λ x. x.primitive) u.cells) c; protocols = λ c. slice_get (map (λ x. x.protocol) u.channels) c }

-- a channel of bytes
abbrev pub byte_channel : List ℕ → Channel
byte_channel name = record { name = name; protocol = Simple [] Byte }

-- channel 0 is the keyboard, 1 the screen, 2 the error channel
abbrev pub first_channels : List Channel
first_channels = byte_channel (codes "keyboard") ∷ byte_channel (codes "screen") ∷ byte_channel (codes "error") ∷ []

-- processes numbered from n on
abbrev pub NumberedFrom : ℕ → List Numbered → Type 0
NumberedFrom n [] = ⊤
NumberedFrom n (p ∷ ps) = (p.number ≡ n) × NumberedFrom (n + 1) ps

-- how many cells and channels there may be (own)
abbrev pub most_cells : ℕ
most_cells = 1048576

abbrev pub most_channels : ℕ
most_channels = 4096

-- Every expression, target and item has the type of its place; the first three channels are there, and no more cells and
-- channels than there may be; processes have their numbers in the order in which they begin in the term.
pub record IsWellFormed (u : UnfoldedProgram) : Type 0 where
  pub others : List Channel
  pub begins : u.channels ≡ first_channels ++ others
  pub few_cells : length u.cells ≤ most_cells
  pub few_channels : length u.channels ≤ most_channels
  pub typed : TermHas (declared u) (meaning u)
  pub numbers : NumberedFrom 0 (processes_of (meaning u))

-- the usage rules hold of its term
abbrev pub Lawful : UnfoldedProgram → Type 0
Lawful u = Uses.Lawful (meaning u)
