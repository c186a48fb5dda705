-- The copies of a replicated PAR, and what is checked and counted before them.
-- Manual: combining processes; replicators.
use Rattle.std.specs.Prelude.{List, Option, Result, Some, ℕ, ℤ}
use Rattle.occ_tree_grammar.specs.Lines.Trees as L
use Rattle.occ_tree_grammar.specs.Many.{◌>>=◌}
use Rattle.occ_tree_grammar.specs.Lines.Views.{replicator_of}
use Rattle.occ_tree_grammar.specs.Processes.Views.{process_of}
use Rattle.occ_tree_grammar.specs.declared.tree.line.Replicator.{Replicator}
use Rattle.occ_tree_grammar.specs.declared.tree.process.Process.{Process}
use Rattle.occ_term.specs.Sizes as Sizes
use Rattle.occ_term.specs.Terms as T
use Rattle.occ_term.specs.Terms.{Branches, Term, and_branch}
use Rattle.occ_term.specs.View.{branches_of}
use Rattle.occ_term.specs.declared.term.Branch.{Branch}
use Rattle.occ_check_meaning.specs.Numbers as N
use Rattle.occ_check_meaning.specs.Declarations.{copies_of, index_of}
use Rattle.occ_check_meaning.specs.Numbers.{Numbers, more_processes, room}
use Rattle.occ_check_meaning.specs.Performing.{Calling, Under, Unfolds, copied, copies_beside}
use Rattle.occ_check_meaning.specs.Recursion.{unfolded}
use Rattle.occ_check_meaning.specs.Scope.{Names, Scope, within}
use Rattle.occ_check_lines.specs.Reading.{OfLine}
use Rattle.occ_check_lines.specs.View.{Unfolds as UnfoldsCode}
use Rattle.occ_check_lines.specs.declared.fault.CheckFault.{CheckFault}
use Rattle.occ_check_lines.specs.declared.scope.Position.{Position}
use Rattle.occ_check.specs.declared.here.Here.{Here}
use Rattle.occ_check.specs.declared.unfolder.Unfolder.{Unfolder}
use Rattle.occ_check.specs.Progress.{body_weight, counted, meant_at}
use Rattle.occ_check.specs.Opened.{Opens, body_unfolded, copy_for, put}
use Rattle.occ_check.specs.declared.copies.OpenedCopy.{OpenedCopy}

-- the first value of the index and how many copies there are, with the node of the PAR
abbrev pub copies_counted : Names → ℕ → ℕ → L.Replicator → Numbers → Option ((ℤ × ℕ) × Numbers)
copies_counted ns line depth r n = do
  c ← copies_of ns line r
  m ← room depth (Sizes.with_node Sizes.no_size) n
  Some (c, m)

abbrev pub counted_copies : Replicator → OfLine (ℤ × ℕ)
counted_copies r ns line depth n = copies_counted ns line depth (replicator_of r) n

-- a replicated PAR
abbrev pub par_for : ℕ → Replicator → Process → Under Term
par_for line r p = copies_beside line (replicator_of r) (body_unfolded p)

-- what is in scope in the copy for a value of the index
abbrev pub inside_copy : Unfolder → Position → Replicator → ℤ → Scope Calling
inside_copy u at r i = within (index_of (replicator_of r) i) (meant_at u at)

-- a copy with its number, as what it puts before others
abbrev pub numbered_copy : (ℤ → Unfolds Term) → ℤ → Numbers → Option ((Branches → Branches) × Numbers)
numbered_copy u i n = do
  m ← more_processes n
  t ← u i m
  Some (and_branch n.processes t.0, t.1)

-- what copies unfold to where they stand, each for a value of the index
abbrev pub copies_there : Unfolder → Here → Replicator → Process → ℤ → Unfolds Term
copies_there u here r p = copy_for (replicator_of r) (process_of p) (meant_at u here.at) here.depth

-- a copy that is opened
abbrev pub copy_left : Unfolder → OpenedCopy → Option ((T.Branches → T.Branches) × N.Numbers)
copy_left u o = put (λ t. T.and_branch o.number t) (unfolded (process_of o.body.now) (meant_at u o.here.at) o.here.depth (counted u))

abbrev pub OpensCopy : Result OpenedCopy CheckFault → (old new : Unfolder) → Here → Replicator → Process → ℤ → Type 0
OpensCopy result old new here r p i = Opens copy_left result new (numbered_copy (copies_there old here r p) i (counted old))

-- what so many copies unfold to, from a value of the index on
abbrev pub ReadsCopies : Result (List Branch) CheckFault → (old new : Unfolder) → Here → Replicator → Process → ℕ → ℤ → Type 0
ReadsCopies result old new here r p count first = UnfoldsCode branches_of result new.numbers (copied (copies_there old here r p) count first (counted old))

abbrev pub copy_weight : Unfolder → OpenedCopy → ℕ
copy_weight u o = body_weight u o.here.at o.body.now
