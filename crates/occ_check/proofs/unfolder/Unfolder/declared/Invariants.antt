use Rattle.std.proofs.Common.{ℕ, ◌≡◌, ◌+◌, ◌<◌, ◌≤◌, drop, length, map, take}
use Rattle.occ_tree_grammar.specs.Processes.Trees.{decls}
use Rattle.occ_tree_grammar.specs.Processes.Views.{decl_of}
use Rattle.occ_term.specs.View.{declarations_of}
use Rattle.occ_check_meaning.specs.Recursion.{all_declared}
use Rattle.occ_check.specs.Progress.{counted, innermost_at, meant_innermost}
use Rattle.occ_check.specs.Weights.{decls_size, weight}
use Rattle.occ_check.proofs.EnteringScopes.{Declares}
use Rattle.occ_check.proofs.unfolder.Unfolder.declared.Given as goal

abbrev pub invariant-loop-declaration : goal.invariant-loop-declaration
invariant-loop-declaration l =
    Declares (all_declared (decls (map decl_of l.declarations)) (meant_innermost l.fn.self) l.depth (counted l.fn.self)) l.depth l.declarations l.declaration-index (declarations_of l.heads)
    (meant_innermost l.self) (counted l.self)
    × ((n : ℕ) → n < length l.fn.self.blocks.blocks.items → take n l.self.blocks.blocks.items ≡ take n l.fn.self.blocks.blocks.items)
    × (length l.fn.self.blocks.blocks.items ≤ length l.self.blocks.blocks.items)
    × (weight (innermost_at l.self) + decls_size (decls (map decl_of (drop l.declaration-index l.declarations))) ≤ decls_size (decls (map decl_of l.declarations)) + weight (innermost_at l.fn.self))
