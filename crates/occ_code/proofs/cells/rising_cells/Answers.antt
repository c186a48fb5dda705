use Rattle.std.proofs.Common.{◌≤◌, sym, subst, arith, rules}
use Rattle.std.proofs.lemmas.List.Sorted.{IsNonDecreasingBy-from_sort_by_key, All-permutation}
use Rattle.std.specs.List.{All}
use Rattle.std.specs.List.Sorted.{IsNonDecreasingBy}
use Rattle.occ_term.specs.UnfoldedProgram.{most_cells}
use Rattle.occ_machine.specs.SameStop.{Lists}
use Rattle.occ_code.specs.Cells.{furthest, in_rows}
use Rattle.occ_code.specs.declared.cells.Row.{Row}
use Rattle.occ_code.proofs.CellEnds.{listed, uses_furthest}
use Rattle.occ_code.proofs.cells.rising_cells.Goals as goal

pub returns-then-count-gt-MOST_CELLS-clause-lists : goal.returns-then-count-gt-MOST_CELLS-clause-lists
returns-then-count-gt-MOST_CELLS-clause-lists c = λ within.
    let few : furthest c.args.writes_only c.args.uses.now ≤ most_cells = uses_furthest c.args.uses.now c.args.writes_only within in
    absurd (omega (arith, few, c.furthest_end-count.ensures))

pub cells_among-requires-clause-sorted : goal.cells_among-requires-clause-sorted
cells_among-requires-clause-sorted c =
    subst (IsNonDecreasingBy (λ (row : Row). row.first)) (sym c.deref.ensures.value)
    (IsNonDecreasingBy-from_sort_by_key (λ (row : Row). row.first) _ c.sort_unstable_by_key.ensures.sorted (λ a r q k. search rules))

pub cells_among-requires-clause-within : goal.cells_among-requires-clause-within
cells_among-requires-clause-within c =
    subst (All (λ (row : Row). row.end ≤ most_cells)) (sym c.deref.ensures.value)
    (All-permutation (λ (row : Row). row.end ≤ most_cells) _ _ c.sort_unstable_by_key.ensures.permutation c.in_ok-rows.ensures.within)

pub returns-clause-lists : goal.returns-clause-lists
returns-clause-lists c = λ within.
    listed c.args.uses.now c.args.writes_only _ _ c.in_ok-cells.cells c.sort_unstable_by_key.ensures.permutation c.in_ok-rows.ensures.numbers
    (subst (λ rows. Lists c.in_ok-cells.cells (in_rows rows)) c.deref.ensures.value
    (subst (λ xs. Lists xs (in_rows c.deref.result.now)) (sym c.in_ok-cells.ensures) c.in_ok-gathered.ensures.lists))
