use Rattle.std.proofs.Common.{◌∙◌, ◌+◌, sym, ap, subst, length, Some, arith}
use Rattle.occ_term.specs.CellRows.{Gathered, cells_in}
use Rattle.occ_term.proofs.GatheredRows.{count_is}
use Rattle.occ_term.proofs.cell_rows.CellRows.into_cells.Goals as goal

pub overflow_add-last : goal.overflow_add-last
overflow_add-last c =
    let all : Gathered c.self.inside.rows.items (Some c.in-Some.last) c.self.inside.rising = subst (λ o. Gathered c.self.inside.rows.items o c.self.inside.rising) c.in-Some.is c.self.invariant in
    let is = count_is c.self.inside.rows.items c.self.inside.rising c.in-Some.last all in
    let few = all.few in
    record { fits = omega (arith, is, few, c.count.ensures) }

pub of_rows-requires-2-clause-count : goal.of_rows-requires-2-clause-count
of_rows-requires-2-clause-count c =
    let all : Gathered c.self.inside.rows.items (Some c.in-Some.last) c.self.inside.rising = subst (λ o. Gathered c.self.inside.rows.items o c.self.inside.rising) c.in-Some.is c.self.invariant in
    let is = count_is c.self.inside.rows.items c.self.inside.rising c.in-Some.last all in
    ap (λ n. c.in-Some.last.place + n) c.count.ensures ∙ is ∙ ap (λ rs. length (cells_in rs)) (sym c.in_ok-push.ensures.items)
