use Rattle.std.proofs.Common.{◌≡◌, ◌∙◌, ◌+◌, ◌-◌, ◌++◌, ◌∷◌, [], sym, ap, subst, refl, length, Some, None, arith}
use Rattle.std.specs.Option.{option_to_list}
use Rattle.occ_term.specs.CellRows.{Gathered, cells_in, numbers_from}
use Rattle.occ_term.proofs.GatheredRows.{cells_grown, cells_next, count_is, gathered_first, gathered_grown, gathered_next}
use Rattle.occ_term.proofs.cell_rows.CellRows.add.Goals as goal

pub invariant_of-self : goal.invariant_of-self
invariant_of-self c =
    let all : Gathered c.self.inside.rows.items None c.self.inside.rising = subst (λ o. Gathered c.self.inside.rows.items o c.self.inside.rising) c.in_default.is c.self.invariant in
    let own : cells_in (c.self.inside.rows.items ++ []) ≡ c.args.self.now = subst (λ o. cells_in (c.self.inside.rows.items ++ option_to_list o) ≡ c.args.self.now) c.in_default.is c.self.view_is in
    let long = ap length own in
    gathered_first c.self.inside.rows.items c.self.inside.rising _ all refl c.if-first-end.false c.ranges.end.fits (omega (arith, long, c.requires))

pub invariant_of-self-then-last-first : goal.invariant_of-self-then-last-first
invariant_of-self-then-last-first c =
    let all : Gathered c.self.inside.rows.items (Some c.in-Some.last) c.self.inside.rising = subst (λ o. Gathered c.self.inside.rows.items o c.self.inside.rising) c.in-Some.is c.self.invariant in
    let own : cells_in (c.self.inside.rows.items ++ c.in-Some.last ∷ []) ≡ c.args.self.now = subst (λ o. cells_in (c.self.inside.rows.items ++ option_to_list o) ≡ c.args.self.now) c.in-Some.is c.self.view_is in
    let long = ap length own in
    gathered_grown c.self.inside.rows.items c.self.inside.rising c.in-Some.last _ c.args.first c.args.end all c.if-last-first.true refl refl refl c.if-first-end.false c.ranges.end.fits (omega (arith, long, c.requires))

pub returns-then-last-first : goal.returns-then-last-first
returns-then-last-first c =
    let all : Gathered c.self.inside.rows.items (Some c.in-Some.last) c.self.inside.rising = subst (λ o. Gathered c.self.inside.rows.items o c.self.inside.rising) c.in-Some.is c.self.invariant in
    let own : cells_in (c.self.inside.rows.items ++ c.in-Some.last ∷ []) ≡ c.args.self.now = subst (λ o. cells_in (c.self.inside.rows.items ++ option_to_list o) ≡ c.args.self.now) c.in-Some.is c.self.view_is in
    cells_grown c.self.inside.rows.items c.self.inside.rising c.in-Some.last (record { first = c.in-Some.last.first; end = c.args.end; place = c.in-Some.last.place }) c.args.first c.args.end all c.if-last-first.true refl refl c.if-first-end.false
    ∙ ap (λ xs. xs ++ numbers_from c.args.first (c.args.end - c.args.first)) own

pub overflow_add-self : goal.overflow_add-self
overflow_add-self c =
    let all : Gathered c.self.inside.rows.items (Some c.in-Some.last) c.self.inside.rising = subst (λ o. Gathered c.self.inside.rows.items o c.self.inside.rising) c.in-Some.is c.self.invariant in
    let is = count_is c.self.inside.rows.items c.self.inside.rising c.in-Some.last all in
    let few = all.few in
    record { fits = omega (arith, is, few, c.count.ensures) }

pub invariant_of-self-2 : goal.invariant_of-self-2
invariant_of-self-2 c =
    let all : Gathered c.self.inside.rows.items (Some c.in-Some.last) c.self.inside.rising = subst (λ o. Gathered c.self.inside.rows.items o c.self.inside.rising) c.in-Some.is c.self.invariant in
    let own : cells_in (c.self.inside.rows.items ++ c.in-Some.last ∷ []) ≡ c.args.self.now = subst (λ o. cells_in (c.self.inside.rows.items ++ option_to_list o) ≡ c.args.self.now) c.in-Some.is c.self.view_is in
    let long = ap length own in
    gathered_next c.self.inside.rows.items c.push.new.self.items c.self.inside.rising c.still_rises-self-inside.result c.in-Some.last _ all c.in_ok-push.ensures.items (ap (λ n. c.in-Some.last.place + n) c.count.ensures) c.if-first-end.false c.ranges.end.fits
    (λ e. c.if-last-first.false (sym e)) c.still_rises-self-inside.ensures (omega (arith, long, c.requires))

pub returns : goal.returns
returns c =
    let own : cells_in (c.self.inside.rows.items ++ c.in-Some.last ∷ []) ≡ c.args.self.now = subst (λ o. cells_in (c.self.inside.rows.items ++ option_to_list o) ≡ c.args.self.now) c.in-Some.is c.self.view_is in
    cells_next c.self.inside.rows.items c.push.new.self.items c.in-Some.last (record { first = c.args.first; end = c.args.end; place = c.in-Some.last.place + c.count.result }) c.in_ok-push.ensures.items
    ∙ ap (λ xs. xs ++ numbers_from c.args.first (c.args.end - c.args.first)) own
