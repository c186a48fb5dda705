use Rattle.std.proofs.Common.{◌≡◌, ◌∙◌, ap, map, rules}
use Rattle.occ_term.specs.View.{expression_of, place_of, subscripts}
use Rattle.occ_term.specs.declared.expression.TermExpr.{the_lemmas}
use Rattle.occ_check_meaning.specs.Items.{variable_span}
use Rattle.occ_check_lines.specs.Clash.{stretch_at}
use Rattle.occ_check_lines.specs.Clash.{meets_another, some_in_subscripts}
use Rattle.occ_check_lines.proofs.naming.names_another.Goals as goal

pub returns : goal.returns
returns c =
    let seen : subscripts (map expression_of c.as_slice.result.now) ≡ (stretch_at (place_of c.args.place.now)).subscripts = search (rules, the_lemmas) in
    c.some_reads.ensures
    ∙ ap (λ own. some_in_subscripts (meets_another c.args.firsts.now c.args.ends.now own) (subscripts (map expression_of c.as_slice.result.now))) c.whole_of-own.ensures.span
    ∙ ap (some_in_subscripts (meets_another c.args.firsts.now c.args.ends.now (variable_span (stretch_at (place_of c.args.place.now))))) seen
