use Rattle.std.proofs.Common.{◌∙◌, sym, subst, Option, ℤ, rules, w64}
use Rattle.std.proofs.lemmas.Int.{to_z-of_z}
use Rattle.occ_term.specs.View.{expression_of}
use Rattle.occ_check_meaning.specs.Calls as meant
use Rattle.occ_check_lines.specs.View.{numbers_of}
use Rattle.occ_check.specs.Call.{Evaluates, one_constant}
use Rattle.occ_check.proofs.given.one_evaluated.Goals as goal

pub returns-in-Some : goal.returns-in-Some
returns-in-Some c =
    subst (λ (o : Option ℤ). Evaluates c.constant_given.result c.args.numbers.now (meant.one_evaluated c.args.name.now c.args.depth c.args.size (expression_of c.args.e) o (numbers_of c.args.numbers.now)))
    (sym c.in-Some.is ∙ c.constant_of.ensures) (subst (λ z. Evaluates c.constant_given.result c.args.numbers.now (one_constant c.args.size z (numbers_of c.args.numbers.now))) (to_z-of_z w64 c.in-Some.value (search rules)) (c.constant_given.ensures c.args.numbers.now))

pub returns-in-None : goal.returns-in-None
returns-in-None c =
    subst (λ (o : Option ℤ). Evaluates c.cell_given.result c.cell_given.new.numbers (meant.one_evaluated c.args.name.now c.args.depth c.args.size (expression_of c.args.e) o (numbers_of c.args.numbers.now)))
    (sym c.in-None.is ∙ c.constant_of.ensures) (c.cell_given.ensures c.args.size)
