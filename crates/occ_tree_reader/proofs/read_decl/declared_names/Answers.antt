use Rattle.std.proofs.Common.{Some, arith, ap, ◌∙◌, ◌≡◌}
use Rattle.std.proofs.lemmas.Grind.{common_steps}
use Rattle.occ_text.specs.Words.{words}
use Rattle.occ_tree_grammar.specs.declared.lines.separator.Separator.TheVariants.{Comma}
use Rattle.occ_tree_grammar.specs.Lines.Reading.{listed_at, name_at}
use Rattle.occ_tree_reader.proofs.DeclaredNames.{names_seen}
use Rattle.occ_tree_reader.proofs.read_decl.declared_names.Goals as goal

pub returns : goal.returns
returns c =
    let named : listed_at Comma name_at (words c.in_ok-first.rest.now) ≡ Some (c.in_ok-others.others.items, words c.in_ok-others.rest.now) =
    c.in_ok-others.ensures ∙ ap (λ xs. Some (xs, words c.in_ok-others.rest.now)) (names_seen c.in_ok-others.others.items) in
    grind (arith, common_steps, named, c.in_ok-first.ensures, c.in_ok-rest.ensures, c.only_names.ensures)
