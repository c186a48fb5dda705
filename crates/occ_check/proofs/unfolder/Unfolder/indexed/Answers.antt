use Rattle.std.proofs.Common.{rules, ◌≡◌, ◌∙◌, ◌∷◌, [], Some, ap, refl, subst, sym}
use Rattle.occ_tree_grammar.specs.Lines.Views.{replicator_of}
use Rattle.occ_check_meaning.specs.Declarations.{indexed}
use Rattle.occ_check_meaning.specs.Scope.{names_of, within}
use Rattle.occ_check_meaning.specs.Meant.{meant}
use Rattle.occ_check_meaning.proofs.Names.{meant_within, same_names}
use Rattle.occ_check_lines.specs.Declaration.{indexed_of, pairs_of}
use Rattle.occ_check.specs.Progress.{counted, meant_at, scope_at}
use Rattle.occ_check_lines.specs.View.{Refuses, names_in}
use Rattle.occ_check.specs.Weights.{weight}
use Rattle.occ_check.proofs.EnteringScopes.{index_within, names_are, scope_is}
use Rattle.occ_check.proofs.Weights.{same_weight}
use Rattle.occ_check.proofs.unfolder.Unfolder.indexed.Goals as goal

pub returns-in_err-indexed-clause-indexed : goal.returns-in_err-indexed-clause-indexed
returns-in_err-indexed-clause-indexed c =
    let u = c.args.self.now in
    let sc = scope_at u c.args.here.at in
    let names = names_are c.scope-scope.result sc (scope_is c.scope-scope.result u.blocks.blocks.items c.args.here.at c.scope-scope.ensures.0 c.scope-scope.ensures.1) ∙ sym (same_names sc) in
    let refused : Refuses c.in_err-indexed.field-0.0 (indexed (names_of (meant_at u c.args.here.at)) c.args.here.line c.args.here.depth (replicator_of c.args.replicator.now) (counted u)) =
    subst (λ ns. Refuses c.in_err-indexed.field-0.0 (indexed ns c.args.here.line c.args.here.depth (replicator_of c.args.replicator.now) (counted u))) names c.in_err-indexed.ensures in
    search rules

pub returns-clause-indexed : goal.returns-clause-indexed
returns-clause-indexed c =
    let u = c.args.self.now in
    let sc = scope_at u c.args.here.at in
    let names = names_are c.scope-scope.result sc (scope_is c.scope-scope.result u.blocks.blocks.items c.args.here.at c.scope-scope.ensures.0 c.scope-scope.ensures.1) ∙ sym (same_names sc) in
    let one : c.push.new.self.items ≡ c.in_ok-indexed.indexed.name ∷ [] = search rules in (
      indexed_of c.in_ok-indexed.indexed c.index_replicator.new.numbers,
      subst (λ ns. indexed ns c.args.here.line c.args.here.depth (replicator_of c.args.replicator.now) (counted u) ≡ Some (indexed_of c.in_ok-indexed.indexed c.index_replicator.new.numbers)) names c.in_ok-indexed.ensures,
      refl,
      ap meant (c.in_ok-inside.ensures.scope ∙ ap (λ l. within (pairs_of l) sc) one) ∙ meant_within (pairs_of (c.in_ok-indexed.indexed.name ∷ [])) sc,
      refl,
    )

pub returns-clause-weight : goal.returns-clause-weight
returns-clause-weight c = ap weight c.in_ok-inside.ensures.scope ∙ same_weight (pairs_of c.push.new.self.items) (scope_at c.args.self.now c.args.here.at)

pub returns-clause-within : goal.returns-clause-within
returns-clause-within c =
    index_within (names_in c.scope-scope.result) c.args.here.line c.args.here.depth (replicator_of c.args.replicator.now) (counted c.args.self.now) (indexed_of c.in_ok-indexed.indexed c.index_replicator.new.numbers) c.in_ok-indexed.ensures
