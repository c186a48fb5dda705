use Rattle.std.proofs.Common.{arith, w64, ◌≡◌, ◌∙◌, ap, refl, reverse}
use Rattle.std.proofs.lemmas.Int.{to_z-of_z}
use Rattle.occ_tree_grammar.specs.Lines.Views.{replicator_of}
use Rattle.occ_check_meaning.specs.Declarations.{index_of}
use Rattle.occ_check_meaning.specs.Scope.{within}
use Rattle.occ_check_meaning.specs.Meant.{meant}
use Rattle.occ_check.specs.Progress.{scope_at}
use Rattle.occ_check_lines.specs.View.{scope_in}
use Rattle.occ_check.specs.Weights.{weight}
use Rattle.occ_check.proofs.CopyLists.{copy_scope, index_meant, index_weight}
use Rattle.occ_check.proofs.copies.at_value.Goals as goal

pub returns-clause-scope : goal.returns-clause-scope
returns-clause-scope c =
    let r = replicator_of c.args.replicator.now in
    let there : scope_in (reverse c.declare.new.self.blocks.items) c.end.result ≡ within (index_of r c.args.value) (scope_at c.args.unfolder.now c.args.at) =
    copy_scope r c.args.value _ _ _ _ _ _ (to_z-of_z w64 c.args.value c.ranges.value) refl c.end.ensures.scope c.in_ok-declare.ensures.scope c.in_ok-open.ensures.scope in
    ap meant there ∙ index_meant r c.args.value _

pub returns-clause-weight : goal.returns-clause-weight
returns-clause-weight c =
    let r = replicator_of c.args.replicator.now in
    let there : scope_in (reverse c.declare.new.self.blocks.items) c.end.result ≡ within (index_of r c.args.value) (scope_at c.args.unfolder.now c.args.at) =
    copy_scope r c.args.value _ _ _ _ _ _ (to_z-of_z w64 c.args.value c.ranges.value) refl c.end.ensures.scope c.in_ok-declare.ensures.scope c.in_ok-open.ensures.scope in
    ap weight there ∙ index_weight r c.args.value _

pub returns-clause-kept : goal.returns-clause-kept
returns-clause-kept c = c.in_ok-declare.ensures.kept _ (omega (arith, c.in_ok-open.ensures.more)) ∙ c.in_ok-open.ensures.kept
