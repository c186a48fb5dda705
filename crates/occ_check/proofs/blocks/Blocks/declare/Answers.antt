use Rattle.std.proofs.Common.{rules, ◌≡◌, ◌+◌, ◌++◌, ◌∷◌, ◌∙◌, [], ap, sym, length, reverse, List}
use Rattle.occ_check_meaning.specs.Unfolding.{Procedures}
use Rattle.occ_check_lines.specs.View.{binding_of, innermost, pairs_before}
use Rattle.occ_check_lines.specs.declared.scope.Block.{Block}
use Rattle.occ_check_lines.proofs.Scopes.{declared_outside, declared_within}
use Rattle.occ_check.proofs.blocks.Blocks.declare.Goals as goal

pub returns-then-has-clause-scope : goal.returns-then-has-clause-scope
returns-then-has-clause-scope c =
    let older = c.pop.new.self.items in
    let f = c.in-Some.block in
    let g = c.in_ok-block.block in
    let before : c.args.self.now.blocks.items ≡ older ++ f ∷ [] = search rules in
    let after : c.push-then-has.new.self.items ≡ (older ++ f ∷ []) ++ g ∷ [] = search rules in
    let outer : g.outer.blocks ≡ length older + 1 = search rules in
    let all : g.outer.seen ≡ length f.names.entries = search rules in
    let one : (sc : Procedures) → pairs_before g.names.entries sc ≡ (c.args.name.now, binding_of c.args.binding) ∷ sc = search rules in
    ap (λ (l : List Block). innermost (reverse l)) after ∙ declared_outside older f g c.args.name.now c.args.binding outer all one
    ∙ ap (λ (l : List Block). (c.args.name.now, binding_of c.args.binding) ∷ innermost (reverse l)) (sym before)

pub returns-clause-scope : goal.returns-clause-scope
returns-clause-scope c =
    let older = c.pop.new.self.items in
    let f = c.in-Some.block in
    let g = c.in_ok-block-2.block in
    let before : c.args.self.now.blocks.items ≡ older ++ f ∷ [] = search rules in
    let after : c.push-2.new.self.items ≡ older ++ g ∷ [] = search rules in
    ap (λ (l : List Block). innermost (reverse l)) after ∙ declared_within older f g c.args.name.now c.args.binding c.in_ok-block-2.ensures.outer c.in_ok-block-2.ensures.names
    ∙ ap (λ (l : List Block). (c.args.name.now, binding_of c.args.binding) ∷ innermost (reverse l)) (sym before)
