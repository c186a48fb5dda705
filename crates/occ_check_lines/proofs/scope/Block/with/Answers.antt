use Rattle.std.proofs.Common.{rules, ◌≡◌, ◌∷◌, List, ap, subst, sym, ◌∙◌, ℕ}
use Rattle.occ_check_lines.specs.View.{pairs_before, binding_of, Lacks}
use Rattle.occ_check_lines.proofs.Scopes.{one_more, added}
use Rattle.occ_check_lines.proofs.scope.Block.with.Goals as goal

pub returns-clause-names : goal.returns-clause-names
returns-clause-names c =
    let name : c.in_ok-name.name ≡ c.args.name.now = search rules in
    let lacks = subst (λ (x : List ℕ). Lacks x c.args.self.names.entries) (sym name) c.requires in
    λ sc. ap (λ es. pairs_before es sc) (c.in_ok-insert.ensures.entries ∙ added c.args.self.names.entries c.in_ok-name.name c.args.binding lacks)
    ∙ one_more c.args.self.names.entries (c.in_ok-name.name, c.args.binding) sc ∙ ap (λ (x : List ℕ). (x, binding_of c.args.binding) ∷ pairs_before c.args.self.names.entries sc) name
