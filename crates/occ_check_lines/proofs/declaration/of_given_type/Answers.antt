use Rattle.std.proofs.Common.{◌≡◌, ◌∙◌, Option, Some, ap, map, false, rules, sym, true}
use Rattle.occ_tree_grammar.specs.Many.{◌>>=◌}
use Rattle.occ_tree_grammar.specs.Lines.Views as lines
use Rattle.occ_check_meaning.specs.Declarations as meant
use Rattle.occ_check_meaning.specs.Operators.{primitive_of}
use Rattle.occ_check_meaning.specs.Scope.{keep}
use Rattle.occ_check_meaning.specs.Types.{Open, open_sizes_of}
use Rattle.occ_check_lines.specs.View.{names_in, typed_of}
use Rattle.occ_check_lines.proofs.Refusing.{then_none, then_refused}
use Rattle.occ_check_lines.proofs.declaration.of_given_type.Goals as goal

pub returns-in_err-sizes : goal.returns-in_err-sizes
returns-in_err-sizes c =
    let wanted = c.args.wanted.now in
    let r =
    then_refused c.in_err-sizes.field-0.0 (open_sizes_of (names_in c.args.context.scope) c.args.context.line (map lines.size_of wanted.sizes.items))
    (λ o. keep (meant.has_type o (primitive_of wanted.of) (typed_of c.args.value)) (typed_of c.args.value)) (rw c.deref.ensures.value at c.in_err-sizes.ensures) in
    search rules

pub returns-else-has_type : goal.returns-else-has_type
returns-else-has_type c =
    let wanted = c.args.wanted.now in
    let sizes : Open = c.in_ok-sizes.sizes in
    let other : meant.has_type sizes (primitive_of wanted.of) (typed_of c.args.value) ≡ false = search rules in
    then_none (λ o. keep (meant.has_type o (primitive_of wanted.of) (typed_of c.args.value)) (typed_of c.args.value)) (rw c.deref.ensures.value at c.in_ok-sizes.ensures)
    (ap (λ b. keep b (typed_of c.args.value)) other)

pub returns-then-has_type : goal.returns-then-has_type
returns-then-has_type c =
    let wanted = c.args.wanted.now in
    let sizes : Open = c.in_ok-sizes.sizes in
    let same : meant.has_type sizes (primitive_of wanted.of) (typed_of c.args.value) ≡ true = search rules in
    let held : c.into_inner.result ≡ c.args.value = cc in
    ap (λ (r : Option Open). r >>= λ o. keep (meant.has_type o (primitive_of wanted.of) (typed_of c.args.value)) (typed_of c.args.value)) (rw c.deref.ensures.value at c.in_ok-sizes.ensures)
    ∙ ap (λ b. keep b (typed_of c.args.value)) same
    ∙ ap (λ t. Some (typed_of t)) (sym held)
