-- What stands within another of its kind, one level deeper.
use Rattle.std.proofs.Common.{◌≡◌, ◌∙◌, ℕ, length, List, Some, ap, sym}
use Rattle.std.proofs.lemmas.List.{length-map}
use Rattle.occ_tree_grammar.specs.Many.{◌>>=◌}
use Rattle.occ_term.specs.declared.expression.Declaration.{Declaration}
use Rattle.occ_term.specs.View.{declaration_of, declarations_of}
use Rattle.occ_check_meaning.specs.Numbers.{Numbers, deeper}
use Rattle.occ_check_meaning.specs.Performing.{Calling, Under, nested}
use Rattle.occ_check_meaning.specs.Scope.{Scope}

module _ {A : Type 0} (parts : Under A) (sc : Scope Calling) (depth : ℕ) (n : Numbers) where
  pub nested_there : (deep : ℕ) → deeper depth 1 ≡ Some deep → nested parts sc depth n ≡ parts sc deep n
  nested_there deep e = ap (λ r. r >>= λ deep. parts sc deep n) e

-- as many as in the code
pub as_many : (levels : ℕ) (hs : List Declaration) → levels ≡ length hs → levels ≡ length (declarations_of hs)
as_many levels hs e = e ∙ sym (length-map hs declaration_of)
