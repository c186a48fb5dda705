-- The names of components of arrays (own): `a[2]`, and `a[2][0]` of a component that is an array.
use Rattle.std.specs.Prelude.{List, None, Option, Some, [], ◌++◌, ◌∷◌, ℕ}
use Rattle.std.specs.Fmt.{decimal}

abbrev pub component_name : List ℕ → ℕ → List ℕ
component_name x k = x ++ 91 ∷ (decimal k ++ 93 ∷ [])

-- one subscript after another
unfoldable pub with_subscripts : List ℕ → List ℕ → List ℕ
with_subscripts x [] = x
with_subscripts x (k ∷ ks) = with_subscripts (component_name x k) ks

-- and one more, where there is one
abbrev pub with_last : List ℕ → Option ℕ → List ℕ
with_last x None = x
with_last x (Some k) = component_name x k
