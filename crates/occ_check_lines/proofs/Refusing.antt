-- A refused step refuses the steps that it stands among.
use Rattle.std.proofs.Common.{◌≡◌, ◌∙◌, ap, Option, Some, None}
use Rattle.occ_tree_grammar.specs.Many.{◌>>=◌}
use Rattle.occ_check_lines.specs.View.{Refuses}
use Rattle.occ_check_lines.specs.declared.fault.CheckFault.{CheckFault}
use Rattle.occ_check_lines.proofs.Refusals.{none_then, refused_with}

pub then_refused : {X Y : Type 0} (f : CheckFault) (a : Option X) (next : X → Option Y) → Refuses f a → Refuses f (a >>= next)
then_refused f a next e = refused_with f a (a >>= next) (none_then next) e

pub then_none : {X Y : Type 0} {a : Option X} {x : X} (next : X → Option Y) → a ≡ Some x → next x ≡ None → (a >>= next) ≡ None
then_none next e none = ap (λ o. o >>= next) e ∙ none
