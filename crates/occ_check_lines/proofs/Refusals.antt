-- What a refusal says.
use Rattle.std.proofs.Common.{◌≡◌, Option, Some, None, refl, ap}
use Rattle.occ_tree_grammar.specs.Many.{◌>>=◌}
use Rattle.occ_check_lines.specs.View.{Refuses}
use Rattle.occ_check_lines.specs.declared.fault.CheckFault.{CheckFault}
use Rattle.occ_check_lines.specs.declared.fault.CheckFault.TheVariants.{Unknown, Twice, WrongKind, WrongType, NotConstant, BadCount, Subscript, Protocol, Tag, Arguments, Overlap, ListTarget, NoMain, TooLarge, Memory}

-- any fault may say that there is nothing
pub refused : {A : Type 0} (e : CheckFault) (given : Option A) → given ≡ None → Refuses e given
refused (Unknown line x) given h = h
refused (Twice line x) given h = h
refused (WrongKind line) given h = h
refused (WrongType line) given h = h
refused (NotConstant line) given h = h
refused (BadCount line) given h = h
refused (Subscript line) given h = h
refused (Protocol line) given h = h
refused (Tag line) given h = h
refused (Arguments line) given h = h
refused (Overlap line) given h = h
refused (ListTarget line) given h = h
refused NoMain given h = h
refused TooLarge given h = h
refused Memory given h = tt

-- what is nothing where another thing is, is refused with it
pub refused_with : {A B : Type 0} (e : CheckFault) (given : Option A) (whole : Option B) → (given ≡ None → whole ≡ None) → Refuses e given → Refuses e whole
refused_with (Unknown line x) given whole f h = f h
refused_with (Twice line x) given whole f h = f h
refused_with (WrongKind line) given whole f h = f h
refused_with (WrongType line) given whole f h = f h
refused_with (NotConstant line) given whole f h = f h
refused_with (BadCount line) given whole f h = f h
refused_with (Subscript line) given whole f h = f h
refused_with (Protocol line) given whole f h = f h
refused_with (Tag line) given whole f h = f h
refused_with (Arguments line) given whole f h = f h
refused_with (Overlap line) given whole f h = f h
refused_with (ListTarget line) given whole f h = f h
refused_with NoMain given whole f h = f h
refused_with TooLarge given whole f h = f h
refused_with Memory given whole f h = tt

-- a step that is not made ends what follows it
pub none_then : {A B : Type 0} {r : Option A} (f : A → Option B) → r ≡ None → (r >>= f) ≡ None
none_then f h = ap (λ r. r >>= f) h

pub then_nothing : {A : Type 0} (r : Option A) → (r >>= λ x. Some x) ≡ r
then_nothing (Some x) = refl
then_nothing None = refl

-- steps one after another, grouped otherwise
pub then_then : {A B C : Type 0} (r : Option A) (f : A → Option B) (g : B → Option C) → (r >>= f >>= g) ≡ (r >>= λ x. f x >>= g)
then_then (Some x) f g = refl
then_then None f g = refl
