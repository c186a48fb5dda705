-- What two answers to one question have in common.
-- Manual: nothing; this is (own).
use Rattle.std.specs.Prelude.{◌≡◌, ℕ, Result, Ok, Err, IfOk, ⊤}

-- Equal, seen by view, where both are given. Where one is given and the other refused, the refusal is for a cause that is excused, such
-- as want of memory. Two refusals may differ.
abbrev pub Agree : {X Y E : Type 0} → (X → Y) → (E → Type 0) → Result X E → Result X E → Type 0
Agree view Excused (Ok x) (Ok y) = view x ≡ view y
Agree view Excused (Ok x) (Err e) = Excused e
Agree view Excused (Err e) (Ok y) = Excused e
Agree view Excused (Err e) (Err f) = ⊤

-- so it is of what both gave
abbrev pub BothGive : {X Y E F : Type 0} → (X → Y → Type 0) → Result X E → Result Y F → Type 0
BothGive So r q = IfOk r (λ x. IfOk q (So x))

-- two answers after as many turns come to one thing
abbrev pub SameAfter : {X Y Z : Type 0} → (X → Z) → (Y → Z) → ℕ × X → ℕ × Y → Type 0
SameAfter one other x y = x.0 ≡ y.0 → one x.1 ≡ other y.1
