-- What a legal history says of its beginnings.
use Rattle.std.proofs.Common.{◌≡◌, Bool, true, false, nat_lt, MatchBool, List, [], ◌∷◌, ◌++◌, length, refl, sym, subst, arith}
use Rattle.std.proofs.lemmas.Bool.Decides.{nat_tests}
use mathlib.Core.List.{IsPrefix}
use Rattle.occ_board.specs.declared.shown.Edition.{Edition}
use Rattle.occ_board.specs.Editions.{blank, Extends, Rises, newest_after, IsLegal, newest}
use Rattle.occ_board.proofs.Prefixes.{prefix_self, prefix_trans, prefix_shorter}

rises_after : (e : Edition) (xs ys : List Edition) → Rises e (xs ++ ys) → Rises (newest_after e xs) ys
rises_after e [] ys r = r
rises_after e (x ∷ xs) ys r = rises_after x xs ys r.1

pub rises_join : (e : Edition) (xs ys : List Edition) → Rises e xs → Rises (newest_after e xs) ys → Rises e (xs ++ ys)
rises_join e [] ys r s = s
rises_join e (x ∷ xs) ys r s = (r.0, rises_join x xs ys r.1 s)

pub newest_append : (e : Edition) (xs ys : List Edition) → newest_after e (xs ++ ys) ≡ newest_after (newest_after e xs) ys
newest_append e [] ys = refl
newest_append e (x ∷ xs) ys = newest_append x xs ys

extends_after : (e : Edition) (xs : List Edition) → Rises e xs → Extends e (newest_after e xs)
extends_after e [] r = (prefix_self e.entries, λ last. refl)
extends_after e (x ∷ xs) r =
    let t = extends_after x xs r.1 in (prefix_trans e.entries x.entries (newest_after x xs).entries r.0.1 t.0, λ last. absurd (cc (last, r.0.0)))

-- a later edition extends an earlier one
pub extends : (xs ys : List Edition) → IsLegal ys → IsPrefix xs ys → Extends (newest xs) (newest ys)
extends xs ys legal p =
    let r : Rises (newest xs) p.0 = rises_after blank xs p.0 (subst IsLegal (sym p.1) legal) in
    let t : Extends (newest xs) (newest (xs ++ p.0)) = subst (λ (e : Edition). Extends (newest xs) e) (sym (newest_append blank xs p.0)) (extends_after (newest xs) p.0 r) in
    subst (λ (l : List Edition). Extends (newest xs) (newest l)) p.1 t

-- of two beginnings of one history the longer extends the other
pub in_order : (xs ys zs : List Edition) → IsPrefix xs zs → IsPrefix ys zs → IsLegal xs → IsLegal ys → (longer : Bool) → nat_lt (length ys) (length xs) ≡ longer
    → MatchBool longer (Extends (newest ys) (newest xs)) (Extends (newest xs) (newest ys))
in_order xs ys zs p q left right true is = extends ys xs left (prefix_shorter ys xs zs q p (grind (arith, nat_tests)))
in_order xs ys zs p q left right false is = extends xs ys right (prefix_shorter xs ys zs p q (grind (arith, nat_tests)))
