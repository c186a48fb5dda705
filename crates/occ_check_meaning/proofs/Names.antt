-- Names stand for the same in a scope and in the scope with meanings.
use Rattle.std.proofs.Common.{◌≡◌, [], ◌∷◌, Bool, true, false, cond, bytes_eq, Option, Some, None, refl, ap, subst, sym}
use Rattle.occ_tree_grammar.specs.Many.{◌>>=◌}
use Rattle.occ_check_meaning.specs.Scope.{Name, Names, Pairs, Binding, known, proc, find, as_known, names_of, within}
use Rattle.occ_check_meaning.specs.Performing.{Calling}
use Rattle.occ_check_meaning.specs.Unfolding.{Procedure, Procedures, found}
use Rattle.occ_check_meaning.specs.Meant.{meant, meaning_of}

same_name : (sc : Procedures) (x : Name) → names_of (meant sc) x ≡ names_of sc x
unfolding find meant
same_name [] x = refl
same_name ((y, known k) ∷ sc) x = chosen (bytes_eq x y) (same_name sc x)
  where
    chosen : (b : Bool) → names_of (meant sc) x ≡ names_of sc x → ((cond b (Some (known k)) (find (meant sc) x)) >>= as_known) ≡ ((cond b (Some (known k)) (find sc x)) >>= as_known)
    chosen true e = refl
    chosen false e = e
same_name ((y, proc p) ∷ sc) x = chosen (bytes_eq x y) (same_name sc x)
  where
    chosen : (b : Bool) → names_of (meant sc) x ≡ names_of sc x → ((cond b (Some (proc (meaning_of p (meant sc)))) (find (meant sc) x)) >>= as_known) ≡ ((cond b (Some (proc p)) (find sc x)) >>= as_known)
    chosen true e = refl
    chosen false e = e

pub same_names : (sc : Procedures) → names_of (meant sc) ≡ names_of sc
same_names sc = λ i x. same_name sc x i

-- a step that is looked up by names is the same in both scopes
pub plain : {A : Type 0} (sc : Procedures) (f : Names → Option A) {x : A} → f (names_of (meant sc)) ≡ Some x → f (names_of sc) ≡ Some x
plain sc f {x} e = subst (λ ns. f ns ≡ Some x) (same_names sc) e

pub met : {A : Type 0} (sc : Procedures) (f : Names → Option A) {x : A} → f (names_of sc) ≡ Some x → f (names_of (meant sc)) ≡ Some x
met sc f {x} e = subst (λ ns. f ns ≡ Some x) (sym (same_names sc)) e

pub meant_within : (bs : Pairs) (sc : Procedures) → meant (within bs sc) ≡ within bs (meant sc)
unfolding meant within
meant_within [] sc = refl
meant_within (b ∷ bs) sc = ap (λ s. (b.0, known b.1) ∷ s) (meant_within bs sc)

-- what is found, with its meaning
abbrev pub means_of : Option (Binding Procedure × Procedures) → Option (Binding Calling)
means_of None = None
means_of (Some (known k, s)) = Some (known k)
means_of (Some (proc p, s)) = Some (proc (meaning_of p (meant s)))

pub found_means : (sc : Procedures) (x : Name) → find (meant sc) x ≡ means_of (found sc x)
unfolding find found meant
found_means [] x = refl
found_means ((y, known k) ∷ sc) x = chosen (bytes_eq x y) (found_means sc x)
  where
    chosen : (b : Bool) → find (meant sc) x ≡ means_of (found sc x) → (cond b (Some (known k)) (find (meant sc) x)) ≡ means_of (cond b (Some (known k, sc)) (found sc x))
    chosen true e = refl
    chosen false e = e
found_means ((y, proc p) ∷ sc) x = chosen (bytes_eq x y) (found_means sc x)
  where
    chosen : (b : Bool) → find (meant sc) x ≡ means_of (found sc x) → (cond b (Some (proc (meaning_of p (meant sc)))) (find (meant sc) x)) ≡ means_of (cond b (Some (proc p, sc)) (found sc x))
    chosen true e = refl
    chosen false e = e
