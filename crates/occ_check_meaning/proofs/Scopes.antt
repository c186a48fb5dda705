-- What all that the names of a scope stand for has, and so has what is found in it.
use Rattle.std.proofs.Common.{◌≡◌, [], ◌∷◌, ◌++◌, Bool, true, false, cond, bytes_eq, Some, subst}
use Rattle.std.specs.Prelude.{⊤}
use Rattle.occ_tree_grammar.specs.Many.{◌>>=◌}
use Rattle.occ_check_meaning.specs.Scope.{Name, Pairs, Binding, Known, known, proc, as_known, find, names_of, within}
use Rattle.occ_check_meaning.specs.Unfolding.{Procedure, Procedures, found}
use Rattle.occ_check_meaning.proofs.Steps.{some_is}

abbrev pub EachKnown : (Known → Type 0) → Procedures → Type 0
EachKnown P [] = ⊤
EachKnown P ((x, known k) ∷ sc) = P k × EachKnown P sc
EachKnown P ((x, proc p) ∷ sc) = EachKnown P sc

abbrev pub EachPair : (Known → Type 0) → Pairs → Type 0
EachPair P [] = ⊤
EachPair P (b ∷ bs) = P b.1 × EachPair P bs

module _ (P : Known → Type 0) where
  pub each_within : (bs : Pairs) (sc : Procedures) → EachPair P bs → EachKnown P sc → EachKnown P (within bs sc)
  unfolding within
  each_within [] sc h g = g
  each_within (b ∷ bs) sc h g = (h.0, each_within bs sc h.1 g)

  pub each_joined : (cs bs : Pairs) → EachPair P cs → EachPair P bs → EachPair P (cs ++ bs)
  each_joined [] bs h g = g
  each_joined (c ∷ cs) bs h g = (h.0, each_joined cs bs h.1 g)

  chosen : (b : Bool) (k l : Known) (sc : Procedures) (x : Name) → P k → ((cond b (Some (known k)) (find sc x)) >>= as_known) ≡ Some l → (names_of sc x ≡ Some l → P l) → P l
  chosen true k l sc x h e g = subst P (some_is k l e) h
  chosen false k l sc x h e g = g e

  passed : (b : Bool) (p : Procedure) (l : Known) (sc : Procedures) (x : Name) → ((cond b (Some (proc p)) (find sc x)) >>= as_known) ≡ Some l → (names_of sc x ≡ Some l → P l) → P l
  passed true p l sc x e g = absurd cc
  passed false p l sc x e g = g e

  pub each_named : (sc : Procedures) (x : Name) (k : Known) → EachKnown P sc → names_of sc x ≡ Some k → P k
  unfolding find
  each_named [] x k h e = absurd cc
  each_named ((y, known l) ∷ sc) x k h e = chosen (bytes_eq x y) l k sc x h.0 e (each_named sc x k h.1)
  each_named ((y, proc p) ∷ sc) x k h e = passed (bytes_eq x y) p k sc x e (each_named sc x k h)

  behind_it : (b : Bool) (a c : Binding Procedure) (sc outer : Procedures) (x : Name) → EachKnown P sc → cond b (Some (a, sc)) (found sc x) ≡ Some (c, outer) → (found sc x ≡ Some (c, outer) → EachKnown P outer) → EachKnown P outer
  behind_it true a c sc outer x h e g = subst (λ (y : Binding Procedure × Procedures). EachKnown P y.1) (some_is (a, sc) (c, outer) e) h
  behind_it false a c sc outer x h e g = g e

  pub each_behind : (sc : Procedures) (x : Name) (c : Binding Procedure) (outer : Procedures) → EachKnown P sc → found sc x ≡ Some (c, outer) → EachKnown P outer
  unfolding found
  each_behind [] x c outer h e = absurd cc
  each_behind ((y, known l) ∷ sc) x c outer h e = behind_it (bytes_eq x y) (known l) c sc outer x h.1 e (each_behind sc x c outer h.1)
  each_behind ((y, proc p) ∷ sc) x c outer h e = behind_it (bytes_eq x y) (proc p) c sc outer x h e (each_behind sc x c outer h)

module _ (P Q : Known → Type 0) (f : (k : Known) → P k → Q k) where
  pub each_mapped : (sc : Procedures) → EachKnown P sc → EachKnown Q sc
  each_mapped [] h = tt
  each_mapped ((y, known l) ∷ sc) h = (f l h.0, each_mapped sc h.1)
  each_mapped ((y, proc p) ∷ sc) h = each_mapped sc h

  pub pairs_mapped : (bs : Pairs) → EachPair P bs → EachPair Q bs
  pairs_mapped [] h = tt
  pairs_mapped (b ∷ bs) h = (f b.1 h.0, pairs_mapped bs h.1)
