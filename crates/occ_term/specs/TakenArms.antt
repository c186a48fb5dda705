-- An arm of an ALT that is taken sets again what stands round it, to the values that this had when the arm was found open.
-- Manual: combining processes. That it sets these again is (own).
use Rattle.std.specs.Prelude.{IsTrue, List, Option, [], pos, suc, ℕ, ℤ, ⊤, ◌++◌, ◌+ℤ◌, ◌∷◌, ◌≡◌}
use Rattle.occ_term.specs.Terms.{Expression, Place, Declaration, Replicator, Term, Arms, no_arms, skip_arm, input_arm, declared_arms, each_arm, Reception, tested}
use Rattle.occ_term.specs.Values.{Store, store_with, Value, holds, Span, first_of, value_of, span_of}
use Rattle.occ_term.specs.Storing.{Gives, nothing, declared, Indices, indices, indices_of, index_of}
use Rattle.occ_term.specs.Uses.{Numbers, empty_set, union, only, uses_of_declaration}
use Rattle.occ_term.specs.TermTyping.{Declared, ArmsHave}
use Rattle.occ_term.specs.Selecting.{Setting, IndexTo, DeclaredAgain, set_again, Enabled, SkipArm, InputArm, arms_over, enabled}
use Rattle.occ_term.specs.StepUses.{uses_of_settings}

-- the cells that declarations and indices of arms set
abbrev pub sets_of : Arms → Numbers
sets_of no_arms = empty_set
sets_of (skip_arm e t arms) = sets_of arms
sets_of (input_arm e c list arms) = sets_of arms
sets_of (declared_arms x arms others) = union (uses_of_declaration x).writes (union (sets_of arms) (sets_of others))
sets_of (each_arm r arms others) = union (only (index_of r)) (union (sets_of arms) (sets_of others))

-- What stands round arms sets no cell that they set, and of the cells of an ALT a declaration reads only those that are set round it.
-- `all` are the ALT's cells, `round` those that are set round these arms.
abbrev pub Scoped : Numbers → Numbers → Arms → Type 0
Scoped all round no_arms = ⊤
Scoped all round (skip_arm e t arms) = Scoped all round arms
Scoped all round (input_arm e c list arms) = Scoped all round arms
Scoped all round (declared_arms x arms others) =
    ((c : ℕ) → IsTrue ((uses_of_declaration x).reads c) → IsTrue (all c) → IsTrue (round c))
    × ((c : ℕ) → IsTrue ((uses_of_declaration x).writes c) → IsTrue (round c) → ⊥)
    × Scoped all (union round (uses_of_declaration x).writes) arms × Scoped all round others
Scoped all round (each_arm r arms others) =
    ((c : ℕ) → IsTrue (only (index_of r) c) → IsTrue (round c) → ⊥) × Scoped all (union round (only (index_of r))) arms × Scoped all round others

-- Arms that are evaluated from a store, with these settings round them, come to an open arm: the store in which it was found so.
mutual
  pub data Opens : Arms → List Setting → Store → Enabled → Store → Type 0 where
    opens_skip : {test : Expression} {body : Term} {others : Arms} {ds : List Setting} {s : Store} {v : ℤ}
        → value_of test s ≡ Value v → IsTrue (holds v) → Opens (skip_arm test body others) ds s (SkipArm ds body) s
    after_skip : {test : Expression} {body : Term} {others : Arms} {ds : List Setting} {s t : Store} {e : Enabled}
        → Opens others ds s e t → Opens (skip_arm test body others) ds s e t
    opens_input : {test : Option Expression} {channel : Place} {list : Reception} {others : Arms} {ds : List Setting} {s : Store} {v : ℤ} {at : Span}
        → value_of (tested test) s ≡ Value v → IsTrue (holds v) → span_of channel s ≡ Value at
        → Opens (input_arm test channel list others) ds s (InputArm ds (first_of at) list) s
    after_input : {test : Option Expression} {channel : Place} {list : Reception} {others : Arms} {ds : List Setting} {s t : Store} {e : Enabled}
        → Opens others ds s e t → Opens (input_arm test channel list others) ds s e t
    opens_declared : {x : Declaration} {within others : Arms} {ds : List Setting} {s s' t : Store} {e : Enabled}
        → declared x s ≡ Gives nothing s' → Opens within (ds ++ DeclaredAgain x ∷ []) s' e t → Opens (declared_arms x within others) ds s e t
    after_declared : {x : Declaration} {within others : Arms} {ds : List Setting} {s s' s'' t : Store} {e : Enabled} {es : List Enabled}
        → declared x s ≡ Gives nothing s' → enabled within (ds ++ DeclaredAgain x ∷ []) s' ≡ Gives es s'' → Opens others ds s'' e t
        → Opens (declared_arms x within others) ds s e t
    opens_each : {r : Replicator} {within others : Arms} {ds : List Setting} {s t : Store} {e : Enabled} {base : ℤ} {count : ℕ}
        → indices_of r s ≡ Value (indices base count) → OpensEach within (index_of r) base count ds s e t → Opens (each_arm r within others) ds s e t
    after_each : {r : Replicator} {within others : Arms} {ds : List Setting} {s s' t : Store} {e : Enabled} {is : Indices} {es : List Enabled}
        → indices_of r s ≡ Value is → arms_over (enabled within) (index_of r) is ds s ≡ Gives es s' → Opens others ds s' e t
        → Opens (each_arm r within others) ds s e t

  -- for each value of an index from this one on
  pub data OpensEach : Arms → ℕ → ℤ → ℕ → List Setting → Store → Enabled → Store → Type 0 where
    at_value : {within : Arms} {index : ℕ} {v : ℤ} {n : ℕ} {ds : List Setting} {s t : Store} {e : Enabled}
        → Opens within (ds ++ IndexTo index v ∷ []) (store_with s index v) e t → OpensEach within index v (suc n) ds s e t
    at_later : {within : Arms} {index : ℕ} {v : ℤ} {n : ℕ} {ds : List Setting} {s s' t : Store} {e : Enabled} {es : List Enabled}
        → enabled within (ds ++ IndexTo index v ∷ []) (store_with s index v) ≡ Gives es s' → OpensEach within index (v +ℤ pos 1) n ds s' e t
        → OpensEach within index v (suc n) ds s e t

abbrev pub again_of : Enabled → List Setting
again_of (SkipArm again body) = again
again_of (InputArm again c list) = again

abbrev pub EachOf : (Enabled → Type 0) → List Enabled → Type 0
EachOf P [] = ⊤
EachOf P (e ∷ es) = P e × EachOf P es

-- Each arm that is enabled was found open in some store.
abbrev pub AllOpened : Type 0
AllOpened = (arms : Arms) (s s' : Store) (es : List Enabled) → enabled arms [] s ≡ Gives es s' → EachOf (λ e. (t : Store) × Opens arms [] s e t) es

-- After all arms are evaluated, an arm that is taken sets each cell that it sets again to the value that it had when the arm was found open.
abbrev pub SameAgain : Type 0
SameAgain =
    (d : Declared) (arms : Arms) (s s' t : Store) (es : List Enabled) (e : Enabled)
    → ArmsHave d arms → Scoped (sets_of arms) empty_set arms → enabled arms [] s ≡ Gives es s' → Opens arms [] s e t
    → (t' : Store) × (set_again (again_of e) s' ≡ Gives nothing t') × ((c : ℕ) → IsTrue ((uses_of_settings (again_of e)).writes c) → t' c ≡ t c)
