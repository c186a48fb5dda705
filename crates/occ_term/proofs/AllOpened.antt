-- Each arm that is enabled was found open in some store.
use Rattle.std.proofs.Common.{◌≡◌, ◌∙◌, sym, ap, subst, refl, Bool, true, false, ℕ, zero, suc, ℤ, pos, if◌then◌else◌, List, [], ◌∷◌, ◌++◌, Option}
use Rattle.std.specs.Prelude.{◌+ℤ◌}
use Rattle.occ_term.specs.Terms.{Expression, Place, Replicator, Term, Reception, Arms, no_arms, skip_arm, input_arm, declared_arms, each_arm, tested}
use Rattle.occ_term.specs.Values.{Store, store_with, Evaluated, Value, Fails, holds, first_of, value_of, span_of}
use Rattle.occ_term.specs.Storing.{Outcome, Gives, Faults, then_in, in_store, Nothing, nothing, declared, Indices, indices, indices_of, index_of}
use Rattle.occ_term.specs.Selecting.{Setting, IndexTo, DeclaredAgain, Enabled, SkipArm, InputArm, and_arm, and_arms, each_over, arms_over, enabled}
use Rattle.occ_term.specs.TakenArms.{Opens, opens_skip, after_skip, opens_input, after_input, opens_declared, after_declared, opens_each, after_each, OpensEach, at_value, at_later, EachOf, AllOpened}

each_map : (P Q : Enabled → Type 0) (es : List Enabled) → ((e : Enabled) → P e → Q e) → EachOf P es → EachOf Q es
each_map P Q [] f h = tt
each_map P Q (e ∷ es) f h = (f e h.0, each_map P Q es f h.1)

each_both : (P : Enabled → Type 0) (xs ys : List Enabled) → EachOf P xs → EachOf P ys → EachOf P (xs ++ ys)
each_both P [] ys h k = k
each_both P (x ∷ xs) ys h k = (h.0, each_both P xs ys h.1 k)

-- ---- what gave a result

given_by : {X Y : Type 0} (v : Evaluated X) (s s' : Store) (f : X → Store → Outcome Y) (y : Y) → then_in (in_store v s) f ≡ Gives y s' → (x : X) × (v ≡ Value x) × (f x s ≡ Gives y s')
given_by (Value x) s s' f y e = (x, refl, e)
given_by (Fails z) s s' f y e = absurd cc

given_after : {Y : Type 0} (o : Outcome Nothing) (s' : Store) (f : Store → Outcome Y) (y : Y) → then_in o (λ x s. f s) ≡ Gives y s' → (s1 : Store) × (o ≡ Gives nothing s1) × (f s1 ≡ Gives y s')
given_after (Gives nothing s1) s' f y e = (s1, refl, e)
given_after (Faults z s1) s' f y e = absurd cc

given_first : (a : Enabled) (o : Outcome (List Enabled)) (es : List Enabled) (s' : Store) → and_arm a o ≡ Gives es s' → (xs : List Enabled) × (o ≡ Gives xs s') × (a ∷ xs ≡ es)
given_first a (Gives xs s1) es s' e =
    let stores : s1 ≡ s' = cc in
    let lists : a ∷ xs ≡ es = cc in
    (xs, ap (Gives xs) stores, lists)
given_first a (Faults z s1) es s' e = absurd cc

given_both : (o : Outcome (List Enabled)) (k : Store → Outcome (List Enabled)) (es : List Enabled) (s' : Store) → and_arms o k ≡ Gives es s'
    → (xs : List Enabled) × (ys : List Enabled) × (s1 : Store) × (o ≡ Gives xs s1) × (k s1 ≡ Gives ys s') × (xs ++ ys ≡ es)
given_both (Gives xs s1) k es s' e = by_others (k s1) refl e
  where
    by_others : (r : Outcome (List Enabled)) → k s1 ≡ r → then_in r (λ ys s''. Gives (xs ++ ys) s'') ≡ Gives es s'
        → (xs' : List Enabled) × (ys : List Enabled) × (s1' : Store) × (Gives xs s1 ≡ Gives xs' s1') × (k s1' ≡ Gives ys s') × (xs' ++ ys ≡ es)
    by_others (Gives ys s2) q e' =
        let stores : s2 ≡ s' = cc in
        let lists : xs ++ ys ≡ es = cc in
        (xs, ys, s1, refl, q ∙ ap (Gives ys) stores, lists)
    by_others (Faults z s2) q e' = absurd cc
given_both (Faults z s1) k es s' e = absurd cc

abbrev Found : Arms → List Setting → Store → Enabled → Type 0
Found arms ds s e = (t : Store) × Opens arms ds s e t

abbrev FoundEach : Arms → ℕ → ℤ → ℕ → List Setting → Store → Enabled → Type 0
FoundEach within index v n ds s e = (t : Store) × OpensEach within index v n ds s e t

abbrev Later : Arms → List Setting → Store → Store → Type 0
Later others ds s s' = (xs : List Enabled) → enabled others ds s ≡ Gives xs s' → EachOf (Found others ds s) xs

skip_opened : (test : Expression) (body : Term) (others : Arms) (ds : List Setting) (s s' : Store) (es : List Enabled) → Later others ds s s' → (x : ℤ) → value_of test s ≡ Value x → (b : Bool) → holds x ≡ b
    → (if holds x then and_arm (SkipArm ds body) (enabled others ds s) else enabled others ds s) ≡ Gives es s' → EachOf (Found (skip_arm test body others) ds s) es
skip_opened test body others ds s s' es later x e true h q =
    let r = given_first (SkipArm ds body) (enabled others ds s) es s' (ap (λ b. if b then and_arm (SkipArm ds body) (enabled others ds s) else enabled others ds s) (sym h) ∙ q) in
    subst (EachOf (Found (skip_arm test body others) ds s)) r.2 ((s, opens_skip e h), each_map (Found others ds s) (Found (skip_arm test body others) ds s) r.0 (λ a g. (g.0, after_skip g.1)) (later r.0 r.1))
skip_opened test body others ds s s' es later x e false h q =
    each_map (Found others ds s) (Found (skip_arm test body others) ds s) es (λ a g. (g.0, after_skip g.1))
    (later es (ap (λ b. if b then and_arm (SkipArm ds body) (enabled others ds s) else enabled others ds s) (sym h) ∙ q))

input_opened : (test : Option Expression) (channel : Place) (list : Reception) (others : Arms) (ds : List Setting) (s s' : Store) (es : List Enabled) → Later others ds s s' → (x : ℤ) → value_of (tested test) s ≡ Value x → (b : Bool) → holds x ≡ b
    → (if holds x then then_in (in_store (span_of channel s) s) (λ c z. and_arm (InputArm ds (first_of c) list) (enabled others ds z)) else enabled others ds s) ≡ Gives es s' → EachOf (Found (input_arm test channel list others) ds s) es
input_opened test channel list others ds s s' es later x e true h q =
    let c = given_by (span_of channel s) s s' (λ c z. and_arm (InputArm ds (first_of c) list) (enabled others ds z)) es
    (ap (λ b. if b then then_in (in_store (span_of channel s) s) (λ c z. and_arm (InputArm ds (first_of c) list) (enabled others ds z)) else enabled others ds s) (sym h) ∙ q) in
    let r = given_first (InputArm ds (first_of c.0) list) (enabled others ds s) es s' c.2 in
    subst (EachOf (Found (input_arm test channel list others) ds s)) r.2 ((s, opens_input e h c.1), each_map (Found others ds s) (Found (input_arm test channel list others) ds s) r.0 (λ a g. (g.0, after_input g.1)) (later r.0 r.1))
input_opened test channel list others ds s s' es later x e false h q =
    each_map (Found others ds s) (Found (input_arm test channel list others) ds s) es (λ a g. (g.0, after_input g.1))
    (later es (ap (λ b. if b then then_in (in_store (span_of channel s) s) (λ c z. and_arm (InputArm ds (first_of c) list) (enabled others ds z)) else enabled others ds s) (sym h) ∙ q))

over_opened : (over : Replicator) (within others : Arms) (ds : List Setting) (s : Store) (is : Indices) → indices_of over s ≡ Value is → (xs : List Enabled) (s1 : Store)
    → ((base : ℤ) (count : ℕ) → each_over (enabled within) (index_of over) base count ds s ≡ Gives xs s1 → EachOf (FoundEach within (index_of over) base count ds s) xs)
    → arms_over (enabled within) (index_of over) is ds s ≡ Gives xs s1 → EachOf (Found (each_arm over within others) ds s) xs
over_opened over within others ds s (indices base count) e xs s1 k e' =
    each_map (FoundEach within (index_of over) base count ds s) (Found (each_arm over within others) ds s) xs (λ a h. (h.0, opens_each e h.1)) (k base count e')

each_opened : (within : Arms) → ((ds : List Setting) (s s' : Store) (es : List Enabled) → enabled within ds s ≡ Gives es s' → EachOf (Found within ds s) es) → (index : ℕ) (ds : List Setting) (n : ℕ) (v : ℤ) (s s' : Store) (es : List Enabled) → each_over (enabled within) index v n ds s ≡ Gives es s' → EachOf (FoundEach within index v n ds s) es
each_opened within k index ds zero v s s' es q =
    let none : [] ≡ es = cc in
    subst (EachOf (FoundEach within index v zero ds s)) none tt
each_opened within k index ds (suc n) v s s' es q =
    let r = given_both (enabled within (ds ++ IndexTo index v ∷ []) (store_with s index v)) (λ s1. each_over (enabled within) index (v +ℤ pos 1) n ds s1) es s' q in
    subst (EachOf (FoundEach within index v (suc n) ds s)) r.5
    (each_both (FoundEach within index v (suc n) ds s) r.0 r.1
    (each_map (Found within (ds ++ IndexTo index v ∷ []) (store_with s index v)) (FoundEach within index v (suc n) ds s) r.0 (λ e h. (h.0, at_value h.1)) (k (ds ++ IndexTo index v ∷ []) (store_with s index v) r.2 r.0 r.3))
    (each_map (FoundEach within index (v +ℤ pos 1) n ds r.2) (FoundEach within index v (suc n) ds s) r.1 (λ e h. (h.0, at_later r.3 h.1)) (each_opened within k index ds n (v +ℤ pos 1) r.2 s' r.1 r.4)))

opened : (arms : Arms) (ds : List Setting) (s s' : Store) (es : List Enabled) → enabled arms ds s ≡ Gives es s' → EachOf (Found arms ds s) es
opened no_arms ds s s' es q =
    let none : [] ≡ es = cc in
    subst (EachOf (Found no_arms ds s)) none tt
opened (skip_arm test body others) ds s s' es q =
    let v = given_by (value_of test s) s s' (λ x s1. if holds x then and_arm (SkipArm ds body) (enabled others ds s1) else enabled others ds s1) es q in
    skip_opened test body others ds s s' es (λ xs e. opened others ds s s' xs e) v.0 v.1 (holds v.0) refl v.2
opened (input_arm test channel list others) ds s s' es q =
    let v = given_by (value_of (tested test) s) s s' (λ x s1. if holds x then then_in (in_store (span_of channel s1) s1) (λ c z. and_arm (InputArm ds (first_of c) list) (enabled others ds z)) else enabled others ds s1) es q in
    input_opened test channel list others ds s s' es (λ xs e. opened others ds s s' xs e) v.0 v.1 (holds v.0) refl v.2
opened (declared_arms x within others) ds s s' es q =
    let r = given_both (then_in (declared x s) (λ y s1. enabled within (ds ++ DeclaredAgain x ∷ []) s1)) (λ s1. enabled others ds s1) es s' q in
    let a = given_after (declared x s) r.2 (enabled within (ds ++ DeclaredAgain x ∷ [])) r.0 r.3 in
    subst (EachOf (Found (declared_arms x within others) ds s)) r.5
    (each_both (Found (declared_arms x within others) ds s) r.0 r.1
    (each_map (Found within (ds ++ DeclaredAgain x ∷ []) a.0) (Found (declared_arms x within others) ds s) r.0 (λ e h. (h.0, opens_declared a.1 h.1)) (opened within (ds ++ DeclaredAgain x ∷ []) a.0 r.2 r.0 a.2))
    (each_map (Found others ds r.2) (Found (declared_arms x within others) ds s) r.1 (λ e h. (h.0, after_declared a.1 a.2 h.1)) (opened others ds r.2 s' r.1 r.4)))
opened (each_arm over within others) ds s s' es q =
    let r = given_both (then_in (in_store (indices_of over s) s) (λ is s1. arms_over (enabled within) (index_of over) is ds s1)) (λ s1. enabled others ds s1) es s' q in
    let a = given_by (indices_of over s) s r.2 (λ is s1. arms_over (enabled within) (index_of over) is ds s1) r.0 r.3 in
    subst (EachOf (Found (each_arm over within others) ds s)) r.5
    (each_both (Found (each_arm over within others) ds s) r.0 r.1 (over_opened over within others ds s a.0 a.1 r.0 r.2 (λ base count e. each_opened within (λ ds' s1 s2 xs e'. opened within ds' s1 s2 xs e') (index_of over) ds count base s r.2 r.0 e) a.2)
    (each_map (Found others ds r.2) (Found (each_arm over within others) ds s) r.1 (λ e h. (h.0, after_each a.1 a.2 h.1)) (opened others ds r.2 s' r.1 r.4)))

pub all_opened : AllOpened
all_opened arms s s' es q = opened arms [] s s' es q
