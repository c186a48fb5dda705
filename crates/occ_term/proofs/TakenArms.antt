-- What an arm sets again has the values that it had when the arm was found open.
use Rattle.std.proofs.Common.{◌≡◌, ◌∙◌, ◌≤◌, sym, ap, subst, refl, Bool, true, false, IsTrue, ◌||◌, ◌⊎◌, inl, inr, ℕ, zero, suc, ◌+◌, ℤ, pos, nat_eq, if◌then◌else◌, List, [], ◌∷◌, ◌++◌, length, replicate, arith}
use Rattle.std.specs.Prelude.{◌+ℤ◌}
use Rattle.std.proofs.lemmas.Bool.Decides.{nat_tests}
use Rattle.std.proofs.lemmas.List.{length-replicate}
use Rattle.occ_term.specs.Messages.{Part, simple_part}
use Rattle.occ_term.specs.Terms.{Declaration, Clearing, Naming, Arms, no_arms, skip_arm, input_arm, declared_arms, each_arm, tested}
use Rattle.occ_term.specs.Values.{Store, store_with, Evaluated, Value, Fails, span, holds, first_of, value_of, span_of, part_of, AgreeOn}
use Rattle.occ_term.specs.Storing.{Outcome, Gives, Faults, then_in, in_store, Nothing, nothing, store_from, values_in, declared, Indices, indices, indices_of, index_of}
use Rattle.occ_term.specs.Uses.{Numbers, Uses, empty_set, union, only, numbers_in, reads_of_item, cells_of_item, uses_of_declaration}
use Rattle.occ_term.specs.TermTyping.{Declared, DeclarationHas, ArmsHave}
use Rattle.occ_term.specs.Selecting.{Setting, IndexTo, DeclaredAgain, set_one, set_again, Enabled, SkipArm, InputArm, and_arm, and_arms, each_over, arms_over, enabled}
use Rattle.occ_term.specs.StepUses.{uses_of_setting, uses_of_settings, ChangesOnly}
use Rattle.occ_term.specs.TakenArms.{sets_of, Scoped, Opens, opens_skip, after_skip, opens_input, after_input, opens_declared, after_declared, opens_each, after_each, OpensEach, at_value, at_later, again_of, SameAgain}
use Rattle.occ_term.proofs.TypedStores.{Has, Any}
use Rattle.occ_term.proofs.TypedValues.{or_left, or_right}
use Rattle.occ_term.proofs.TypedPlaces.{in_span, to_span}
use Rattle.occ_term.proofs.KeptStores.{Goes, goes_then, goes_in, one_goes, declared_goes, either_of, FillsCells, item_fills}
use Rattle.occ_term.proofs.RestOnReads.{items_rest_on_reads}

-- ---- what evaluating arms changes

-- a use that writes these alone
abbrev writes_in : Numbers → Uses
writes_in w = record { reads = λ c. true; writes = w; ins = λ c. true; outs = λ c. true }

any_value : {X : Type 0} (v : Evaluated X) → Has Any v
any_value (Value x) = tt
any_value (Fails e) = tt

either_goes : {X : Type 0} (w : Numbers) (s : Store) (b : Bool) (x y : Outcome X) → Goes w s Any x → Goes w s Any y → Goes w s Any (if b then x else y)
either_goes w s true x y h k = h
either_goes w s false x y h k = k

one_more : (w : Numbers) (s : Store) (e : Enabled) (o : Outcome (List Enabled)) → Goes w s Any o → Goes w s Any (and_arm e o)
one_more w s e (Gives es s') h = h
one_more w s e (Faults x s') h = h

some_more : (w : Numbers) (s : Store) (o : Outcome (List Enabled)) (k : Store → Outcome (List Enabled)) → Goes w s Any o → ((s' : Store) → ChangesOnly w s s' → Goes w s Any (k s')) → Goes w s Any (and_arms o k)
some_more w s o k h n =
    goes_then w s Any Any o (λ es s'. then_in (k s') (λ es' s''. Gives (es ++ es') s'')) h
    (λ es s' g c. goes_then w s Any Any (k s') (λ es' s''. Gives (es ++ es') s'') (n s' c) (λ es' s'' g' c'. (tt, c')))

module _ (d : Declared) (w : Numbers) (s : Store) where
  declares : (x : Declaration) (s' : Store) → DeclarationHas d x → ((c : ℕ) → IsTrue ((uses_of_declaration x).writes c) → IsTrue (w c)) → ChangesOnly w s s' → Goes w s Any (declared x s')
  declares x s' h m k = declared_goes d (writes_in w) s s' x h (record { reads = λ c n. refl; writes = m; ins = λ c n. refl; outs = λ c n. refl }) k

  each_keeps : (f : List Setting → Store → Outcome (List Enabled)) (index : ℕ) (ds : List Setting) → ((ds' : List Setting) (s' : Store) → ChangesOnly w s s' → Goes w s Any (f ds' s')) → IsTrue (w index)
      → (n : ℕ) (v : ℤ) (s' : Store) → ChangesOnly w s s' → Goes w s Any (each_over f index v n ds s')
  each_keeps f index ds h m zero v s' k = (tt, k)
  each_keeps f index ds h m (suc n) v s' k =
      some_more w s (f (ds ++ IndexTo index v ∷ []) (store_with s' index v)) (λ s''. each_over f index (v +ℤ pos 1) n ds s'') (h (ds ++ IndexTo index v ∷ []) (store_with s' index v) (one_goes w s s' index v m k))
      (λ s'' k'. each_keeps f index ds h m n (v +ℤ pos 1) s'' k')

  over_keeps : (f : List Setting → Store → Outcome (List Enabled)) (index : ℕ) (ds : List Setting) → ((ds' : List Setting) (s' : Store) → ChangesOnly w s s' → Goes w s Any (f ds' s')) → IsTrue (w index)
      → (is : Indices) (s' : Store) → ChangesOnly w s s' → Goes w s Any (arms_over f index is ds s')
  over_keeps f index ds h m (indices base count) s' k = each_keeps f index ds h m count base s' k

  itself : (c : ℕ) → IsTrue (only c c)
  itself c = grind (arith, nat_tests)

  arms_keep : (arms : Arms) (ds : List Setting) (s' : Store) → ArmsHave d arms → ((c : ℕ) → IsTrue (sets_of arms c) → IsTrue (w c)) → ChangesOnly w s s' → Goes w s Any (enabled arms ds s')
  arms_keep no_arms ds s' h m k = (tt, k)
  arms_keep (skip_arm test body others) ds s' h m k =
      goes_then w s Any Any (in_store (value_of test s') s') (λ v s''. if holds v then and_arm (SkipArm ds body) (enabled others ds s'') else enabled others ds s'') (goes_in w s Any (value_of test s') s' (any_value (value_of test s')) k)
      (λ v s'' g k'. let later = arms_keep others ds s'' h.2 m k' in either_goes w s (holds v) (and_arm (SkipArm ds body) (enabled others ds s'')) (enabled others ds s'') (one_more w s (SkipArm ds body) (enabled others ds s'') later) later)
  arms_keep (input_arm test channel list others) ds s' h m k =
      goes_then w s Any Any (in_store (value_of (tested test) s') s')
      (λ v s''. if holds v then then_in (in_store (span_of channel s'') s'') (λ c z. and_arm (InputArm ds (first_of c) list) (enabled others ds z)) else enabled others ds s'')
      (goes_in w s Any (value_of (tested test) s') s' (any_value (value_of (tested test) s')) k)
      (λ v s'' g k'. either_goes w s (holds v) (then_in (in_store (span_of channel s'') s'') (λ c z. and_arm (InputArm ds (first_of c) list) (enabled others ds z))) (enabled others ds s'')
      (goes_then w s Any Any (in_store (span_of channel s'') s'') (λ c z. and_arm (InputArm ds (first_of c) list) (enabled others ds z)) (goes_in w s Any (span_of channel s'') s'' (any_value (span_of channel s'')) k')
      (λ c z g' k''. one_more w s (InputArm ds (first_of c) list) (enabled others ds z) (arms_keep others ds z h.2 m k'')))
      (arms_keep others ds s'' h.2 m k'))
  arms_keep (declared_arms x within others) ds s' h m k =
      some_more w s (then_in (declared x s') (λ y s''. enabled within (ds ++ DeclaredAgain x ∷ []) s'')) (λ s''. enabled others ds s'')
      (goes_then w s Any Any (declared x s') (λ y s''. enabled within (ds ++ DeclaredAgain x ∷ []) s'') (declares x s' h.0 (λ c n. m c (or_left ((uses_of_declaration x).writes c) (sets_of within c || sets_of others c) n)) k)
      (λ y s'' g k'. arms_keep within (ds ++ DeclaredAgain x ∷ []) s'' h.1 (λ c n. m c (or_right ((uses_of_declaration x).writes c) (sets_of within c || sets_of others c) (or_left (sets_of within c) (sets_of others c) n))) k'))
      (λ s'' k'. arms_keep others ds s'' h.2 (λ c n. m c (or_right ((uses_of_declaration x).writes c) (sets_of within c || sets_of others c) (or_right (sets_of within c) (sets_of others c) n))) k')
  arms_keep (each_arm over within others) ds s' h m k =
      some_more w s (then_in (in_store (indices_of over s') s') (λ is s''. arms_over (enabled within) (index_of over) is ds s'')) (λ s''. enabled others ds s'')
      (goes_then w s Any Any (in_store (indices_of over s') s') (λ is s''. arms_over (enabled within) (index_of over) is ds s'') (goes_in w s Any (indices_of over s') s' (any_value (indices_of over s')) k)
      (λ is s'' g k'. over_keeps (enabled within) (index_of over) ds (λ ds' z k''. arms_keep within ds' z h.2 (λ c n. m c (or_right (only (index_of over) c) (sets_of within c || sets_of others c) (or_left (sets_of within c) (sets_of others c) n))) k'')
      (m (index_of over) (or_left (only (index_of over) (index_of over)) (sets_of within (index_of over) || sets_of others (index_of over)) (itself (index_of over)))) is s'' k'))
      (λ s'' k'. arms_keep others ds s'' h.3 (λ c n. m c (or_right (only (index_of over) c) (sets_of within c || sets_of others c) (or_right (sets_of within c) (sets_of others c) n))) k')

never : IsTrue false → ⊥
never h = cc

unchanged : (w : Numbers) (s : Store) → ChangesOnly w s s
unchanged w s c n = refl

given : {X : Type 0} (w : Numbers) (s s' : Store) (o : Outcome X) (x : X) → o ≡ Gives x s' → Goes w s Any o → ChangesOnly w s s'
given w s s' o x e g = (subst (λ z. Goes w s Any z) e g).1

-- ---- a declaration again

-- what is stored is the same, whatever else there is
stored_same : (vs : List ℤ) (first : ℕ) (s r : Store) (c : ℕ) → IsTrue (numbers_in (span first (length vs)) c) ⊎ (s c ≡ r c) → store_from first vs s c ≡ store_from first vs r c
stored_same [] first s r c (inl m) = let h = in_span first 0 c m in absurd (omega (arith, h.0, h.1))
stored_same [] first s r c (inr e) = e
stored_same (v ∷ vs) first s r c o = stored_same vs (first + 1) (store_with s first v) (store_with r first v) c (by_test (nat_eq first c) refl o)
  where
    by_test : (b : Bool) → nat_eq first c ≡ b → IsTrue (numbers_in (span first (suc (length vs))) c) ⊎ (s c ≡ r c)
        → IsTrue (numbers_in (span (first + 1) (length vs)) c) ⊎ ((if nat_eq first c then v else s c) ≡ (if nat_eq first c then v else r c))
    by_test true e o' = inr (rw e refl)
    by_test false e (inr same) = inr (rw e same)
    by_test false e (inl m) =
        let h = in_span first (suc (length vs)) c m in
        inl (to_span (first + 1) (length vs) c (apart first c h.0 e) (omega (arith, h.1)))
      where
        apart : (n m : ℕ) → n ≤ m → nat_eq n m ≡ false → n + 1 ≤ m
        apart n m l e = grind (arith, nat_tests)

record Again (x : Declaration) (s s1 r : Store) : Type 0 where
  store : Store
  sets : declared x r ≡ Gives nothing store
  same : (c : ℕ) → IsTrue ((uses_of_declaration x).writes c) ⊎ (s c ≡ r c) → s1 c ≡ store c

gives_store : {x y : Nothing} {s s' : Store} → Gives x s ≡ Gives y s' → s ≡ s'
gives_store e = cc

declared_same : (d : Declared) (x : Declaration) (s s1 r : Store) → DeclarationHas d x → declared x s ≡ Gives nothing s1 → AgreeOn (uses_of_declaration x).reads s r → Again x s s1 r
declared_same d (Clearing first count) s s1 r h e a =
    record {
      store = store_from first (replicate count (pos 0)) r;
      sets = refl;
      same = λ c o. ap (λ z. z c) (sym (gives_store e)) ∙ stored_same (replicate count (pos 0)) first s r c (rw (length-replicate count (pos 0)) o);
    }
declared_same d (Naming first value) s s1 r h e a =
    by_part (part_of value s) refl (sym same_part) (item_fills d s value h.1 h.0 h.2)
  where
    same_part : part_of value s ≡ part_of value r
    same_part = items_rest_on_reads d.types value (simple_part h.1 h.0) s r h.2 (λ c m. a c (or_left (reads_of_item value c) false m))

    by_part : (v : Evaluated Part) → part_of value s ≡ v → part_of value r ≡ part_of value s → Has (FillsCells value) (part_of value s) → Again (Naming first value) s s1 r
    by_part (Value p) q q' fills =
        let e' : Gives nothing (store_from first (values_in p) s) ≡ Gives nothing s1 = sym (ap (λ v. then_in (in_store v s) (λ p s'. Gives nothing (store_from first (values_in p) s'))) q) ∙ e in
        let long : length (values_in p) ≡ cells_of_item value = subst (λ v. Has (FillsCells value) v) q fills in
        record {
          store = store_from first (values_in p) r;
          sets = ap (λ v. then_in (in_store v r) (λ p s'. Gives nothing (store_from first (values_in p) s'))) (q' ∙ q);
          same = λ c o. ap (λ z. z c) (sym (gives_store e')) ∙ stored_same (values_in p) first s r c (rw long o);
        }
    by_part (Fails x) q q' fills =
        absurd (let e' = sym (ap (λ v. then_in (in_store v s) (λ p s'. Gives nothing (store_from first (values_in p) s'))) q) ∙ e in no_fault e')
      where
        no_fault : {X : Type 0} {f : _} {s s' : Store} {y : X} → Faults f s ≡ Gives y s' → ⊥
        no_fault e = absurd cc

-- ---- settings one more

only_nothing : (o : Outcome Nothing) → then_in o (λ y s. Gives nothing s) ≡ o
only_nothing (Gives nothing s) = refl
only_nothing (Faults e s) = refl

then_each : (o : Outcome Nothing) (f g : Store → Outcome Nothing) → ((s : Store) → f s ≡ g s) → then_in o (λ y s. f s) ≡ then_in o (λ y s. g s)
then_each (Gives x s) f g h = h s
then_each (Faults e s) f g h = refl

then_then : (o : Outcome Nothing) (f g : Store → Outcome Nothing) → then_in o (λ y s. then_in (f s) (λ z s'. g s')) ≡ then_in (then_in o (λ y s. f s)) (λ z s'. g s')
then_then (Gives x s) f g = refl
then_then (Faults e s) f g = refl

again_then : (ds : List Setting) (x : Setting) (s : Store) → set_again (ds ++ x ∷ []) s ≡ then_in (set_again ds s) (λ y s'. set_one x s')
again_then [] x s = only_nothing (set_one x s)
again_then (z ∷ ds) x s = then_each (set_one z s) (λ s'. set_again (ds ++ x ∷ []) s') (λ s'. then_in (set_again ds s') (λ y s''. set_one x s'')) (λ s'. again_then ds x s') ∙ then_then (set_one z s) (λ s'. set_again ds s') (λ s'. set_one x s')

writes_then : (ds : List Setting) (x : Setting) (c : ℕ) → IsTrue ((uses_of_settings (ds ++ x ∷ [])).writes c) → IsTrue ((uses_of_settings ds).writes c || (uses_of_setting x).writes c)
writes_then [] x c m = either_of ((uses_of_setting x).writes c) false (λ n. n) (λ n. absurd cc) m
writes_then (z ∷ ds) x c m =
    either_of ((uses_of_setting z).writes c) ((uses_of_settings (ds ++ x ∷ [])).writes c)
    (λ n. or_left ((uses_of_setting z).writes c || (uses_of_settings ds).writes c) ((uses_of_setting x).writes c) (or_left ((uses_of_setting z).writes c) ((uses_of_settings ds).writes c) n))
    (λ n. either_of ((uses_of_settings ds).writes c) ((uses_of_setting x).writes c)
    (λ k. or_left ((uses_of_setting z).writes c || (uses_of_settings ds).writes c) ((uses_of_setting x).writes c) (or_right ((uses_of_setting z).writes c) ((uses_of_settings ds).writes c) k))
    (λ k. or_right ((uses_of_setting z).writes c || (uses_of_settings ds).writes c) ((uses_of_setting x).writes c) k) (writes_then ds x c n)) m

-- ---- the arms

-- what stands round arms has none of their cells
sets_apart : (all round : Numbers) (arms : Arms) → Scoped all round arms → (c : ℕ) → IsTrue (sets_of arms c) → IsTrue (round c) → ⊥
sets_apart all round no_arms h c m n = absurd cc
sets_apart all round (skip_arm e t arms) h c m n = sets_apart all round arms h c m n
sets_apart all round (input_arm e ch list arms) h c m n = sets_apart all round arms h c m n
sets_apart all round (declared_arms x arms others) h c m n =
    either_of ((uses_of_declaration x).writes c) (sets_of arms c || sets_of others c) (λ k. h.1 c k n)
    (λ k. either_of (sets_of arms c) (sets_of others c) (λ l. sets_apart all (union round (uses_of_declaration x).writes) arms h.2 c l (or_left (round c) ((uses_of_declaration x).writes c) n)) (λ l. sets_apart all round others h.3 c l n) k) m
sets_apart all round (each_arm r arms others) h c m n =
    either_of (only (index_of r) c) (sets_of arms c || sets_of others c) (λ k. h.0 c k n)
    (λ k. either_of (sets_of arms c) (sets_of others c) (λ l. sets_apart all (union round (only (index_of r))) arms h.1 c l (or_left (round c) (only (index_of r) c) n)) (λ l. sets_apart all round others h.2 c l n) k) m

module _ (d : Declared) (all : Numbers) (z : Store) where
  -- from the last store, the settings lead to a store that is like this one, but for cells of the ALT that are not set round the arms
  record State (round : Numbers) (ds : List Setting) (s : Store) : Type 0 where
    store : Store
    sets : set_again ds z ≡ Gives nothing store
    outside : (c : ℕ) → (IsTrue (all c) → ⊥) → s c ≡ store c
    inside : (c : ℕ) → IsTrue (round c) → s c ≡ store c
    writes : (c : ℕ) → IsTrue ((uses_of_settings ds).writes c) → IsTrue (round c)

  -- arms before these change none of that
  moved : (round w : Numbers) (ds : List Setting) (s s1 : Store) → ChangesOnly w s s1 → ((c : ℕ) → IsTrue (w c) → IsTrue (all c)) → ((c : ℕ) → IsTrue (w c) → IsTrue (round c) → ⊥) → State round ds s → State round ds s1
  moved round w ds s s1 k m apart x =
      record { store = x.store; sets = x.sets; outside = λ c n. k c (λ l. n (m c l)) ∙ x.outside c n; inside = λ c n. k c (λ l. apart c l n) ∙ x.inside c n; writes = x.writes }

  index_state : (round : Numbers) (ds : List Setting) (s : Store) (index : ℕ) (v : ℤ) → State round ds s → State (union round (only index)) (ds ++ IndexTo index v ∷ []) (store_with s index v)
  index_state round ds s index v x =
      record {
        store = store_with x.store index v;
        sets = again_then ds (IndexTo index v) z ∙ ap (λ o. then_in o (λ y s'. set_one (IndexTo index v) s')) x.sets;
        outside = λ c n. if_same (nat_eq index c) v (s c) (x.store c) (x.outside c n);
        inside = λ c m. by_test c (nat_eq index c) refl m;
        writes = λ c m. either_of ((uses_of_settings ds).writes c) (only index c) (λ n. or_left (round c) (only index c) (x.writes c n)) (λ n. or_right (round c) (only index c) n) (writes_then ds (IndexTo index v) c m);
      }
    where
      if_same : (b : Bool) (v a a' : ℤ) → a ≡ a' → (if b then v else a) ≡ (if b then v else a')
      if_same true v a a' e = refl
      if_same false v a a' e = e

      by_test : (c : ℕ) (b : Bool) → nat_eq index c ≡ b → IsTrue (round c || nat_eq index c) → (if nat_eq index c then v else s c) ≡ (if nat_eq index c then v else x.store c)
      by_test c true e m = rw e refl
      by_test c false e m = if_same (nat_eq index c) v (s c) (x.store c) (either_of (round c) (nat_eq index c) (λ n. x.inside c n) (λ n. absurd (never (subst IsTrue e n))) m)

  declared_state : (round : Numbers) (ds : List Setting) (s s1 : Store) (y : Declaration) → DeclarationHas d y → ((c : ℕ) → IsTrue ((uses_of_declaration y).reads c) → IsTrue (all c) → IsTrue (round c)) → declared y s ≡ Gives nothing s1 → State round ds s
      → State (union round (uses_of_declaration y).writes) (ds ++ DeclaredAgain y ∷ []) s1
  declared_state round ds s s1 y h reads e x =
      let a = declared_same d y s s1 x.store h e (λ c m. by_test c (all c) refl m) in
      record {
        store = a.store;
        sets = again_then ds (DeclaredAgain y) z ∙ ap (λ o. then_in o (λ q s'. set_one (DeclaredAgain y) s')) x.sets ∙ a.sets;
        outside = λ c n. a.same c (inr (x.outside c n));
        inside = λ c m. either_of (round c) ((uses_of_declaration y).writes c) (λ n. a.same c (inr (x.inside c n))) (λ n. a.same c (inl n)) m;
        writes = λ c m. either_of ((uses_of_settings ds).writes c) ((uses_of_declaration y).writes c) (λ n. or_left (round c) ((uses_of_declaration y).writes c) (x.writes c n)) (λ n. or_right (round c) ((uses_of_declaration y).writes c) n) (writes_then ds (DeclaredAgain y) c m);
      }
    where
      by_test : (c : ℕ) (b : Bool) → all c ≡ b → IsTrue ((uses_of_declaration y).reads c) → s c ≡ x.store c
      by_test c true q m = x.inside c (reads c m q)
      by_test c false q m = x.outside c (λ n. never (subst IsTrue q n))

  abbrev Same : Enabled → Store → Type 0
  Same e t = (t' : Store) × (set_again (again_of e) z ≡ Gives nothing t') × ((c : ℕ) → IsTrue ((uses_of_settings (again_of e)).writes c) → t' c ≡ t c)

  mutual
    opens_same : (arms : Arms) (round : Numbers) (ds : List Setting) (s t : Store) (e : Enabled) → ArmsHave d arms → Scoped all round arms → ((c : ℕ) → IsTrue (sets_of arms c) → IsTrue (all c)) → State round ds s → Opens arms ds s e t → Same e t
    opens_same no_arms round ds s t e h k m x o = elim o [ ]
    opens_same (skip_arm test body others) round ds s t e h k m x (opens_skip p q) = (x.store, x.sets, λ c n. sym (x.inside c (x.writes c n)))
    opens_same (skip_arm test body others) round ds s t e h k m x (after_skip o) = opens_same others round ds s t e h.2 k m x o
    opens_same (input_arm test channel list others) round ds s t e h k m x (opens_input p q r) = (x.store, x.sets, λ c n. sym (x.inside c (x.writes c n)))
    opens_same (input_arm test channel list others) round ds s t e h k m x (after_input o) = opens_same others round ds s t e h.2 k m x o
    opens_same (declared_arms y within others) round ds s t e h k m x (opens_declared {s' = s'} p o) =
        opens_same within (union round (uses_of_declaration y).writes) (ds ++ DeclaredAgain y ∷ []) s' t e h.1 k.2 (λ c n. m c (or_right ((uses_of_declaration y).writes c) (sets_of within c || sets_of others c) (or_left (sets_of within c) (sets_of others c) n)))
        (declared_state round ds s s' y h.0 k.0 p x) o
    opens_same (declared_arms y within others) round ds s t e h k m x (after_declared {s' = s'} {s'' = s''} {es = es} p q o) =
        let w = union (uses_of_declaration y).writes (sets_of within) in
        let first = given w s s' (declared y s) nothing p (declares d w s y s h.0 (λ c n. or_left ((uses_of_declaration y).writes c) (sets_of within c) n) (unchanged w s)) in
        let both = given w s s'' (enabled within (ds ++ DeclaredAgain y ∷ []) s') es q (arms_keep d w s within (ds ++ DeclaredAgain y ∷ []) s' h.1 (λ c n. or_right ((uses_of_declaration y).writes c) (sets_of within c) n) first) in
        opens_same others round ds s'' t e h.2 k.3 (λ c n. m c (or_right ((uses_of_declaration y).writes c) (sets_of within c || sets_of others c) (or_right (sets_of within c) (sets_of others c) n)))
        (moved round w ds s s'' both
        (λ c n. m c (either_of ((uses_of_declaration y).writes c) (sets_of within c) (λ l. or_left ((uses_of_declaration y).writes c) (sets_of within c || sets_of others c) l) (λ l. or_right ((uses_of_declaration y).writes c) (sets_of within c || sets_of others c) (or_left (sets_of within c) (sets_of others c) l)) n))
        (λ c n l. either_of ((uses_of_declaration y).writes c) (sets_of within c) (λ u. k.1 c u l) (λ u. sets_apart all (union round (uses_of_declaration y).writes) within k.2 c u (or_left (round c) ((uses_of_declaration y).writes c) l)) n) x) o
    opens_same (each_arm r within others) round ds s t e h k m x (opens_each {base = base} {count = count} p o) =
        each_same within (index_of r) round ds h.2 k.1 k.0 (λ c n. m c (or_left (only (index_of r) c) (sets_of within c || sets_of others c) n)) (λ c n. m c (or_right (only (index_of r) c) (sets_of within c || sets_of others c) (or_left (sets_of within c) (sets_of others c) n))) count base s t e x o
    opens_same (each_arm r within others) round ds s t e h k m x (after_each {s' = s'} {is = is} {es = es} p q o) =
        let w = union (only (index_of r)) (sets_of within) in
        let both = given w s s' (arms_over (enabled within) (index_of r) is ds s) es q (over_keeps d w s (enabled within) (index_of r) ds (λ ds' u c. arms_keep d w s within ds' u h.2 (λ c n. or_right (only (index_of r) c) (sets_of within c) n) c)
        (or_left (only (index_of r) (index_of r)) (sets_of within (index_of r)) (itself d w s (index_of r))) is s (unchanged w s)) in
        opens_same others round ds s' t e h.3 k.2 (λ c n. m c (or_right (only (index_of r) c) (sets_of within c || sets_of others c) (or_right (sets_of within c) (sets_of others c) n)))
        (moved round w ds s s' both
        (λ c n. m c (either_of (only (index_of r) c) (sets_of within c) (λ l. or_left (only (index_of r) c) (sets_of within c || sets_of others c) l) (λ l. or_right (only (index_of r) c) (sets_of within c || sets_of others c) (or_left (sets_of within c) (sets_of others c) l)) n))
        (λ c n l. either_of (only (index_of r) c) (sets_of within c) (λ u. k.0 c u l) (λ u. sets_apart all (union round (only (index_of r))) within k.1 c u (or_left (round c) (only (index_of r) c) l)) n) x) o

    each_same : (within : Arms) (index : ℕ) (round : Numbers) (ds : List Setting) → ArmsHave d within → Scoped all (union round (only index)) within → ((c : ℕ) → IsTrue (only index c) → IsTrue (round c) → ⊥) → ((c : ℕ) → IsTrue (only index c) → IsTrue (all c)) → ((c : ℕ) → IsTrue (sets_of within c) → IsTrue (all c))
        → (n : ℕ) (v : ℤ) (s t : Store) (e : Enabled) → State round ds s → OpensEach within index v n ds s e t → Same e t
    each_same within index round ds h k apart m m' zero v s t e x o = elim o [ ]
    each_same within index round ds h k apart m m' (suc n) v s t e x (at_value o) = opens_same within (union round (only index)) (ds ++ IndexTo index v ∷ []) (store_with s index v) t e h k m' (index_state round ds s index v x) o
    each_same within index round ds h k apart m m' (suc n) v s t e x (at_later {s' = s'} {es = es} q o) =
        let w = union (only index) (sets_of within) in
        let one = one_goes w s s index v (or_left (only index index) (sets_of within index) (itself d w s index)) (unchanged w s) in
        let both = given w s s' (enabled within (ds ++ IndexTo index v ∷ []) (store_with s index v)) es q (arms_keep d w s within (ds ++ IndexTo index v ∷ []) (store_with s index v) h (λ c n. or_right (only index c) (sets_of within c) n) one) in
        each_same within index round ds h k apart m m' n (v +ℤ pos 1) s' t e
        (moved round w ds s s' both (λ c n. either_of (only index c) (sets_of within c) (m c) (m' c) n)
        (λ c n l. either_of (only index c) (sets_of within c) (λ u. apart c u l) (λ u. sets_apart all (union round (only index)) within k c u (or_left (round c) (only index c) l)) n) x) o

pub same_again : SameAgain
same_again d arms s s' t es e h k q o =
    let w = sets_of arms in
    let kept = given w s s' (enabled arms [] s) es q (arms_keep d w s arms [] s h (λ c n. n) (unchanged w s)) in
    opens_same d w s' arms empty_set [] s t e h k (λ c n. n)
    (record { store = s'; sets = refl; outside = λ c n. sym (kept c n); inside = λ c n. absurd cc; writes = λ c n. n }) o
