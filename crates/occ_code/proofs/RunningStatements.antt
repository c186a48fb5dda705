-- What the code of assignments, declarations and replicators does.
use Rattle.std.specs.Prelude.{slice_get, negsuc, ◌||◌, int_le, nat_abs, ◌&&◌, ◌+ℤ◌, replicate}
use Rattle.std.proofs.Common.{◌≡◌, ◌∙◌, ℕ, suc, ℤ, pos, ◌+◌, Bool, true, false, IsTrue, List, [], ◌∷◌, ◌++◌, Some, refl, ap, subst, sym, arith}
use Rattle.std.proofs.lemmas.Bool.Decides.{nat_tests}
use Rattle.occ_term.specs.Values.{Evaluated, Value, Fails}
use Rattle.occ_term.specs.Storing.{in_store}
use Rattle.occ_code.specs.Laws.{FaultsAt, comes, fails}
use Rattle.occ_machine.specs.Machine.{by_cell, Walks}
use Rattle.occ_term.specs.Terms.{Expression}
use Rattle.occ_term.specs.Uses.{reads_of}
use Rattle.occ_term.specs.declared.primitive.Primitive.{Primitive}
use Rattle.occ_term.specs.declared.message.Part.TheVariants.{One}
use Rattle.occ_term.specs.declared.protocol.PartType.TheVariants.{One as OneOf, Many as ManyOf, Counted as CountedOf}
use Rattle.occ_term.specs.Terms.{place, no_subscripts, then_subscript, OfOne, OfMany, OfCounted, Into, IntoCounted}
use Rattle.occ_term.specs.Typing.{ItemHas}
use Rattle.occ_term.specs.Values.{store_with}
use Rattle.occ_machine.specs.Machine.{frame_with}
use Rattle.occ_machine.specs.declared.instr.Instr.TheVariants.{StoreOne}
use Rattle.occ_code.specs.Expressions.{assignment_code}
use Rattle.occ_code.proofs.Walks.{walks_on}
use Rattle.occ_code.proofs.ReadCells.{value_same}
use Rattle.occ_code.proofs.AgreeingFrames.{one_held}
use Rattle.occ_term.specs.declared.fault.Fault.{Fault}
use Rattle.occ_term.specs.declared.fault.FaultKind.TheVariants.{Count}
use Rattle.occ_term.specs.declared.message.Part.{Part}
use Rattle.occ_term.specs.declared.protocol.PartType.{PartType}
use Rattle.occ_term.specs.Messages.{simple_part}
use Rattle.occ_term.specs.Terms.{Item, Target, Declaration, Clearing, Naming, Replicator, replicator}
use Rattle.occ_term.specs.Values.{Store, after, checked, value_of, part_of, parts_of, AgreeOn}
use Rattle.occ_term.specs.Storing.{Outcome, Gives, Faults, then_in, Nothing, nothing, store_from, values_in, Spot, spots_of, store_parts, store_into, assigned, declared, all_declared, Indices, indices, indices_of}
use Rattle.occ_term.specs.Uses.{Numbers, reads_of_item, reads_of_items, uses_of_targets, uses_of_declaration, uses_of_declarations}
use Rattle.occ_term.specs.TermTyping.{Declared, ItemsHave, TargetsHave, DeclarationHas, DeclarationsHave, ReplicatorHas}
use Rattle.occ_code.specs.Within.{AreNumbered}
use Rattle.occ_term.specs.declared.primitive.Primitive.TheVariants.{Int}
use Rattle.occ_term.specs.Frames.{Variables, is_held, at}
use Rattle.occ_machine.specs.Machine.{Point, point, Moves, act, here, on, frame_from, Stored, Stays, Refused, frame_parts, last_part, without_last, named_from, going_stored, counting}
use Rattle.occ_machine.specs.declared.instr.Instr.{Instr}
use Rattle.occ_machine.specs.declared.instr.Instr.TheVariants.{StoreParts, StoreNamed}
use Rattle.occ_code.specs.Expressions.{expression_code, item_code, items_code, targets_code, declaration_code, declarations_code, storing_code, counting_code}
use Rattle.occ_code.specs.Laws.{StandsAt, Comes}
use Rattle.occ_code.proofs.Walks.{split}
use Rattle.occ_code.proofs.RunningExpressions.{comes_then, comes_by, comes_at, expression_runs, steps_to}
use Rattle.occ_code.proofs.RunningItems.{item_runs, items_run, targets_run}
use Rattle.occ_code.proofs.ReadCells.{or_left, or_right, part_as, parts_same, spots_same}
use Rattle.occ_code.proofs.AgreeingFrames.{HoldsAs, span_held, span_left, StoresAs, parts_held, parts_left, stored_frame, frame_of, GivesAs, FaultsAs, Performs, performs, refuses, performs_then, performs_by}

last_is : (q : List Part) (p : Part) → last_part (q ++ p ∷ []) ≡ Some p
last_is [] p = refl
last_is (x ∷ []) p = refl
last_is (x ∷ y ∷ q) p = last_is (y ∷ q) p

others_are : (q : List Part) (p : Part) → without_last (q ++ p ∷ []) ≡ q
others_are [] p = refl
others_are (x ∷ []) p = refl
others_are (x ∷ y ∷ q) p = ap (λ r. x ∷ r) (others_are (y ∷ q) p)

module _ (code : List (Instr ℕ)) (cells : List ℕ) (d : Declared) where
  -- the frame has what is read
  abbrev pub Held : Numbers → Type 0
  Held u = (c : ℕ) → IsTrue (u c) → IsTrue (is_held cells c)

  pub held_left : (a b : Numbers) → Held (λ c. a c || b c) → Held a
  held_left a b h c m = h c (or_left (a c) (b c) m)

  pub held_right : (a b : Numbers) → Held (λ c. a c || b c) → Held b
  held_right a b h c m = h c (or_right (a c) (b c) m)

  pub agrees_on : (u : Numbers) (f : Variables) (s : Store) → Held u → HoldsAs cells f s → AgreeOn u s (at f)
  agrees_on u f s h k c m = sym (k.same c (h c m))

  -- at a place, with this stack, this queue and these spots
  abbrev pub Lands : {X : Type 0} → ℕ → List ℤ → List Part → List Spot → X → Point → Type 0
  Lands pc st q sp x b = b ≡ point pc st q sp (frame_of b)

  abbrev pub Sets : Variables → Point → (Store → Outcome Nothing) → ℕ → List ℤ → List Part → List Spot → Type 0
  Sets f a o pc st q sp = Performs code cells f a o (λ x b. Lands pc st q sp x b)

  -- ---- stores

  as_gives : (g : Variables) (o : Outcome Nothing) → StoresAs cells (Stays g) o → GivesAs cells o nothing g
  as_gives g (Gives nothing s) h = record { store = s; gives_it = refl; holds = h }
  as_gives g (Faults e s) h = absurd h

  as_faults : (e : Fault) (g : Variables) (o : Outcome Nothing) → StoresAs cells (Refused e g) o → FaultsAs cells o e g
  as_faults e g (Gives x s) h = absurd h
  as_faults e g (Faults e' s) h = record { store = s; faults_by = ap (λ x. Faults x s) h.0; holds = h.1 }

  stores_run : (xs : List Spot) (ps : List Part) (f : Variables) (pc pc' : ℕ) (st : List ℤ) (a : Stored) → frame_parts xs ps f ≡ a → slice_get code pc ≡ Some StoreParts → pc + 1 ≡ pc'
      → Sets f (point pc st ps xs f) (λ s. store_parts xs ps s) pc' st [] []
  stores_run xs ps f pc pc' st (Stays g) e h n =
      performs nothing (point (pc + 1) st [] [] g)
      (on (ap (λ o. act by_cell o pc st ps xs f) h ∙ ap (λ z. going_stored pc z (λ y. point (pc + 1) st [] [] y)) e) here)
      (ap (λ m. point m st [] [] g) n)
      (sym (ap (λ z. (stored_frame z).left) e) ∙ parts_left xs ps f)
      (λ s hs. as_gives g (store_parts xs ps s) (subst (λ z. StoresAs cells z (store_parts xs ps s)) e (parts_held cells xs ps f s hs)))
  stores_run xs ps f pc pc' st (Refused x g) e h n =
      refuses x g (record { last = point pc st ps xs f; stands = pc; walks = here; stops = ap (λ o. act by_cell o pc st ps xs f) h ∙ ap (λ z. going_stored pc z (λ y. point (pc + 1) st [] [] y)) e })
      (sym (ap (λ z. (stored_frame z).left) e) ∙ parts_left xs ps f)
      (λ s hs. as_faults x g (store_parts xs ps s) (subst (λ z. StoresAs cells z (store_parts xs ps s)) e (parts_held cells xs ps f s hs)))

  -- what was set, and then something else from there
  pub sets_then : {Y : Type 0} {f : Variables} {a : Point} (o : Store → Outcome Nothing) (pc : ℕ) (st : List ℤ) (q : List Part) (sp : List Spot) (k : Store → Outcome Y) {To : Y → Point → Type 0}
      → Sets f a o pc st q sp → ((g : Variables) → Performs code cells g (point pc st q sp g) k To) → Performs code cells f a (λ s. then_in (o s) (λ x s'. k s')) To
  sets_then o pc st q sp k {To = To} x n = performs_then code cells (λ y s'. k s') x (λ y b e. subst (λ z. Performs code cells (frame_of b) z k To) (sym e) (n (frame_of b)))

  module _ (few : AreNumbered d) where
    pub storing_runs : (ts : List Target) (types : List PartType) (ps : List Part) (f : Variables) (pc pc' : ℕ) (st : List ℤ) → TargetsHave d ts types → Held (uses_of_targets ts).reads → StandsAt code pc (storing_code ts) pc'
        → Sets f (point pc st ps [] f) (store_into ts ps) pc' st [] []
    storing_runs ts types ps f pc pc' st h k at_place =
        let (m, a, l) = split code pc pc' (targets_code ts) _ at_place in
        performs_by code cells (spots_of ts) (spots_of ts (at f)) (λ xs. point m st ps xs f) (λ ats s'. store_parts ats ps s') (targets_run code f st ps d few ts types h [] pc m a)
        (λ s hs. spots_same d s (at f) ts types h (agrees_on (uses_of_targets ts).reads f s k hs))
        (λ xs e. stores_run xs ps f m pc' st (frame_parts xs ps f) refl l.0 l.1)

    pub assignment_runs : (ts : List Target) (vs : List Item) (types : List PartType) (f : Variables) (pc pc' : ℕ) → ItemsHave d vs types → TargetsHave d ts types → Held (reads_of_items vs) → Held (uses_of_targets ts).reads
        → StandsAt code pc (items_code vs ++ storing_code ts) pc' → Sets f (point pc [] [] [] f) (assigned ts vs) pc' [] [] []
    assignment_runs ts vs types f pc pc' hv ht kv kt at_place =
        let (m, a, l) = split code pc pc' (items_code vs) _ at_place in
        performs_by code cells (parts_of vs) (parts_of vs (at f)) (λ ps. point m [] ps [] f) (λ ps s'. store_into ts ps s') (items_run code f [] [] d few vs types hv [] pc m a)
        (λ s hs. parts_same d s (at f) vs types hv (agrees_on (reads_of_items vs) f s kv hs))
        (λ ps e. storing_runs ts types ps f m pc' [] ht kt l)

    -- one value into one variable
    one_store_runs : (type : Primitive) (t : PartType) (line c : ℕ) (e : Expression) (f : Variables) (pc pc' : ℕ) → ItemHas d.types (OfOne type e) t → Held (reads_of e)
        → StandsAt code pc (expression_code e ++ StoreOne c ∷ []) pc' → Sets f (point pc [] [] [] f) (assigned (Into (place line c [] no_subscripts) ∷ []) (OfOne type e ∷ [])) pc' [] [] []
    one_store_runs type t line c e f pc pc' h k at_place =
        let (m, a, l) = split code pc pc' (expression_code e) _ at_place in
        by_value m (value_of e (at f)) refl (runs t h m a) l.0 l.1
      where
        runs : (u : PartType) → ItemHas d.types (OfOne type e) u → (m : ℕ) → StandsAt code pc (expression_code e) m → Comes code f (point pc [] [] [] f) (value_of e (at f)) (λ x. point m (x ∷ []) [] [] f)
        runs (OneOf u) g m a = expression_runs code f [] [] d.types few.cells e u g.1 pc m [] a
        runs (ManyOf sizes u) g m a = absurd g
        runs (CountedOf n u) g m a = absurd g

        stored_by : (v : Evaluated ℤ) (s : Store) → Outcome Nothing
        stored_by v s = then_in (in_store (after (after v (λ x. Value (One type x))) (λ p. after (Value []) (λ ps. Value (p ∷ ps)))) s) (λ ps s'. store_into (Into (place line c [] no_subscripts) ∷ []) ps s')

        typed_value : (u : PartType) → ItemHas d.types (OfOne type e) u → (s : Store) → HoldsAs cells f s → value_of e s ≡ value_of e (at f)
        typed_value (OneOf u) g s hs = value_same d.types s (at f) e u g.1 (agrees_on (reads_of e) f s k hs)
        typed_value (ManyOf sizes u) g s hs = absurd g
        typed_value (CountedOf n u) g s hs = absurd g

        by_value : (m : ℕ) (v : Evaluated ℤ) → value_of e (at f) ≡ v → Comes code f (point pc [] [] [] f) (value_of e (at f)) (λ x. point m (x ∷ []) [] [] f) → slice_get code m ≡ Some (StoreOne c) → m + 1 ≡ pc'
            → Sets f (point pc [] [] [] f) (assigned (Into (place line c [] no_subscripts) ∷ []) (OfOne type e ∷ [])) pc' [] [] []
        by_value m (Value x) q w l n =
            let walk = came (subst (λ v. Comes code f (point pc [] [] [] f) v (λ x. point m (x ∷ []) [] [] f)) q w) in
            performs nothing (point (m + 1) [] [] [] (frame_with f c x)) (walks_on walk (steps_to code f m (x ∷ []) [] [] (StoreOne c) (point (m + 1) [] [] [] (frame_with f c x)) l refl))
            (ap (λ y. point y [] [] [] (frame_with f c x)) n) refl
            (λ s hs. record { store = store_with s c x; gives_it = ap (λ v. stored_by v s) (typed_value t h s hs ∙ q); holds = one_held cells f s c x hs })
          where
            came : {y : ℤ} {to : ℤ → Point} → Comes code f (point pc [] [] [] f) (Value y) to → Walks by_cell code (point pc [] [] [] f) (to y)
            came (comes u) = u
        by_value m (Fails err) q w l n =
            refuses err f (failed (subst (λ v. Comes code f (point pc [] [] [] f) v (λ x. point m (x ∷ []) [] [] f)) q w)) refl
            (λ s hs. record { store = s; faults_by = ap (λ v. stored_by v s) (typed_value t h s hs ∙ q); holds = hs })
          where
            failed : {y : Fault} {to : ℤ → Point} → Comes code f (point pc [] [] [] f) (Fails y) to → FaultsAt code (point pc [] [] [] f) f y
            failed (fails u) = u

    pub assigns : (ts : List Target) (vs : List Item) (types : List PartType) (f : Variables) (pc pc' : ℕ) → ItemsHave d vs types → TargetsHave d ts types → Held (reads_of_items vs) → Held (uses_of_targets ts).reads
        → StandsAt code pc (assignment_code ts vs) pc' → Sets f (point pc [] [] [] f) (assigned ts vs) pc' [] [] []
    assigns (Into (place line c [] no_subscripts) ∷ []) (OfOne type e ∷ []) [] f pc pc' hv ht kv kt l = absurd hv
    assigns (Into (place line c [] no_subscripts) ∷ []) (OfOne type e ∷ []) (t ∷ types) f pc pc' hv ht kv kt l = one_store_runs type t line c e f pc pc' hv.0 (held_left (reads_of e) (reads_of_items []) kv) l
    assigns (Into (place line c [] no_subscripts) ∷ []) [] types f pc pc' hv ht kv kt l = assignment_runs (Into (place line c [] no_subscripts) ∷ []) [] types f pc pc' hv ht kv kt l
    assigns (Into (place line c [] no_subscripts) ∷ []) (OfOne type e ∷ v ∷ vs) types f pc pc' hv ht kv kt l = assignment_runs (Into (place line c [] no_subscripts) ∷ []) (OfOne type e ∷ v ∷ vs) types f pc pc' hv ht kv kt l
    assigns (Into (place line c [] no_subscripts) ∷ []) (OfMany type a ∷ vs) types f pc pc' hv ht kv kt l = assignment_runs (Into (place line c [] no_subscripts) ∷ []) (OfMany type a ∷ vs) types f pc pc' hv ht kv kt l
    assigns (Into (place line c [] no_subscripts) ∷ []) (OfCounted type line' n a ∷ vs) types f pc pc' hv ht kv kt l = assignment_runs (Into (place line c [] no_subscripts) ∷ []) (OfCounted type line' n a ∷ vs) types f pc pc' hv ht kv kt l
    assigns [] vs types f pc pc' hv ht kv kt l = assignment_runs [] vs types f pc pc' hv ht kv kt l
    assigns (Into (place line c [] no_subscripts) ∷ t ∷ ts) vs types f pc pc' hv ht kv kt l = assignment_runs (Into (place line c [] no_subscripts) ∷ t ∷ ts) vs types f pc pc' hv ht kv kt l
    assigns (Into (place line c [] (then_subscript x xs)) ∷ ts) vs types f pc pc' hv ht kv kt l = assignment_runs (Into (place line c [] (then_subscript x xs)) ∷ ts) vs types f pc pc' hv ht kv kt l
    assigns (Into (place line c (n ∷ ns) subs) ∷ ts) vs types f pc pc' hv ht kv kt l = assignment_runs (Into (place line c (n ∷ ns) subs) ∷ ts) vs types f pc pc' hv ht kv kt l
    assigns (IntoCounted line n a ∷ ts) vs types f pc pc' hv ht kv kt l = assignment_runs (IntoCounted line n a ∷ ts) vs types f pc pc' hv ht kv kt l

    -- ---- declarations

    pub declaration_runs : (x : Declaration) (f : Variables) (pc pc' : ℕ) (st : List ℤ) (q : List Part) → DeclarationHas d x → Held (uses_of_declaration x).reads → StandsAt code pc (declaration_code x) pc'
        → Sets f (point pc st q [] f) (declared x) pc' st q []
    declaration_runs (Clearing first count) f pc pc' st q h k l =
        performs nothing (point (pc + 1) st q [] (frame_from first (replicate count (pos 0)) f)) (steps_to code f pc st q [] _ _ l.0 refl) (ap (λ m. point m st q [] (frame_from first (replicate count (pos 0)) f)) l.1)
        (span_left (replicate count (pos 0)) first f)
        (λ s hs. record { store = store_from first (replicate count (pos 0)) s; gives_it = refl; holds = span_held cells (replicate count (pos 0)) first f s hs })
    declaration_runs (Naming first value) f pc pc' st q h k at_place =
        let (m, a, l) = split code pc pc' (item_code value) _ at_place in
        performs_by code cells (part_of value) (part_of value (at f)) (λ p. point m st (q ++ p ∷ []) [] f) (λ p s'. Gives nothing (store_from first (values_in p) s')) (item_runs code f st [] d few value (simple_part h.1 h.0) h.2 q pc m a)
        (λ s hs. part_as d s (at f) value (simple_part h.1 h.0) h.2 (agrees_on (reads_of_item value) f s (λ c n. k c (or_left (reads_of_item value c) _ n)) hs))
        (λ p e. performs nothing (point (m + 1) st q [] (frame_from first (values_in p) f))
        (steps_to code f m st (q ++ p ∷ []) [] (StoreNamed first) _ l.0 (ap (λ r. Moves (point (m + 1) st r [] (named_from first (last_part (q ++ p ∷ [])) f))) (others_are q p) ∙ ap (λ r. Moves (point (m + 1) st q [] (named_from first r f))) (last_is q p)))
        (ap (λ n. point n st q [] (frame_from first (values_in p) f)) l.1)
        (span_left (values_in p) first f)
        (λ s hs. record { store = store_from first (values_in p) s; gives_it = refl; holds = span_held cells (values_in p) first f s hs }))

    pub declarations_run : (xs : List Declaration) (f : Variables) (pc pc' : ℕ) (st : List ℤ) (q : List Part) → DeclarationsHave d xs → Held (uses_of_declarations xs).reads → StandsAt code pc (declarations_code xs) pc'
        → Sets f (point pc st q [] f) (all_declared xs) pc' st q []
    declarations_run [] f pc pc' st q h k l = performs nothing (point pc st q [] f) here (ap (λ m. point m st q [] f) l) refl (λ s hs. record { store = s; gives_it = refl; holds = hs })
    declarations_run (x ∷ xs) f pc pc' st q h k at_place =
        let (m, a, l) = split code pc pc' (declaration_code x) _ at_place in
        sets_then (declared x) m st q [] (all_declared xs) (declaration_runs x f pc m st q h.0 (held_left (uses_of_declaration x).reads (uses_of_declarations xs).reads k) a)
        (λ g. declarations_run xs g m pc' st q h.1 (held_right (uses_of_declaration x).reads (uses_of_declarations xs).reads k) l)

    -- ---- replicators

    pub counting_runs : (r : Replicator) → ReplicatorHas d r → (f : Variables) (pc pc' : ℕ) (st : List ℤ) (q : List Part) → StandsAt code pc (counting_code r) pc' → Comes code f (point pc st q [] f) (indices_of r (at f)) (λ is. point pc' (counting is st) q [] f)
    counting_runs (replicator line index base count) h f pc pc' st q at_place =
        let (m, a, r) = split code pc pc' (expression_code base) _ at_place in
        let (n, b, l) = split code m pc' (expression_code count) _ r in
        comes_then code f (value_of base (at f)) (λ x. after (value_of count (at f)) (λ y. checked (int_le (pos 0) y && int_le (x +ℤ y) (pos 2147483648)) (indices x (nat_abs y)) Count line)) (expression_runs code f q [] d.types few.cells base Int h.1 pc m st a)
        (λ x e. comes_then code f (value_of count (at f)) (λ y. checked (int_le (pos 0) y && int_le (x +ℤ y) (pos 2147483648)) (indices x (nat_abs y)) Count line) (expression_runs code f q [] d.types few.cells count Int h.2 m n (x ∷ st) b)
        (λ y e'. let v = checked (int_le (pos 0) y && int_le (x +ℤ y) (pos 2147483648)) (indices x (nat_abs y)) Count line in
        comes_at code f _ v (n + 1) pc' (λ z is. point z (counting is st) q [] f) l.1 (comes_by code f n (y ∷ x ∷ st) q [] _ v (λ is. point (n + 1) (counting is st) q [] f) l.0 refl)))

-- ---- how far the values of a replicator go

checked_gives : (test : Bool) (x y : Indices) (line : ℕ) → checked test x Count line ≡ Value y → IsTrue test × (x ≡ y)
checked_gives true x y line h = let e : x ≡ y = cc in (refl, e)
checked_gives false x y line h = cc

second_true : (a b : Bool) → IsTrue (a && b) → IsTrue b
second_true true b h = h
second_true false b h = cc

checked_fits : (b n : ℤ) (line : ℕ) (base : ℤ) (count : ℕ) → checked (int_le (pos 0) n && int_le (b +ℤ n) (pos 2147483648)) (indices b (nat_abs n)) Count line ≡ Value (indices base count)
    → IsTrue (int_le (base +ℤ pos count) (pos 2147483648))
checked_fits b (pos k) line base count h =
    let (t, e) = checked_gives (int_le (pos 0) (pos k) && int_le (b +ℤ pos k) (pos 2147483648)) (indices b k) (indices base count) line h in
    let bases : b ≡ base = cc in
    let counts : k ≡ count = cc in
    let within : IsTrue (int_le (b +ℤ pos k) (pos 2147483648)) = second_true (int_le (pos 0) (pos k)) (int_le (b +ℤ pos k) (pos 2147483648)) t in
    subst (λ z. IsTrue (int_le (z +ℤ pos count) (pos 2147483648))) bases (subst (λ m. IsTrue (int_le (b +ℤ pos m) (pos 2147483648))) counts within)
checked_fits b (negsuc k) line base count h = cc

-- the last index lies within INT
pub counted_fits : (r : Replicator) (s : Store) (base : ℤ) (count : ℕ) → indices_of r s ≡ Value (indices base count) → IsTrue (int_le (base +ℤ pos count) (pos 2147483648))
counted_fits (replicator line index b n) s base count h = by (value_of b s) (value_of n s) h
  where
    by : (x y : Evaluated ℤ) → after x (λ b. after y (λ n. checked (int_le (pos 0) n && int_le (b +ℤ n) (pos 2147483648)) (indices b (nat_abs n)) Count line)) ≡ Value (indices base count)
        → IsTrue (int_le (base +ℤ pos count) (pos 2147483648))
    by (Value x) (Value y) h = checked_fits x y line base count h
    by (Value x) (Fails e) h = cc
    by (Fails e) y h = cc

-- so does the next one, where one is left, and the last one as well
pub next_fits : (v : ℤ) (n : ℕ) → IsTrue (int_le (v +ℤ pos (suc n)) (pos 2147483648)) → int_le (v +ℤ pos 1) (pos 2147483648) ≡ true
next_fits v n h = grind (arith, nat_tests)

pub still_fits : (v : ℤ) (n : ℕ) → IsTrue (int_le (v +ℤ pos (suc n)) (pos 2147483648)) → IsTrue (int_le ((v +ℤ pos 1) +ℤ pos n) (pos 2147483648))
still_fits v n h = grind (arith, nat_tests)
