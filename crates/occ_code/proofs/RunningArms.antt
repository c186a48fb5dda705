-- The code of an ALT's arms opens those that are enabled, and sets again for one that is taken what stands round it.
use Rattle.std.specs.Prelude.{◌&&◌, int_le, map, nat_le, slice_get, if◌then◌else◌, ◌+ℤ◌, ◌-◌}
use Rattle.std.proofs.Common.{add-one, append-nil, append_assoc, arith, ◌≡◌, ◌∙◌, ℕ, zero, suc, ℤ, pos, ◌+◌, Bool, IsTrue, true, false, ◌<◌, ◌≤◌, List, [], ◌∷◌, ◌++◌, length, Option, Some, None, refl, ap, subst, sym}
use Rattle.std.proofs.lemmas.Bool.Decides.{nat_tests}
use Rattle.occ_term.specs.declared.primitive.Primitive.TheVariants.{Bool as Boolean}
use Rattle.occ_term.specs.declared.message.Part.{Part}
use Rattle.occ_term.specs.Terms.{Expression, Place, Declaration, Arms, no_arms, skip_arm, input_arm, declared_arms, each_arm, tested}
use Rattle.occ_term.specs.Values.{Store, Value, store_with, holds, first_of, value_of, span_of}
use Rattle.occ_term.specs.Storing.{Outcome, Gives, then_in, in_store, nothing, declared, Indices, indices, indices_of, index_of}
use Rattle.occ_term.specs.Selecting.{Setting, IndexTo, DeclaredAgain, set_again, Enabled, SkipArm, InputArm, and_arm, and_arms, each_over, arms_over, enabled}
use Rattle.occ_term.specs.Uses.{Numbers, with_use, reads_of, reads_in_place, input_place, uses_of, uses_of_arms, uses_of_reception, uses_of_declaration, uses_of_replicator}
use Rattle.occ_term.specs.StepUses.{uses_of_setting, uses_of_settings}
use Rattle.occ_term.specs.Typing.{HasType}
use Rattle.occ_term.specs.TermTyping.{Declared, ChannelHas, ArmsHave}
use Rattle.occ_term.specs.TypedSteps.{SettingsHave}
use Rattle.occ_term.specs.Frames.{Variables, at}
use Rattle.occ_machine.specs.SameStop.{indices_in}
use Rattle.occ_machine.specs.Machine.{by_cell, open_arm, open_skip, open_input, indices_on, is_number, Point, point, Walks, here, frame_with, counting}
use Rattle.occ_machine.specs.declared.instr.Instr.{Instr}
use Rattle.occ_machine.specs.declared.instr.Instr.TheVariants.{Push, DropOne, NextChoice, BackToChoice, PassArms, IfTaken, SetAgain, IfTrue, OpenSkip, OpenInput}
use Rattle.occ_code.specs.Expressions.{expression_code, place_code, opening_code}
use Rattle.occ_code.specs.Laws.{StandsAt}
use Rattle.occ_code.specs.Layout.{ArmsAt, PassesArms}
use Rattle.occ_code.specs.Within.{AreNumbered}
use Rattle.occ_code.proofs.Walks.{split, place_after, walks_on}
use Rattle.occ_code.proofs.RunningExpressions.{channel_fits, expression_runs, place_runs, steps_to}
use Rattle.occ_code.proofs.ReadCells.{value_same, channel_same, channel_declared, indices_same}
use Rattle.occ_code.proofs.AgreeingFrames.{one_held, frame_of, Performs, performs, refuses, performs_on, performs_by}
use Rattle.occ_code.proofs.RunningStatements.{Held, held_left, held_right, agrees_on, Sets, sets_then, declaration_runs, counted_fits, counting_runs, next_fits, still_fits}
use Rattle.occ_code.proofs.WithinTurns.{ways_walk}
use Rattle.occ_code.proofs.PassingArms.{Sorts, arrives, goes_past, goes_in, SetsAgain, sets_on, sets_index, sets_declared, ArmLaid, ArmsLaid, both_true, number_below}

-- ---- indices

indices_then_index : (again : List Setting) (c : ℕ) (v : ℤ) → indices_in (again ++ IndexTo c v ∷ []) ≡ indices_in again ++ v ∷ []
indices_then_index [] c v = refl
indices_then_index (IndexTo i w ∷ again) c v = ap (λ l. w ∷ l) (indices_then_index again c v)
indices_then_index (DeclaredAgain e ∷ again) c v = indices_then_index again c v

indices_then_declared : (again : List Setting) (e : Declaration) → indices_in (again ++ DeclaredAgain e ∷ []) ≡ indices_in again
indices_then_declared [] e = refl
indices_then_declared (IndexTo i w ∷ again) e = ap (λ l. w ∷ l) (indices_then_declared again e)
indices_then_declared (DeclaredAgain x ∷ again) e = indices_then_declared again e

at_most : (n m : ℕ) → n ≤ m → nat_le n m ≡ true
at_most n m h = grind (arith, nat_tests)

more_than : (n m : ℕ) → m < n → nat_le n m ≡ false
more_than n m h = grind (arith, nat_tests)

below_high : (last high : ℕ) → last < high → high < 4294967296 → last < 4294967296
below_high last high h fits = omega (arith, h, fits)

next_below : (last high : ℕ) → last < high → high < 4294967296 → last + 1 < 4294967296
next_below last high h fits = omega (arith, h, fits)

numbered : (n : ℕ) (b : Bool) → n < 4294967296 → IsTrue b → IsTrue (is_number n && b)
numbered n b h k = both_true (is_number n) b (number_below n h) k

module _ (code : List (Instr ℕ)) where
  sorts_walk : (n a b : ℕ) (st : List ℤ) (q : List Part) (f : Variables) → Sorts code n a b → Walks by_cell code (point a (pos (suc n) ∷ st) q [] f) (point b (pos (suc n) ∷ st) q [] f)
  sorts_walk n a b st q f arrives = here
  sorts_walk n a b st q f (goes_past {last = last} {skip = skip} h l x) =
      let past = at_most (suc n) last l in
      walks_on (steps_to code f a (pos (suc n) ∷ st) q [] (PassArms last skip) (point (a + 1 + skip) (pos (suc n) ∷ st) q [] f) h (rw past refl)) (sorts_walk n (a + 1 + skip) b st q f x)
  sorts_walk n a b st q f (goes_in {last = last} {skip = skip} h l x) =
      let within = more_than (suc n) last l in
      walks_on (steps_to code f a (pos (suc n) ∷ st) q [] (PassArms last skip) (point (a + 1) (pos (suc n) ∷ st) q [] f) h (rw within refl)) (sorts_walk n (a + 1) b st q f x)

module _ (code : List (Instr ℕ)) (loops : ℕ) (cells : List ℕ) (d : Declared) where
  abbrev Has : Numbers → Type 0
  Has u = Held code cells d u

  -- an index is set first
  index_first : {Y : Type 0} {f : Variables} {a b : Point} (k : Store → Outcome Y) (c : ℕ) (v : ℤ) {To : Y → Point → Type 0}
      → Walks by_cell code a b → Performs code cells (frame_with f c v) b k To → Performs code cells f a (λ s. k (store_with s c v)) To
  index_first {f = f} k c v w (performs x z u t l h) =
      performs x z (walks_on w u) t l (λ s hs. let r = h (store_with s c v) (one_held cells f s c v hs) in record { store = r.store; gives_it = r.gives_it; holds = r.holds })
  index_first {f = f} k c v w (refuses e g z l h) =
      refuses e g (record { last = z.last; stands = z.stands; walks = walks_on w z.walks; stops = z.stops }) l
      (λ s hs. let r = h (store_with s c v) (one_held cells f s c v hs) in record { store = r.store; faults_by = r.faults_by; holds = r.holds })

  performs_as : {Y : Type 0} {f : Variables} {a : Point} (o o' : Store → Outcome Y) {To : Y → Point → Type 0} → ((s : Store) → o' s ≡ o s) → Performs code cells f a o To → Performs code cells f a o' To
  performs_as o o' e (performs x b w t l h) = performs x b w t l (λ s hs. let r = h s hs in record { store = r.store; gives_it = e s ∙ r.gives_it; holds = r.holds })
  performs_as o o' e (refuses x g z l h) = refuses x g z l (λ s hs. let r = h s hs in record { store = r.store; faults_by = e s ∙ r.faults_by; holds = r.holds })

  -- ---- what is set again for an arm that was taken

  pub again_runs : (few : AreNumbered d) (again : List Setting) (f : Variables) (a b n : ℕ) (st : List ℤ) (q : List Part) → SettingsHave d again → Has (uses_of_settings again).reads → SetsAgain code n a again b
      → Sets code cells d f (point a (pos (suc n) ∷ (indices_in again ++ st)) q [] f) (set_again again) b (pos (suc n) ∷ st) q []
  again_runs few [] f a b n st q h k x = performs nothing (point b (pos (suc n) ∷ st) q [] f) (sorts_walk code n a b st q f x) refl refl (λ s hs. record { store = s; gives_it = refl; holds = hs })
  again_runs few (IndexTo c v ∷ again) f a b n st q h k x =
      index_first (set_again again) c v
      (walks_on (sorts_walk code n a x.0 (v ∷ (indices_in again ++ st)) q f x.2)
      (steps_to code f x.0 (pos (suc n) ∷ v ∷ (indices_in again ++ st)) q [] (SetAgain c x.1) (point (x.0 + 1 + x.1) (pos (suc n) ∷ (indices_in again ++ st)) q [] (frame_with f c v)) x.3 refl))
      (again_runs few again (frame_with f c v) (x.0 + 1 + x.1) b n st q h.1 (held_right code cells d (uses_of_setting (IndexTo c v)).reads (uses_of_settings again).reads k) x.4)
  again_runs few (DeclaredAgain e ∷ again) f a b n st q h k x =
      performs_on code cells (sorts_walk code n a x.0 (indices_in again ++ st) q f x.2)
      (sets_then code cells d (declared e) x.1 (pos (suc n) ∷ (indices_in again ++ st)) q [] (set_again again)
      (declaration_runs code cells d few e f x.0 x.1 (pos (suc n) ∷ (indices_in again ++ st)) q h.0 (held_left code cells d (uses_of_declaration e).reads (uses_of_settings again).reads k) x.3)
      (λ g. again_runs few again g x.1 b n st q h.1 (held_right code cells d (uses_of_declaration e).reads (uses_of_settings again).reads k) x.4))

  -- ---- the arms that are opened

  module _ (slot root pc' : ℕ) where
    -- they wait in the queue
    pub record Opened (st : List ℤ) (q : List Part) (next : ℕ) (es : List Enabled) (b : Point) : Type 0 where
      pub opened : List Part
      pub lands : b ≡ point next (pos 0 ∷ st) (q ++ opened) [] (frame_of b)
      pub laid : ArmsLaid code loops slot root (map open_arm opened) es pc'

    abbrev pub Opens : Variables → Point → (Store → Outcome (List Enabled)) → List ℤ → List Part → ℕ → Type 0
    Opens f a o st q next = Performs code cells f a o (λ es b. Opened st q next es b)

    both_opened : (xs ys : List Part) (es es' : List Enabled) → ArmsLaid code loops slot root (map open_arm xs) es pc' → ArmsLaid code loops slot root (map open_arm ys) es' pc' → ArmsLaid code loops slot root (map open_arm (xs ++ ys)) (es ++ es') pc'
    both_opened [] ys [] es' h k = k
    both_opened [] ys (e ∷ es) es' h k = absurd h
    both_opened (x ∷ xs) ys [] es' h k = absurd h
    both_opened (x ∷ xs) ys (e ∷ es) es' h k = (h.0, both_opened xs ys es es' h.1 k)

    opens_none : (f : Variables) (a : Point) (st : List ℤ) (q : List Part) (next : ℕ) → Walks by_cell code a (point next (pos 0 ∷ st) q [] f) → Opens f a (λ s. Gives [] s) st q next
    opens_none f a st q next w =
        performs [] (point next (pos 0 ∷ st) q [] f) w (record { opened = []; lands = ap (λ r. point next (pos 0 ∷ st) r [] f) (sym (append-nil q)); laid = tt }) refl
        (λ s hs. record { store = s; gives_it = refl; holds = hs })

    -- one arm before others
    opens_first : {f : Variables} {a : Point} (e : Enabled) (p : Part) (o : Store → Outcome (List Enabled)) (st : List ℤ) (q : List Part) (next : ℕ) → ArmLaid code loops slot root (open_arm p) e pc'
        → Opens f a o st (q ++ p ∷ []) next → Opens f a (λ s. and_arm e (o s)) st q next
    opens_first e p o st q next x (performs es c w t l h) =
        performs (e ∷ es) c w (record { opened = p ∷ t.opened; lands = t.lands ∙ ap (λ r. point next (pos 0 ∷ st) r [] (frame_of c)) (append_assoc q (p ∷ []) t.opened); laid = (x, t.laid) }) l
        (λ s hs. let r = h s hs in record { store = r.store; gives_it = ap (and_arm e) r.gives_it; holds = r.holds })
    opens_first e p o st q next x (refuses z g y l h) =
        refuses z g y l (λ s hs. let r = h s hs in record { store = r.store; faults_by = ap (and_arm e) r.faults_by; holds = r.holds })

    -- some arms, and then others
    opens_next : {f : Variables} {a : Point} (o k : Store → Outcome (List Enabled)) (st st' : List ℤ) (q : List Part) (mid next : ℕ) → Opens f a o st q mid
        → ((g : Variables) (r : List Part) → Opens g (point mid (pos 0 ∷ st) r [] g) k st' r next) → Opens f a (λ s. and_arms (o s) k) st' q next
    opens_next {f = f} {a = a} o k st st' q mid next (performs es b w t l h) n = more' (subst (λ z. Opens (frame_of b) z k st' (q ++ t.opened) next) (sym t.lands) (n (frame_of b) (q ++ t.opened)))
      where
        more' : Opens (frame_of b) b k st' (q ++ t.opened) next → Opens f a (λ s. and_arms (o s) k) st' q next
        more' (performs es' c v t' l' h') =
            performs (es ++ es') c (walks_on w v)
            (record { opened = t.opened ++ t'.opened; lands = t'.lands ∙ ap (λ r. point next (pos 0 ∷ st') r [] (frame_of c)) (append_assoc q t.opened t'.opened); laid = both_opened t.opened t'.opened es es' t.laid t'.laid })
            (l' ∙ l)
            (λ s hs. let r = h s hs in let r' = h' r.store r.holds in record { store = r'.store; gives_it = ap (λ z. and_arms z k) r.gives_it ∙ ap (λ z. then_in z (λ es'' s''. Gives (es ++ es'') s'')) r'.gives_it; holds = r'.holds })
        more' (refuses e' g z l' h') =
            refuses e' g (record { last = z.last; stands = z.stands; walks = walks_on w z.walks; stops = z.stops }) (l' ∙ l)
            (λ s hs. let r = h s hs in let r' = h' r.store r.holds in record { store = r'.store; faults_by = ap (λ z. and_arms z k) r.gives_it ∙ ap (λ z. then_in z (λ es'' s''. Gives (es ++ es'') s'')) r'.faults_by; holds = r'.holds })
    opens_next o k st st' q mid next (refuses e g x l h) n =
        refuses e g x l (λ s hs. let r = h s hs in record { store = r.store; faults_by = ap (λ z. and_arms z k) r.faults_by; holds = r.holds })

    module _ (few : AreNumbered d) where
      -- ---- what opens an arm

      module _ (f : Variables) (out next : ℕ) (st : List ℤ) (q : List Part) (yes_ no_ : Store → Outcome (List Enabled)) where
        tests : (e : Expression) (opens : List (Instr ℕ)) (pc : ℕ) → HasType d.types e Boolean → Has (reads_of e) → StandsAt code pc (opening_code (Some e) opens) out
            → ((m : ℕ) → StandsAt code m opens out → Opens f (point m (pos 0 ∷ st) q [] f) yes_ st q next) → Opens f (point out (pos 0 ∷ st) q [] f) no_ st q next
            → Opens f (point pc (pos 0 ∷ st) q [] f) (λ s. then_in (in_store (value_of e s) s) (λ v s'. if holds v then yes_ s' else no_ s')) st q next
        tests e opens pc he ke at_place y n =
            let (m, a, r) = split code pc out (expression_code e) (IfTrue (length opens) ∷ opens) at_place in
            performs_by code cells (value_of e) (value_of e (at f)) (λ v. point m (v ∷ pos 0 ∷ st) q [] f) (λ v s'. if holds v then yes_ s' else no_ s') (expression_runs code f q [] d.types few.cells e Boolean he pc m (pos 0 ∷ st) a)
            (λ s hs. value_same d.types s (at f) e Boolean he (agrees_on code cells d (reads_of e) f s ke hs))
            (λ v x. by_holds m v (holds v) refl r)
          where
            by_holds : (m : ℕ) (v : ℤ) (b : Bool) → holds v ≡ b → StandsAt code m (IfTrue (length opens) ∷ opens) out → Opens f (point m (v ∷ pos 0 ∷ st) q [] f) (λ s'. if holds v then yes_ s' else no_ s') st q next
            by_holds m v true h r =
                performs_as yes_ (λ s'. if holds v then yes_ s' else no_ s') (λ s. rw h refl)
                (performs_on code cells (steps_to code f m (v ∷ pos 0 ∷ st) q [] (IfTrue (length opens)) (point (m + 1) (pos 0 ∷ st) q [] f) r.0 (rw h refl)) (y (m + 1) r.1))
            by_holds m v false h r =
                performs_as no_ (λ s'. if holds v then yes_ s' else no_ s') (λ s. rw h refl)
                (performs_on code cells (subst (λ c. Walks by_cell code (point m (v ∷ pos 0 ∷ st) q [] f) (point c (pos 0 ∷ st) q [] f)) (place_after code (m + 1) out opens r.1)
                (steps_to code f m (v ∷ pos 0 ∷ st) q [] (IfTrue (length opens)) (point (m + 1 + length opens) (pos 0 ∷ st) q [] f) r.0 (rw h refl))) n)

      -- one without a test is open
      may_open : (f : Variables) (out next : ℕ) (st : List ℤ) (q : List Part) (yes_ no_ : Store → Outcome (List Enabled)) (e : Option Expression) (opens : List (Instr ℕ)) (pc : ℕ) → HasType d.types (tested e) Boolean → Has (reads_of (tested e))
          → StandsAt code pc (opening_code e opens) out → ((m : ℕ) → StandsAt code m opens out → Opens f (point m (pos 0 ∷ st) q [] f) yes_ st q next) → Opens f (point out (pos 0 ∷ st) q [] f) no_ st q next
          → Opens f (point pc (pos 0 ∷ st) q [] f) (λ s. then_in (in_store (value_of (tested e) s) s) (λ v s'. if holds v then yes_ s' else no_ s')) st q next
      may_open f out next st q yes_ no_ None opens pc he ke at_place y n = y pc at_place
      may_open f out next st q yes_ no_ (Some e) opens pc he ke at_place y n = tests f out next st q yes_ no_ e opens pc he ke at_place y n

      opens_skip : (f : Variables) (out next number m : ℕ) (st : List ℤ) (q : List Part) (e : Enabled) (others : Store → Outcome (List Enabled)) → ArmLaid code loops slot root (open_arm (open_skip (pos number) (indices_on (pos 0 ∷ st)))) e pc'
          → ((r : List Part) → Opens f (point out (pos 0 ∷ st) r [] f) others st r next) → StandsAt code m (OpenSkip (pos number) ∷ []) out → Opens f (point m (pos 0 ∷ st) q [] f) (λ s. and_arm e (others s)) st q next
      opens_skip f out next number m st q e others x n at_place =
          let p : Part = open_skip (pos number) (indices_on (pos 0 ∷ st)) in
          opens_first e p others st q next x
          (performs_on code cells (subst (λ c. Walks by_cell code (point m (pos 0 ∷ st) q [] f) (point c (pos 0 ∷ st) (q ++ open_skip (pos number) (indices_on (pos 0 ∷ st)) ∷ []) [] f)) at_place.1
          (steps_to code f m (pos 0 ∷ st) q [] (OpenSkip (pos number)) (point (m + 1) (pos 0 ∷ st) (q ++ open_skip (pos number) (indices_on (pos 0 ∷ st)) ∷ []) [] f) at_place.0 refl)) (n (q ++ open_skip (pos number) (indices_on (pos 0 ∷ st)) ∷ [])))

      opens_input : (f : Variables) (out next number m : ℕ) (st : List ℤ) (q : List Part) (c : Place) (protocol : _) (e : ℕ → Enabled) (others : Store → Outcome (List Enabled)) → ChannelHas d c protocol → Has (reads_in_place c)
          → ((n : ℕ) → IsTrue (is_number n) → ArmLaid code loops slot root (open_arm (open_input (pos number) (pos n) (indices_on (pos 0 ∷ st)))) (e n) pc') → ((r : List Part) → Opens f (point out (pos 0 ∷ st) r [] f) others st r next)
          → StandsAt code m (place_code c ++ OpenInput (pos number) ∷ []) out → Opens f (point m (pos 0 ∷ st) q [] f) (λ s. then_in (in_store (span_of c s) s) (λ x s'. and_arm (e (first_of x)) (others s'))) st q next
      opens_input f out next number m st q c protocol e others hc kc x n at_place =
          let (a, l, r) = split code m out (place_code c) (OpenInput (pos number) ∷ []) at_place in
          performs_by code cells (span_of c) (span_of c (at f)) (λ y. point a (pos (first_of y) ∷ pos 0 ∷ st) q [] f) (λ y s'. and_arm (e (first_of y)) (others s')) (place_runs code f q [] d.types few.cells c [] (channel_fits d few c protocol hc) m a (pos 0 ∷ st) l)
          (λ s hs. channel_same d s (at f) c protocol hc (agrees_on code cells d (reads_in_place c) f s kc hs))
          (λ y same. opens_first (e (first_of y)) (open_input (pos number) (pos (first_of y)) (indices_on (pos 0 ∷ st))) others st q next (x (first_of y) (few.channels (first_of y) protocol (channel_declared d (at f) c protocol y hc same)))
          (performs_on code cells (subst (λ z. Walks by_cell code (point a (pos (first_of y) ∷ pos 0 ∷ st) q [] f) (point z (pos 0 ∷ st) (q ++ open_input (pos number) (pos (first_of y)) (indices_on (pos 0 ∷ st)) ∷ []) [] f)) r.1
          (steps_to code f a (pos (first_of y) ∷ pos 0 ∷ st) q [] (OpenInput (pos number)) (point (a + 1) (pos 0 ∷ st) (q ++ open_input (pos number) (pos (first_of y)) (indices_on (pos 0 ∷ st)) ∷ []) [] f) r.0 refl))
          (n (q ++ open_input (pos number) (pos (first_of y)) (indices_on (pos 0 ∷ st)) ∷ []))))

      -- ---- arms for each value of an index

      over_opens : (within : List Setting → Store → Outcome (List Enabled)) (ds : List Setting) (index m skip back n out : ℕ) (st : List ℤ) → slice_get code m ≡ Some (NextChoice index skip) → m + 1 + skip ≡ out → slice_get code (m + 1) ≡ Some (Push (pos 0))
          → slice_get code n ≡ Some DropOne → slice_get code (n + 1) ≡ Some (BackToChoice back) → n + 1 - back ≡ m
          → ((g : Variables) (count : ℕ) (v : ℤ) (r : List Part) → Opens g (point (m + 1 + 1) (pos 0 ∷ pos count ∷ v ∷ pos 0 ∷ st) r [] g) (within (ds ++ IndexTo index v ∷ [])) (pos count ∷ v ∷ pos 0 ∷ st) r n)
          → (count : ℕ) (v : ℤ) → IsTrue (int_le (v +ℤ pos count) (pos 2147483648)) → (f : Variables) (q : List Part) → Opens f (point m (pos count ∷ v ∷ pos 0 ∷ st) q [] f) (λ s. each_over within index v count ds s) st q out
      over_opens within ds index m skip back n out st h past hp hd hb eb k zero v fits f q =
          opens_none f (point m (pos 0 ∷ v ∷ pos 0 ∷ st) q [] f) st q out
          (subst (λ z. Walks by_cell code (point m (pos 0 ∷ v ∷ pos 0 ∷ st) q [] f) (point z (pos 0 ∷ st) q [] f)) past
          (steps_to code f m (pos 0 ∷ v ∷ pos 0 ∷ st) q [] (NextChoice index skip) (point (m + 1 + skip) (pos 0 ∷ st) q [] f) h refl))
      over_opens within ds index m skip back n out st h past hp hd hb eb k (suc count) v fits f q =
          let later = over_opens within ds index m skip back n out st h past hp hd hb eb k count (v +ℤ pos 1) (still_fits v count fits) in
          let next = next_fits v count fits in
          let g = frame_with f index v in
          index_first (λ s. and_arms (within (ds ++ IndexTo index v ∷ []) s) (λ s'. each_over within index (v +ℤ pos 1) count ds s')) index v
          (walks_on (steps_to code f m (pos (suc count) ∷ v ∷ pos 0 ∷ st) q [] (NextChoice index skip) (point (m + 1) (pos count ∷ v ∷ pos 0 ∷ st) q [] (frame_with f index v)) h refl)
          (steps_to code (frame_with f index v) (m + 1) (pos count ∷ v ∷ pos 0 ∷ st) q [] (Push (pos 0)) (point (m + 1 + 1) (pos 0 ∷ pos count ∷ v ∷ pos 0 ∷ st) q [] (frame_with f index v)) hp refl))
          (opens_next (within (ds ++ IndexTo index v ∷ [])) (λ s'. each_over within index (v +ℤ pos 1) count ds s') (pos count ∷ v ∷ pos 0 ∷ st) st q n out (k (frame_with f index v) count v q)
          (λ g r. performs_on code cells
          (walks_on (steps_to code g n (pos 0 ∷ pos count ∷ v ∷ pos 0 ∷ st) r [] DropOne (point (n + 1) (pos count ∷ v ∷ pos 0 ∷ st) r [] g) hd refl)
          (subst (λ x. Walks by_cell code (point (n + 1) (pos count ∷ v ∷ pos 0 ∷ st) r [] g) (point x (pos count ∷ (v +ℤ pos 1) ∷ pos 0 ∷ st) r [] g)) eb
          (steps_to code g (n + 1) (pos count ∷ v ∷ pos 0 ∷ st) r [] (BackToChoice back) (point (n + 1 - back) (pos count ∷ (v +ℤ pos 1) ∷ pos 0 ∷ st) r [] g) hb (rw next refl))))
          (later g r)))

      counted_opens : (is : Indices) (within : List Setting → Store → Outcome (List Enabled)) (ds : List Setting) (index m out : ℕ) (st : List ℤ) (q : List Part) (f : Variables)
          → ((count : ℕ) (v : ℤ) → IsTrue (int_le (v +ℤ pos count) (pos 2147483648)) → (f : Variables) (q : List Part) → Opens f (point m (pos count ∷ v ∷ pos 0 ∷ st) q [] f) (λ s. each_over within index v count ds s) st q out)
          → ((base : ℤ) (count : ℕ) → is ≡ indices base count → IsTrue (int_le (base +ℤ pos count) (pos 2147483648)))
          → Opens f (point m (counting is (pos 0 ∷ st)) q [] f) (arms_over within index is ds) st q out
      counted_opens (indices base count) within ds index m out st q f k fits = k count base (fits base count refl) f q

      -- ---- all arms

      -- the numbers of the arms at a place lead there, over what stands round them
      abbrev Reaches : ℕ → ℕ → ℕ → List Setting → Type 0
      Reaches low high pc ds = (n : ℕ) → low < suc n → suc n ≤ high → SetsAgain code n root ds pc

      passes_zero : (f : Variables) (pc low last high out : ℕ) (st : List ℤ) (q : List Part) → PassesArms code pc low last high out → Walks by_cell code (point pc (pos 0 ∷ st) q [] f) (point (pc + 1) (pos 0 ∷ st) q [] f)
      passes_zero f pc low last high out st q x = steps_to code f pc (pos 0 ∷ st) q [] (PassArms last x.0) (point (pc + 1) (pos 0 ∷ st) q [] f) x.1 refl

      reaches_others : (pc low last high out : ℕ) (ds : List Setting) → PassesArms code pc low last high out → Reaches low high pc ds → Reaches low last out ds
      reaches_others pc low last high out ds x r n l m =
          let below = x.4 in
          sets_on code n root pc out ds (r n l (omega (arith, m, below))) (goes_past x.1 m (subst (λ z. Sorts code n (pc + 1 + x.0) z) x.2 arrives))

      reaches_in : (pc low last high out : ℕ) (ds : List Setting) → PassesArms code pc low last high out → Reaches low high pc ds → Reaches last high (pc + 1) ds
      reaches_in pc low last high out ds x r n l m =
          let above = x.3 in
          sets_on code n root pc (pc + 1) ds (r n (omega (arith, l, above)) m) (goes_in x.1 l arrives)

      evaluates : (f : Variables) (pc low last high out skip : ℕ) (st : List ℤ) (q : List Part) → PassesArms code pc low last high out → slice_get code (pc + 1) ≡ Some (IfTaken skip)
          → Walks by_cell code (point pc (pos 0 ∷ st) q [] f) (point (pc + 1 + 1 + skip) (pos 0 ∷ st) q [] f)
      evaluates f pc low last high out skip st q x h =
          walks_on (passes_zero f pc low last high out st q x) (steps_to code f (pc + 1) (pos 0 ∷ st) q [] (IfTaken skip) (point (pc + 1 + 1 + skip) (pos 0 ∷ st) q [] f) h refl)

      pub arms_run : (arms : Arms) (ds : List Setting) (f : Variables) (pc low high next : ℕ) (st : List ℤ) (q : List Part) → high < 4294967296 → ArmsHave d arms → Has (uses_of_arms arms).reads → ArmsAt code loops slot pc low high arms next pc'
          → indices_on (pos 0 ∷ st) ≡ indices_in ds → Reaches low high pc ds → Opens f (point pc (pos 0 ∷ st) q [] f) (enabled arms ds) st q next
      arms_run no_arms ds f pc low high next st q fits h k l is reach = opens_none f (point pc (pos 0 ∷ st) q [] f) st q next (ways_walk code (pos 0 ∷ st) q [] f l)
      arms_run (skip_arm e t others) ds f pc low high next st q fits h k l is reach =
          let ke = held_left code cells d (reads_of e) (with_use (uses_of t) (uses_of_arms others)).reads k in
          let r = held_right code cells d (reads_of e) (with_use (uses_of t) (uses_of_arms others)).reads k in
          let fewer : l.0 < 4294967296 = below_high l.0 high l.3.4 fits in
          let later = (λ (q' : List Part). arms_run others ds f l.1 low l.0 next st q' fewer h.2 (held_right code cells d (uses_of t).reads (uses_of_arms others).reads r) l.7 is (reaches_others pc low l.0 high l.1 ds l.3 reach)) in
          let above = l.3.4 in
          let there = reaches_in pc low l.0 high l.1 ds l.3 reach l.0 (omega arith) (omega (arith, above)) in
          performs_on code cells (evaluates f pc low l.0 high l.1 l.2 st q l.3 l.4)
          (may_open f l.1 next st q (λ s. and_arm (SkipArm ds t) (enabled others ds s)) (enabled others ds) (Some e) (OpenSkip (pos (l.0 + 1)) ∷ []) (pc + 1 + 1 + l.2) h.0 ke l.6
          (λ m at_place. opens_skip f l.1 next (l.0 + 1) m st q (SkipArm ds t) (enabled others ds) (l.0, pc + 1, l.2, add-one l.0, refl, is, there, l.4, l.5, numbered (l.0 + 1) true (next_below l.0 high l.3.4 fits) refl) later at_place)
          (later q))
      arms_run (input_arm e c list others) ds f pc low high next st q fits h k l is reach =
          let ke = held_left code cells d (reads_of (tested e)) (with_use (input_place c) (with_use (uses_of_reception list) (uses_of_arms others))).reads k in
          let r = held_right code cells d (reads_of (tested e)) (with_use (input_place c) (with_use (uses_of_reception list) (uses_of_arms others))).reads k in
          let kc = held_left code cells d (reads_in_place c) (with_use (uses_of_reception list) (uses_of_arms others)).reads r in
          let r' = held_right code cells d (reads_in_place c) (with_use (uses_of_reception list) (uses_of_arms others)).reads r in
          let fewer : l.0 < 4294967296 = below_high l.0 high l.3.4 fits in
          let later = (λ (q' : List Part). arms_run others ds f l.1 low l.0 next st q' fewer h.2 (held_right code cells d (uses_of_reception list).reads (uses_of_arms others).reads r') l.7 is (reaches_others pc low l.0 high l.1 ds l.3 reach)) in
          let above = l.3.4 in
          let there = reaches_in pc low l.0 high l.1 ds l.3 reach l.0 (omega arith) (omega (arith, above)) in
          performs_on code cells (evaluates f pc low l.0 high l.1 l.2 st q l.3 l.4)
          (may_open f l.1 next st q (λ s. then_in (in_store (span_of c s) s) (λ x s'. and_arm (InputArm ds (first_of x) list) (enabled others ds s'))) (enabled others ds) e (place_code c ++ OpenInput (pos (l.0 + 1)) ∷ []) (pc + 1 + 1 + l.2) h.0 ke l.6
          (λ m at_place. opens_input f l.1 next (l.0 + 1) m st q c h.1.0 (λ n. InputArm ds n list) (enabled others ds) h.1.1 kc (λ n few_n. (l.0, pc + 1, l.2, add-one l.0, refl, is, there, l.4, l.5, numbered (l.0 + 1) (is_number n) (next_below l.0 high l.3.4 fits) few_n)) later at_place)
          (later q))
      arms_run (declared_arms x within others) ds f pc low high next st q fits h k l is reach =
          let kx = held_left code cells d (uses_of_declaration x).reads (with_use (uses_of_arms within) (uses_of_arms others)).reads k in
          let r = held_right code cells d (uses_of_declaration x).reads (with_use (uses_of_arms within) (uses_of_arms others)).reads k in
          let fewer : l.0 < 4294967296 = below_high l.0 high l.3.4 fits in
          let inner = reaches_in pc low l.0 high l.1 ds l.3 reach in
          opens_next (λ s. then_in (declared x s) (λ y s'. enabled within (ds ++ DeclaredAgain x ∷ []) s')) (enabled others ds) st st q l.1 next
          (performs_on code cells (passes_zero f pc low l.0 high l.1 st q l.3)
          (sets_then code cells d (declared x) l.2 (pos 0 ∷ st) q [] (enabled within (ds ++ DeclaredAgain x ∷ [])) (declaration_runs code cells d few x f (pc + 1) l.2 (pos 0 ∷ st) q h.0 kx l.4)
          (λ g. arms_run within (ds ++ DeclaredAgain x ∷ []) g l.2 l.0 high l.1 st q fits h.1 (held_left code cells d (uses_of_arms within).reads (uses_of_arms others).reads r) l.5 (is ∙ sym (indices_then_declared ds x))
          (λ n a b. sets_declared code n root (pc + 1) l.2 x ds (inner n a b) l.4))))
          (λ g q'. arms_run others ds g l.1 low l.0 next st q' fewer h.2 (held_right code cells d (uses_of_arms within).reads (uses_of_arms others).reads r) l.6 is (reaches_others pc low l.0 high l.1 ds l.3 reach))
      arms_run (each_arm over within others) ds f pc low high next st q fits h k l is reach =
          let kx = held_left code cells d (uses_of_replicator over).reads (with_use (uses_of_arms within) (uses_of_arms others)).reads k in
          let r = held_right code cells d (uses_of_replicator over).reads (with_use (uses_of_arms within) (uses_of_arms others)).reads k in
          let fewer : l.0 < 4294967296 = below_high l.0 high l.7.4 fits in
          let inner = reaches_in pc low l.0 high l.1 ds l.7 reach in
          let each_value = (λ (g : Variables) (count : ℕ) (v : ℤ) (q' : List Part). arms_run within (ds ++ IndexTo (index_of over) v ∷ []) g (l.2 + 1 + 1) l.0 high l.3 (pos count ∷ v ∷ pos 0 ∷ st) q' fits h.2 (held_left code cells d (uses_of_arms within).reads (uses_of_arms others).reads r) l.14
          (ap (λ xs. xs ++ v ∷ []) is ∙ sym (indices_then_index ds (index_of over) v))
          (λ n a b. subst (λ z. SetsAgain code n root (ds ++ IndexTo (index_of over) v ∷ []) z) l.9 (sets_index code n root (pc + 1) l.4 (index_of over) v ds (inner n a b) l.8))) in
          opens_next (λ s. then_in (in_store (indices_of over s) s) (λ x s'. arms_over (enabled within) (index_of over) x ds s')) (enabled others ds) st st q l.1 next
          (performs_on code cells
          (walks_on (passes_zero f pc low l.0 high l.1 st q l.7) (steps_to code f (pc + 1) (pos 0 ∷ st) q [] (SetAgain (index_of over) l.4) (point (pc + 1 + 1) (pos 0 ∷ st) q [] f) l.8 refl))
          (performs_by code cells (indices_of over) (indices_of over (at f)) (λ x. point l.2 (counting x (pos 0 ∷ st)) q [] f) (λ x s'. arms_over (enabled within) (index_of over) x ds s') (counting_runs code cells d few over h.0 f (pc + 1 + 1) l.2 (pos 0 ∷ st) q l.10)
          (λ s hs. indices_same d s (at f) over h.0 (agrees_on code cells d (uses_of_replicator over).reads f s kx hs))
          (λ x same. counted_opens x (enabled within) ds (index_of over) l.2 l.1 st q f (over_opens (enabled within) ds (index_of over) l.2 l.5 l.6 l.3 l.1 st l.11 l.12 l.13 l.15 l.16 l.17 each_value)
          (λ base count e. counted_fits over (at f) base count (same ∙ ap Value e)))))
          (λ g q'. arms_run others ds g l.1 low l.0 next st q' fewer h.3 (held_right code cells d (uses_of_arms within).reads (uses_of_arms others).reads r) l.18 is (reaches_others pc low l.0 high l.1 ds l.7 reach))
