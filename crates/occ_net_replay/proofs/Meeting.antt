-- A communication of the network is one of the system, and the other way round.
use Rattle.std.proofs.Common.{◌≡◌, ◌∙◌, refl, sym, ap, subst, Bool, true, false, IsTrue, IsFalse, ℕ, zero, suc, ◌+◌, ◌%◌, ◌⊎◌, inl, inr, List, [], ◌∷◌, Option, Some, None, length}
use Rattle.std.specs.Prelude.{slice_get, slice_set, if◌then◌else◌}
use Rattle.std.proofs.lemmas.Bool.{eq-eqb}
use mathlib.Core.Bool.{true≢false}
use Rattle.occ_term.specs.declared.message.Message.{Message}
use Rattle.occ_term.specs.Going.{IsGoing}
use Rattle.occ_term.specs.Processes.{Numbered}
use Rattle.occ_term.specs.Selecting.{Enabled, SkipArm, InputArm, waits_for, is_ready_on, ready_among, chosen, chosen_of}
use Rattle.occ_term.specs.StepUses.{IsPartOf, uses_of_left, uses_of_contexts, uses_of_settings, uses_of_enabled, uses_of_all, uses_of_doing}
use Rattle.occ_term.specs.Steps.{Doing, Do, Offering, Awaiting, Choosing, Taking, SkipTaken, MessageTaken, Forking, Passing, Again, Halted, Faulted, Done, Context, Left, left, status, status_of, is_ended}
use Rattle.occ_term.specs.System.{Process, process, Processes, no_processes, and_process, offers_at, offers_in, offers_among as offers_all, ChangeIn, GivesOn, offer_ends, GetsOn, input_gets, arm_gets as arm_gets_on, PassesBy, arm_skips}
use Rattle.occ_term.specs.TermTyping.{Declared}
use Rattle.occ_term.specs.Terms.{Skip}
use Rattle.occ_term.specs.TypedSteps.{LeftHas, EnabledHas, EnabledHave}
use Rattle.occ_term.specs.Uses.{Uses, Numbers, empty_set, no_use, with_use, inputting, only, uses_of, uses_of_reception}
use Rattle.occ_term.specs.Values.{Store}
use Rattle.occ_term.proofs.KeptStores.{left_part, right_part, both_parts, no_part, whole_part}
use Rattle.occ_machine.specs.SameStop.{SameArm, SameArms, FitsProtocol}
use Rattle.occ_machine.specs.Alike.{Alike}
use Rattle.occ_machine.specs.Compiled.{Program}
use Rattle.occ_machine.specs.Machine.{Body}
use Rattle.occ_machine.specs.declared.task.Arm.{Arm}
use Rattle.occ_machine.specs.declared.task.Task.{Task}
use Rattle.occ_machine.specs.declared.task.Wait.TheVariants as W
use Rattle.occ_net_replay.specs.Replay.{Tasks, HasTask, made_ready, has_taken, took_arm, offers_on, offers_among, arm_chosen}
use Rattle.occ_net_replay.specs.Moments.{At, here, below, Among, first, later, by_term, by_taking}
use Rattle.occ_net_replay.proofs.Placed.{size, LeftPlaced, EnabledPlaced, AllEnabledPlaced}
use Rattle.occ_net_replay.proofs.Holding.{takes_arm, put, Stands, may_turn, may_join, offers, awaits, chooses, waits, is_halted, has_failed, has_ended, Own}
use Rattle.occ_net_replay.proofs.Putting.{change_put, mine}
use Rattle.occ_net_replay.proofs.Quiet.{offers_is}
use Rattle.occ_net_replay.proofs.States.{gives_as, gets_as, ChoosesAs, chooses_as, State, Live, live_at, moved}
use Rattle.occ_net_replay.proofs.Tables.{offers_found, offers_there, or_else, or_first, or_second}

-- ---- the rule, by offers that are the same, and by arms that are the same

ready_same : {A : Type 0} (channel : A → Option ℕ) (f g : ℕ → Bool) → ((c : ℕ) → f c ≡ g c) → (arms : List A) → ready_among channel f arms ≡ ready_among channel g arms
ready_same channel f g e [] = refl
ready_same channel f g e (a ∷ arms) = ap (λ xs. if is_ready_on f (channel a) then a ∷ xs else xs) (ready_same channel f g e arms) ∙ ap (λ b. if b then a ∷ ready_among channel g arms else ready_among channel g arms) (on (channel a))
  where
    on : (x : Option ℕ) → is_ready_on f x ≡ is_ready_on g x
    on None = refl
    on (Some c) = e c

pub chosen_same : {A : Type 0} (channel : A → Option ℕ) (f g : ℕ → Bool) → ((c : ℕ) → f c ≡ g c) → (pri : Bool) (pick : ℕ) (arms : List A) → chosen_of channel pri pick f arms ≡ chosen_of channel pri pick g arms
chosen_same channel f g e pri pick arms = ap (λ xs. slice_get xs (if pri then 0 else pick % length xs)) (ready_same channel f g e arms)

module _ (d : Declared) (Go : Task → Left → Type 0) (t : Task) (k : List Context) (offers : ℕ → Bool) where
  channels_same : (a : Arm) (e : Enabled) → SameArm d Go t k a e → a.chan ≡ waits_for e
  channels_same a (SkipArm xs body) h = h.0
  channels_same a (InputArm xs c list) h = h.0

  abbrev ready_arms : List Arm → List Arm
  ready_arms arms = ready_among (λ a. a.chan) offers arms

  abbrev ready_enabled : List Enabled → List Enabled
  ready_enabled es = ready_among waits_for offers es

  both_ready : (arms : List Arm) (es : List Enabled) → SameArms d Go t k arms es → SameArms d Go t k (ready_arms arms) (ready_enabled es)
  both_ready [] [] h = tt
  both_ready [] (e ∷ es) h = absurd h
  both_ready (a ∷ arms) [] h = absurd h
  both_ready (a ∷ arms) (e ∷ es) h = by (is_ready_on offers a.chan) (is_ready_on offers (waits_for e)) (ap (is_ready_on offers) (channels_same a e h.0)) (both_ready arms es h.1)
    where
      by : (x y : Bool) → x ≡ y → SameArms d Go t k (ready_arms arms) (ready_enabled es) → SameArms d Go t k (if x then a ∷ ready_arms arms else ready_arms arms) (if y then e ∷ ready_enabled es else ready_enabled es)
      by true true q r = (h.0, r)
      by true false q r = absurd (true≢false q)
      by false true q r = absurd (true≢false (sym q))
      by false false q r = r

  as_many : (arms : List Arm) (es : List Enabled) → SameArms d Go t k arms es → length arms ≡ length es
  as_many [] [] h = refl
  as_many [] (e ∷ es) h = absurd h
  as_many (a ∷ arms) [] h = absurd h
  as_many (a ∷ arms) (e ∷ es) h = ap suc (as_many arms es h.1)

  pub record SameAt (a : Arm) (e : Option Enabled) : Type 0 where
    pub enabled : Enabled
    pub is : e ≡ Some enabled
    pub same : SameArm d Go t k a enabled

  same_at : (arms : List Arm) (es : List Enabled) (i : ℕ) (a : Arm) → SameArms d Go t k arms es → slice_get arms i ≡ Some a → SameAt a (slice_get es i)
  same_at [] es i a h q = absurd cc
  same_at (x ∷ arms) [] i a h q = absurd h
  same_at (x ∷ arms) (e ∷ es) zero a h q = let y : x ≡ a = cc in record { enabled = e; is = refl; same = subst (λ z. SameArm d Go t k z e) y h.0 }
  same_at (x ∷ arms) (e ∷ es) (suc i) a h q = same_at arms es i a h.1 q

  -- the arm that the process takes is one that the rule chooses
  pub chosen_both : (pri : Bool) (pick : ℕ) (arms : List Arm) (es : List Enabled) (a : Arm) → SameArms d Go t k arms es → arm_chosen pri pick offers arms ≡ Some a → SameAt a (chosen pri pick offers es)
  chosen_both pri pick arms es a h q =
      let same = both_ready arms es h in
      let at = same_at (ready_arms arms) (ready_enabled es) (if pri then 0 else pick % length (ready_arms arms)) a same q in
      record { enabled = at.enabled; is = ap (λ n. slice_get (ready_enabled es) (if pri then 0 else pick % n)) (sym (as_many (ready_arms arms) (ready_enabled es) same)) ∙ at.is; same = at.same }

  pub record ArmAt (x : Option Arm) (e : Enabled) : Type 0 where
    pub arm : Arm
    pub is : x ≡ Some arm
    pub same : SameArm d Go t k arm e

  arm_at : (arms : List Arm) (es : List Enabled) (i : ℕ) (e : Enabled) → SameArms d Go t k arms es → slice_get es i ≡ Some e → ArmAt (slice_get arms i) e
  arm_at arms [] i e h q = absurd cc
  arm_at [] (x ∷ es) i e h q = absurd h
  arm_at (a ∷ arms) (x ∷ es) zero e h q = let y : x ≡ e = cc in record { arm = a; is = refl; same = subst (λ z. SameArm d Go t k a z) y h.0 }
  arm_at (a ∷ arms) (x ∷ es) (suc i) e h q = arm_at arms es i e h.1 q

  -- the arm that the rule chooses for the process is one that it chooses for the task
  pub chosen_back : (pri : Bool) (pick : ℕ) (arms : List Arm) (es : List Enabled) (e : Enabled) → SameArms d Go t k arms es → chosen pri pick offers es ≡ Some e → ArmAt (arm_chosen pri pick offers arms) e
  chosen_back pri pick arms es e h q =
      let same = both_ready arms es h in
      let at = arm_at (ready_arms arms) (ready_enabled es) (if pri then 0 else pick % length (ready_enabled es)) e same q in
      record { arm = at.arm; is = ap (λ n. slice_get (ready_arms arms) (if pri then 0 else pick % n)) (as_many (ready_arms arms) (ready_enabled es) same) ∙ at.is; same = at.same }

  none_there : (arms : List Arm) (es : List Enabled) → SameArms d Go t k arms es → arms ≡ [] → es ≡ []
  none_there [] [] h e = refl
  none_there [] (x ∷ es) h e = absurd h
  none_there (a ∷ arms) es h e = absurd cc

  -- where no arm of the task is ready, none of the process is
  pub none_both : (arms : List Arm) (es : List Enabled) → SameArms d Go t k arms es → ready_arms arms ≡ [] → ready_enabled es ≡ []
  none_both arms es h e = none_there (ready_arms arms) (ready_enabled es) (both_ready arms es h) e

-- ---- parts of arms

pub enabled_part : (es : List Enabled) (e : Enabled) (i : ℕ) (u : Uses) → slice_get es i ≡ Some e → IsPartOf (uses_of_all es) u → IsPartOf (uses_of_enabled e) u
enabled_part [] e i u q h = absurd cc
enabled_part (x ∷ es) e zero u q h = let same : x ≡ e = cc in subst (λ z. IsPartOf (uses_of_enabled z) u) same (left_part (uses_of_enabled x) (uses_of_all es) u h)
enabled_part (x ∷ es) e (suc i) u q h = enabled_part es e i u q (right_part (uses_of_enabled x) (uses_of_all es) u h)

pub record ReadyIs (es : List Enabled) (e : Enabled) : Type 0 where
  pub place : ℕ
  pub is : slice_get es place ≡ Some e

pub ready_is_one : (stand : ℕ → Bool) (es : List Enabled) (i : ℕ) (e : Enabled) → slice_get (ready_among waits_for stand es) i ≡ Some e → ReadyIs es e
ready_is_one stand [] i e q = absurd cc
ready_is_one stand (x ∷ es) i e q = by (is_ready_on stand (waits_for x)) i q (λ j f. step (ready_is_one stand es j e f))
  where
    step : ReadyIs es e → ReadyIs (x ∷ es) e
    step r = record { place = suc r.place; is = r.is }

    by : (b : Bool) (i : ℕ) → slice_get (if b then x ∷ ready_among waits_for stand es else ready_among waits_for stand es) i ≡ Some e → ((j : ℕ) → slice_get (ready_among waits_for stand es) j ≡ Some e → ReadyIs (x ∷ es) e) → ReadyIs (x ∷ es) e
    by true zero q r = let same : x ≡ e = cc in record { place = 0; is = ap Some same }
    by true (suc i) q r = r i q
    by false i q r = r i q

enabled_typed : (d : Declared) (es : List Enabled) (e : Enabled) (i : ℕ) → slice_get es i ≡ Some e → EnabledHave d es → EnabledHas d e
enabled_typed d [] e i q h = absurd cc
enabled_typed d (x ∷ es) e zero q h = let same : x ≡ e = cc in subst (EnabledHas d) same h.0
enabled_typed d (x ∷ es) e (suc i) q h = enabled_typed d es e i q h.1

enabled_placed : (p : List Numbered) (lo hi : ℕ) (es : List Enabled) (e : Enabled) (i : ℕ) → slice_get es i ≡ Some e → AllEnabledPlaced p lo hi es → EnabledPlaced p lo hi e
enabled_placed p lo hi [] e i q h = absurd cc
enabled_placed p lo hi (x ∷ es) e zero q h = let same : x ≡ e = cc in subst (EnabledPlaced p lo hi) same h.0
enabled_placed p lo hi (x ∷ es) e (suc i) q h = enabled_placed p lo hi es e i q h.1

-- ---- offers of the system

mutual
  pub at_offers : {n : ℕ} {own : Left} {ps : Processes} {q : Process} → (c : ℕ) → At n own ps q → IsTrue (offers_at (status own) c) → IsTrue (offers_in q c)
  at_offers {own = own} {ps = ps} c here h = or_first (offers_at (status own) c) (offers_all ps c) h
  at_offers c (below {a = a} {qs = qs} x) h = or_second (offers_at (status a) c) (offers_all qs c) (among_offers c x h)

  among_offers : {n : ℕ} {own : Left} {ps qs : Processes} → (c : ℕ) → Among n own ps qs → IsTrue (offers_at (status own) c) → IsTrue (offers_all qs c)
  among_offers c (first {p = p} {qs = qs} x) h = or_first (offers_in p c) (offers_all qs c) (at_offers c x h)
  among_offers c (later {p = p} {qs = qs} x) h = or_second (offers_in p c) (offers_all qs c) (among_offers c x h)

pub record OffersIn (q : Process) (c : ℕ) : Type 0 where
  pub number : ℕ
  pub own : Left
  pub branches : Processes
  pub at : At number own branches q
  pub offers : IsTrue (offers_at (status own) c)

record OffersAll (qs : Processes) (c : ℕ) : Type 0 where
  pub number : ℕ
  pub own : Left
  pub branches : Processes
  pub at : Among number own branches qs
  pub offers : IsTrue (offers_at (status own) c)

either_way : (n : ℕ) (own : Left) (ps : Processes) (c : ℕ) → IsTrue (offers_at (status own) c) ⊎ IsTrue (offers_all ps c) → (IsTrue (offers_all ps c) → OffersAll ps c) → OffersIn (process n own ps) c
either_way n own ps c (inl x) g = record { number = n; own = own; branches = ps; at = here; offers = x }
either_way n own ps c (inr x) g = let y = g x in record { number = y.number; own = y.own; branches = y.branches; at = below y.at; offers = y.offers }

either_one : (q : Process) (qs : Processes) (c : ℕ) → IsTrue (offers_in q c) ⊎ IsTrue (offers_all qs c) → (IsTrue (offers_in q c) → OffersIn q c) → (IsTrue (offers_all qs c) → OffersAll qs c) → OffersAll (and_process q qs) c
either_one q qs c (inl x) f g = let y = f x in record { number = y.number; own = y.own; branches = y.branches; at = first y.at; offers = y.offers }
either_one q qs c (inr x) f g = let y = g x in record { number = y.number; own = y.own; branches = y.branches; at = later y.at; offers = y.offers }

mutual
  pub offers_from : (q : Process) (c : ℕ) → IsTrue (offers_in q c) → OffersIn q c
  offers_from (process n own ps) c h = either_way n own ps c (or_else (offers_at (status own) c) (offers_all ps c) h) (λ k. offers_from_all ps c k)

  offers_from_all : (qs : Processes) (c : ℕ) → IsTrue (offers_all qs c) → OffersAll qs c
  offers_from_all no_processes c h = absurd (true≢false (sym h))
  offers_from_all (and_process q qs) c h = either_one q qs c (or_else (offers_in q c) (offers_all qs c) h) (λ k. offers_from q c k) (λ k. offers_from_all qs c k)

bool_same : (a b : Bool) → (IsTrue a → IsTrue b) → (IsTrue b → IsTrue a) → a ≡ b
bool_same true b f g = sym (f refl)
bool_same false true f g = g refl
bool_same false false f g = refl

module _ (d : Declared) (p : Program) (procs : List Numbered) where
  -- a process that stands at an offer has a task that does
  stands_offers : (k : ℕ) (body : Body) (t : Task) (own : Left) (ps : Processes) (but : Numbers) (c : ℕ) → Stands d p procs k body t own ps but → IsTrue (offers_at (status own) c) → IsTrue (offers_on t.wait c)
  stands_offers k body t own ps but c (may_turn {x = x} g h y a) o = absurd (no_offer x h c o)
    where
      no_offer : (x : Doing) → IsGoing x → (c : ℕ) → IsTrue (offers_at (status_of x) c) → ⊥
      no_offer (Do t) h c o = true≢false (sym o)
      no_offer (Passing l) h c o = true≢false (sym o)
      no_offer (Again l) h c o = true≢false (sym o)
      no_offer (Offering i m) h c o = true≢false (sym h)
      no_offer (Awaiting i list) h c o = true≢false (sym o)
      no_offer (Choosing pri arms) h c o = true≢false (sym o)
      no_offer (Taking xs what) h c o = true≢false (sym o)
      no_offer (Forking bs) h c o = true≢false (sym o)
      no_offer Halted h c o = true≢false (sym o)
      no_offer (Faulted e) h c o = true≢false (sym o)
      no_offer Done h c o = true≢false (sym o)
  stands_offers k body t own ps but c (may_join g n z a) o = absurd (true≢false (sym o))
  stands_offers k body t own ps but c (offers {c = i} {m = m} w a) o = subst (λ x. IsTrue (offers_on x c)) (sym w) o
  stands_offers k body t own ps but c (awaits w a) o = absurd (true≢false (sym o))
  stands_offers k body t own ps but c (chooses w a) o = absurd (true≢false (sym o))
  stands_offers k body t own ps but c (waits w n z a) o = absurd (true≢false (sym o))
  stands_offers k body t own ps but c (is_halted w) o = absurd (true≢false (sym o))
  stands_offers k body t own ps but c (has_failed w) o = absurd (true≢false (sym o))
  stands_offers k body t own ps but c (has_ended w) o = absurd (true≢false (sym o))

  module _ (k : ℕ) (tasks : Tasks) (proc : Process) (s : Store) (st : State d p procs k tasks proc s) where
    -- the offers that stand are the same
    pub offers_same : (c : ℕ) → offers_among tasks c ≡ offers_in proc c
    offers_same c = bool_same (offers_among tasks c) (offers_in proc c) to from
      where
        to : IsTrue (offers_among tasks c) → IsTrue (offers_in proc c)
        to h =
            let o = offers_found tasks c h in
            let w = offers_is o.task.wait c o.offers in
            let l = live_at d p procs k tasks proc s o.number o.task st o.there (λ e. let q = sym w.1 ∙ e in cc) in
            let g = gives_as d p procs k l.mine.belongs.body o.task l.own l.branches l.mine.but c w.0 (subst (λ t. Stands d p procs k l.mine.belongs.body t l.own l.branches l.mine.but) l.same l.mine.stands) w.1 in
            at_offers c l.at (subst (λ x. IsTrue (offers_at (status x) c)) (sym g.own_is) (eq-eqb c c refl))

        from : IsTrue (offers_in proc c) → IsTrue (offers_among tasks c)
        from h =
            let o = offers_from proc c h in
            let y = mine d p procs k s tasks o.at st.holds in
            offers_there tasks c o.number y.0.task y.0.has_task (stands_offers k y.0.belongs.body y.0.task o.own o.branches y.0.but c y.0.stands o.offers)

    -- ---- a process goes on

    pub record Moved (R : Left → Left → Type 0) (i : ℕ) (new : Task) : Type 0 where
      pub proc' : Process
      pub changes : ChangeIn R i proc proc'
      pub state : State d p procs k (slice_set tasks i (Some new)) proc' s

    -- a process that stands alone at a stop
    module _ (i : ℕ) (t new : Task) (there : HasTask tasks i t) (frame : new.frame ≡ t.frame) (turns : new.turns ≡ t.turns) (R : Left → Left → Type 0) where
      record Going (own : Left) (ps : Processes) (but : Numbers) (o : Own d p procs k s tasks i own ps) : Type 0 where
        pub next : Left
        pub none : ps ≡ no_processes
        pub all : o.but ≡ empty_set
        pub rel : R own next
        pub stands : Stands d p procs k o.belongs.body new next no_processes empty_set
        pub typed : LeftHas d next
        pub uses : IsPartOf (uses_of_left next) (uses_of_left own)
        pub placed : LeftPlaced procs (i + 1) (i + 1 + size o.belongs.term) next
        pub live : IsFalse (is_ended (status own))

      goes_on : (own : Left) (ps : Processes) (x : At i own ps proc) (o : Own d p procs k s tasks i own ps) → o.task ≡ t → Going own ps o.but o → Moved R i new
      goes_on own no_processes x o same g =
          record {
            proc' = put x g.next no_processes;
            changes = change_put R g.next x g.rel;
            state = moved d p procs k tasks proc s st i t new own g.next x o same there g.all frame turns g.stands g.typed g.uses g.placed g.live;
          }
      goes_on own (and_process q qs) x o same g = let e = g.none in absurd cc

      part_left : (x y : Doing) (j : List Context) → IsPartOf (uses_of_doing x) (uses_of_left (left y j)) → IsPartOf (uses_of_left (left x j)) (uses_of_left (left y j))
      part_left x y j h = both_parts (uses_of_doing x) (uses_of_contexts j) (uses_of_left (left y j)) h (right_part (uses_of_doing y) (uses_of_contexts j) (uses_of_left (left y j)) (whole_part (uses_of_left (left y j))))

      -- what is being done goes on as something else
      going_by : (own : Left) (ps : Processes) (o : Own d p procs k s tasks i own ps) (x y : Doing) (j : List Context) → own ≡ left x j → ps ≡ no_processes → o.but ≡ empty_set → R (left x j) (left y j) → Stands d p procs k o.belongs.body new (left y j) no_processes empty_set → (LeftHas d (left x j) → LeftHas d (left y j)) → IsPartOf (uses_of_doing y) (uses_of_left (left x j)) → (LeftPlaced procs (i + 1) (i + 1 + size o.belongs.term) (left x j) → LeftPlaced procs (i + 1) (i + 1 + size o.belongs.term) (left y j)) → IsFalse (is_ended (status (left x j))) → Going own ps o.but o
      going_by own ps o x y j e none all rel stands typed uses placed live =
          record {
            next = left y j;
            none = none;
            all = all;
            rel = subst (λ z. R z (left y j)) (sym e) rel;
            stands = stands;
            typed = typed (subst (LeftHas d) e o.typed);
            uses = subst (λ z. IsPartOf (uses_of_left (left y j)) (uses_of_left z)) (sym e) (part_left y x j uses);
            placed = placed (subst (LeftPlaced procs (i + 1) (i + 1 + size o.belongs.term)) e o.placed);
            live = subst (λ z. IsFalse (is_ended (status z))) (sym e) live;
          }

    -- ---- an offer is taken

    pub gives_on : (i c : ℕ) (t : Task) (m : Message) → HasTask tasks i t → t.wait ≡ W.Offers c m → Moved (GivesOn c m) i (made_ready t)
    gives_on i c t m h w =
        let l = live_at d p procs k tasks proc s i t st h (λ e. let q = sym w ∙ e in cc) in
        let g = gives_as d p procs k l.mine.belongs.body t l.own l.branches l.mine.but c m (subst (λ u. Stands d p procs k l.mine.belongs.body u l.own l.branches l.mine.but) l.same l.mine.stands) w in
        goes_on i t (made_ready t) h refl refl (GivesOn c m) l.own l.branches l.at l.mine l.same
        (going_by i t (made_ready t) h refl refl (GivesOn c m) l.own l.branches l.mine (Offering c m) (Do Skip) g.rest g.own_is g.none g.all offer_ends (may_turn refl refl by_term g.alike) (λ x. (tt, x.1)) (no_part (uses_of_left (left (Offering c m) g.rest))) (λ x. (tt, x.1)) refl)

    -- the message offered is one of the channel's protocol
    pub offered_fits : (i c : ℕ) (t : Task) (m : Message) → HasTask tasks i t → t.wait ≡ W.Offers c m → FitsProtocol (d.protocols c) m
    offered_fits i c t m h w =
        let l = live_at d p procs k tasks proc s i t st h (λ e. let q = sym w ∙ e in cc) in
        let g = gives_as d p procs k l.mine.belongs.body t l.own l.branches l.mine.but c m (subst (λ u. Stands d p procs k l.mine.belongs.body u l.own l.branches l.mine.but) l.same l.mine.stands) w in
        let x : LeftHas d (left (Offering c m) g.rest) = subst (LeftHas d) g.own_is l.mine.typed in
        subst (λ o. FitsProtocol o m) (sym x.0.1) x.0.2

    -- ---- a message is taken

    pub gets_on : (i c : ℕ) (t : Task) (m : Message) (standing : ℕ → Bool) → HasTask tasks i t → t.wait ≡ W.Awaits c → FitsProtocol (d.protocols c) m → Moved (GetsOn standing c m) i (has_taken t m)
    gets_on i c t m standing h w fits =
        let l = live_at d p procs k tasks proc s i t st h (λ e. let q = sym w ∙ e in cc) in
        let g = gets_as d p procs k l.mine.belongs.body t l.own l.branches l.mine.but c (subst (λ u. Stands d p procs k l.mine.belongs.body u l.own l.branches l.mine.but) l.same l.mine.stands) w in
        let whole = uses_of_left (left (Awaiting c g.list) g.rest) in
        let listed : IsPartOf (uses_of_reception g.list) whole = right_part (inputting (only c)) (uses_of_reception g.list) whole (left_part (uses_of_doing (Awaiting c g.list)) (uses_of_contexts g.rest) whole (whole_part whole)) in
        goes_on i t (has_taken t m) h refl refl (GetsOn standing c m) l.own l.branches l.at l.mine l.same
        (going_by i t (has_taken t m) h refl refl (GetsOn standing c m) l.own l.branches l.mine (Awaiting c g.list) (Taking [] (MessageTaken g.list m)) g.rest g.own_is g.none g.all input_gets (may_turn refl refl by_taking (g.alike m fits))
        (λ x. ((tt, (x.0.0, x.0.2, subst (λ o. FitsProtocol o m) x.0.1 fits)), x.1))
        (both_parts no_use (uses_of_reception g.list) whole (no_part whole) listed) (λ x. x) refl)

    -- ---- an arm is chosen

    pub record Picked (standing : ℕ → Bool) (pri : Bool) (pick : ℕ) (es : List Enabled) (e : Enabled) (lo hi : ℕ) (u : Uses) : Type 0 where
      pub typed : EnabledHave d es → EnabledHas d e
      pub placed : AllEnabledPlaced procs lo hi es → EnabledPlaced procs lo hi e
      pub uses : IsPartOf (uses_of_all es) u → IsPartOf (uses_of_enabled e) u

    pub picked : (standing : ℕ → Bool) (pri : Bool) (pick : ℕ) (es : List Enabled) (e : Enabled) (lo hi : ℕ) (u : Uses) → chosen pri pick standing es ≡ Some e → Picked standing pri pick es e lo hi u
    picked standing pri pick es e lo hi u q =
        let r = ready_is_one standing es (if pri then 0 else pick % length (ready_among waits_for standing es)) e q in
        record { typed = enabled_typed d es e r.place r.is; placed = enabled_placed procs lo hi es e r.place r.is; uses = enabled_part es e r.place u r.is }

    module _ (i : ℕ) (t : Task) (pri : Bool) (pick : ℕ) (arms : List Arm) (a : Arm) (standing : ℕ → Bool) (h : HasTask tasks i t) (w : t.wait ≡ W.Chooses pri arms) (q : arm_chosen pri pick standing arms ≡ Some a) where
      abbrev l : Live d p procs k tasks proc s i t
      l = live_at d p procs k tasks proc s i t st h (λ e. let r = sym w ∙ e in cc)

      abbrev g : ChoosesAs d p procs k l.mine.belongs.body t l.own l.branches l.mine.but pri arms
      g = chooses_as d p procs k l.mine.belongs.body t l.own l.branches l.mine.but pri arms (subst (λ u. Stands d p procs k l.mine.belongs.body u l.own l.branches l.mine.but) l.same l.mine.stands) w

      whole : Uses
      whole = uses_of_left (left (Choosing pri g.enabled) g.rest)

      all_uses : IsPartOf (uses_of_all g.enabled) (uses_of_left (left (Choosing pri g.enabled) g.rest))
      all_uses = left_part (uses_of_all g.enabled) (uses_of_contexts g.rest) (uses_of_left (left (Choosing pri g.enabled) g.rest)) (whole_part (uses_of_left (left (Choosing pri g.enabled) g.rest)))

      pub arm_gets_by : (c : ℕ) (m : Message) → a.chan ≡ Some c → FitsProtocol (d.protocols c) m → Moved (GetsOn standing c m) i (took_arm t a (Some m))
      arm_gets_by c m f fits =
          let b = chosen_both d (Alike k d l.mine.belongs.body) t g.rest standing pri pick arms g.enabled a g.same q in
          by b.enabled b.is b.same
        where
          by : (e : Enabled) → chosen pri pick standing g.enabled ≡ Some e → SameArm d (Alike k d l.mine.belongs.body) t g.rest a e → Moved (GetsOn standing c m) i (took_arm t a (Some m))
          by (SkipArm xs body) z same = let r = sym f ∙ same.0 in absurd cc
          by (InputArm xs chan list) z same =
              let there : chan ≡ c = (let r = sym same.0 ∙ f in cc) in
              let pk = picked standing pri pick g.enabled (InputArm xs chan list) (i + 1) (i + 1 + size l.mine.belongs.term) (uses_of_left (left (Choosing pri g.enabled) g.rest)) z in
              let part = pk.uses all_uses in
              let settings = left_part (uses_of_settings xs) (with_use (inputting (only chan)) (uses_of_reception list)) _ part in
              let listed = right_part (inputting (only chan)) (uses_of_reception list) _ (right_part (uses_of_settings xs) (with_use (inputting (only chan)) (uses_of_reception list)) _ part) in
              goes_on i t (took_arm t a (Some m)) h refl refl (GetsOn standing c m) l.own l.branches l.at l.mine l.same
              (going_by i t (took_arm t a (Some m)) h refl refl (GetsOn standing c m) l.own l.branches l.mine (Choosing pri g.enabled) (Taking xs (MessageTaken list m)) g.rest g.own_is g.none g.all
              (arm_gets_on pick (z ∙ ap (λ n. Some (InputArm xs n list)) there))
              (may_turn refl refl (takes_arm a xs (MessageTaken list m) same.1) (same.2 m (subst (λ n. FitsProtocol (d.protocols n) m) (sym there) fits)))
              (λ x. let y = pk.typed x.0 in ((y.0, (y.1.0, y.1.2, subst (λ o. FitsProtocol o m) y.1.1 (subst (λ n. FitsProtocol (d.protocols n) m) (sym there) fits))), x.1))
              (both_parts (uses_of_settings xs) (uses_of_reception list) _ settings listed) (λ x. (pk.placed x.0, x.1)) refl)

      pub arm_skips_by : a.chan ≡ None → Moved (PassesBy standing) i (took_arm t a None)
      arm_skips_by f =
          let b = chosen_both d (Alike k d l.mine.belongs.body) t g.rest standing pri pick arms g.enabled a g.same q in
          by b.enabled b.is b.same
        where
          by : (e : Enabled) → chosen pri pick standing g.enabled ≡ Some e → SameArm d (Alike k d l.mine.belongs.body) t g.rest a e → Moved (PassesBy standing) i (took_arm t a None)
          by (InputArm xs chan list) z same = let r = sym f ∙ same.0 in absurd cc
          by (SkipArm xs body) z same =
              let pk = picked standing pri pick g.enabled (SkipArm xs body) (i + 1) (i + 1 + size l.mine.belongs.term) (uses_of_left (left (Choosing pri g.enabled) g.rest)) z in
              let part = pk.uses all_uses in
              let settings = left_part (uses_of_settings xs) (uses_of body) _ part in
              let bodied = right_part (uses_of_settings xs) (uses_of body) _ part in
              goes_on i t (took_arm t a None) h refl refl (PassesBy standing) l.own l.branches l.at l.mine l.same
              (going_by i t (took_arm t a None) h refl refl (PassesBy standing) l.own l.branches l.mine (Choosing pri g.enabled) (Taking xs (SkipTaken body)) g.rest g.own_is g.none g.all
              (arm_skips pick z) (may_turn refl refl (takes_arm a xs (SkipTaken body) same.1) same.2) (λ x. (pk.typed x.0, x.1)) (both_parts (uses_of_settings xs) (uses_of body) _ settings bodied) (λ x. (pk.placed x.0, x.1)) refl)
