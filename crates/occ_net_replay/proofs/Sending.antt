-- A change of one process of the system is one of its task: what the task waits for, and the state behind it.
use Rattle.std.proofs.Common.{◌≡◌, refl, sym, subst, Bool, ℕ, ◌+◌, List, [], Some, None}
use Rattle.std.specs.Prelude.{slice_set}
use mathlib.Core.Bool.{true≢false}
use Rattle.occ_term.specs.declared.message.Message.{Message}
use Rattle.occ_term.specs.Processes.{Numbered}
use Rattle.occ_term.specs.Selecting.{Enabled, SkipArm, InputArm}
use Rattle.occ_term.specs.StepUses.{IsPartOf, uses_of_left, uses_of_contexts, uses_of_settings, uses_of_all, uses_of_doing}
use Rattle.occ_term.specs.Steps.{Doing, Do, Offering, Awaiting, Choosing, Taking, SkipTaken, MessageTaken, Context, Left, left}
use Rattle.occ_term.specs.System.{Process, Processes, no_processes, ChangeIn, GivesOn, offer_ends, GetsOn, input_gets, arm_gets as arm_gets_on, PassesBy, arm_skips}
use Rattle.occ_term.specs.TermTyping.{Declared}
use Rattle.occ_term.specs.Terms.{Skip, Reception}
use Rattle.occ_term.specs.Uses.{Numbers, empty_set, no_use, with_use, inputting, only, uses_of, uses_of_reception}
use Rattle.occ_term.specs.Values.{Store}
use Rattle.occ_term.proofs.KeptStores.{left_part, right_part, both_parts, no_part, whole_part}
use Rattle.occ_machine.specs.SameStop.{SameArms, FitsProtocol}
use Rattle.occ_machine.specs.Alike.{Alike}
use Rattle.occ_machine.specs.Compiled.{Program}
use Rattle.occ_machine.specs.Machine.{Body}
use Rattle.occ_machine.specs.declared.task.Arm.{Arm}
use Rattle.occ_machine.specs.declared.task.Task.{Task}
use Rattle.occ_machine.specs.declared.task.Wait.TheVariants as W
use Rattle.occ_net_replay.specs.Moments.{At, by_term, by_taking}
use Rattle.occ_net_replay.specs.Replay.{Tasks, HasTask, made_ready, has_taken, took_arm, arm_chosen}
use Rattle.occ_net_replay.proofs.Holding.{takes_arm, put, Stands, may_turn, offers, awaits, chooses}
use Rattle.occ_net_replay.proofs.Meeting.{chosen_back, picked}
use Rattle.occ_net_replay.proofs.Placed.{size}
use Rattle.occ_net_replay.proofs.Putting.{mine}
use Rattle.occ_net_replay.proofs.States.{State, moved}
use Rattle.occ_net_replay.proofs.Still.{changes_at}

pub part_left : (x y : Doing) (j : List Context) → IsPartOf (uses_of_doing x) (uses_of_left (left y j)) → IsPartOf (uses_of_left (left x j)) (uses_of_left (left y j))
part_left x y j h = both_parts (uses_of_doing x) (uses_of_contexts j) (uses_of_left (left y j)) h (right_part (uses_of_doing y) (uses_of_contexts j) (uses_of_left (left y j)) (whole_part (uses_of_left (left y j))))

module _ (d : Declared) (p : Program) (procs : List Numbered) where
  -- ---- what a task waits for, by what is left of its process

  module _ (k : ℕ) (body : Body) (t : Task) where
    record OffersAs (c : ℕ) (m : Message) (j : List Context) (but : Numbers) : Type 0 where
      pub waits : t.wait ≡ W.Offers c m
      pub all : but ≡ empty_set
      pub alike : Alike k d body (made_ready t) (left (Do Skip) j)

    offers_as : (c : ℕ) (m : Message) (j : List Context) (ps : Processes) (but : Numbers) → Stands d p procs k body t (left (Offering c m) j) ps but → OffersAs c m j but
    offers_as c m j ps but (may_turn g h y a) = absurd (true≢false (sym h))
    offers_as c m j ps but (offers w a) = record { waits = w; all = refl; alike = a }

    record AwaitsAs (c : ℕ) (list : Reception) (j : List Context) (but : Numbers) : Type 0 where
      pub waits : t.wait ≡ W.Awaits c
      pub all : but ≡ empty_set
      pub alike : (m : Message) → FitsProtocol (d.protocols c) m → Alike k d body (has_taken t m) (left (Taking [] (MessageTaken list m)) j)

    awaits_as : (c : ℕ) (list : Reception) (j : List Context) (ps : Processes) (but : Numbers) → Stands d p procs k body t (left (Awaiting c list) j) ps but → AwaitsAs c list j but
    awaits_as c list j ps but (may_turn g h y a) = absurd (true≢false (sym h))
    awaits_as c list j ps but (awaits w a) = record { waits = w; all = refl; alike = a }

    record PicksAs (pri : Bool) (es : List Enabled) (j : List Context) (but : Numbers) : Type 0 where
      pub arms : List Arm
      pub waits : t.wait ≡ W.Chooses pri arms
      pub all : but ≡ empty_set
      pub same : SameArms d (Alike k d body) t j arms es

    picks_as : (pri : Bool) (es : List Enabled) (j : List Context) (ps : Processes) (but : Numbers) → Stands d p procs k body t (left (Choosing pri es) j) ps but → PicksAs pri es j but
    picks_as pri es j ps but (may_turn g h y a) = absurd (true≢false (sym h))
    picks_as pri es j ps but (chooses {arms = arms} w a) = record { arms = arms; waits = w; all = refl; same = a }

  module _ (k : ℕ) (tasks : Tasks) (proc : Process) (s : Store) (st : State d p procs k tasks proc s) where
    -- ---- an offer is taken

    pub record Gave (i c : ℕ) (m : Message) (after : Process) : Type 0 where
      pub task : Task
      pub there : HasTask tasks i task
      pub waits : task.wait ≡ W.Offers c m
      pub state : State d p procs k (slice_set tasks i (Some (made_ready task))) after s
      pub fits : FitsProtocol (d.protocols c) m

    gives : {own next : Left} → (i c : ℕ) (m : Message) → GivesOn c m own next → (x : At i own no_processes proc) → Gave i c m (put x next no_processes)
    gives i c m (offer_ends {k = j}) x =
        let o = (mine d p procs k s tasks x st.holds).0 in
        let w = offers_as k o.belongs.body o.task c m j no_processes o.but o.stands in
        record {
          task = o.task;
          there = o.has_task;
          waits = w.waits;
          state = moved d p procs k tasks proc s st i o.task (made_ready o.task) (left (Offering c m) j) (left (Do Skip) j) x o refl o.has_task w.all refl refl
              (may_turn refl refl by_term w.alike) (tt, o.typed.1) (part_left (Do Skip) (Offering c m) j (no_part (uses_of_left (left (Offering c m) j)))) (tt, o.placed.1) refl;
          fits = subst (λ z. FitsProtocol z m) (sym o.typed.0.1) o.typed.0.2;
        }

    pub gave : (i c : ℕ) (m : Message) (after : Process) → ChangeIn (GivesOn c m) i proc after → Gave i c m after
    gave i c m after f = let y = changes_at f in subst (Gave i c m) (sym y.is) (gives i c m y.rel y.at)

    -- ---- a message is taken

    pub data Got (i c : ℕ) (m : Message) (standing : ℕ → Bool) (after : Process) : Type 0 where
      got_input : {t : Task} → HasTask tasks i t → t.wait ≡ W.Awaits c → State d p procs k (slice_set tasks i (Some (has_taken t m))) after s → Got i c m standing after
      got_arm : {t : Task} {pri : Bool} {arms : List Arm} {a : Arm}
          → (pick : ℕ) → HasTask tasks i t → t.wait ≡ W.Chooses pri arms → arm_chosen pri pick standing arms ≡ Some a → a.chan ≡ Some c
          → State d p procs k (slice_set tasks i (Some (took_arm t a (Some m)))) after s → Got i c m standing after

    gets : {own next : Left} → (i c : ℕ) (m : Message) (standing : ℕ → Bool) → FitsProtocol (d.protocols c) m → GetsOn standing c m own next → (x : At i own no_processes proc) → Got i c m standing (put x next no_processes)
    gets i c m standing fits (input_gets {k = j} {list = list}) x =
        let o = (mine d p procs k s tasks x st.holds).0 in
        let w = awaits_as k o.belongs.body o.task c list j no_processes o.but o.stands in
        let whole = uses_of_left (left (Awaiting c list) j) in
        let listed : IsPartOf (uses_of_reception list) whole = right_part (inputting (only c)) (uses_of_reception list) whole (left_part (uses_of_doing (Awaiting c list)) (uses_of_contexts j) whole (whole_part whole)) in
        got_input o.has_task w.waits
        (moved d p procs k tasks proc s st i o.task (has_taken o.task m) (left (Awaiting c list) j) (left (Taking [] (MessageTaken list m)) j) x o refl o.has_task w.all refl refl
        (may_turn refl refl by_taking (w.alike m fits)) ((tt, (o.typed.0.0, o.typed.0.2, subst (λ z. FitsProtocol z m) o.typed.0.1 fits)), o.typed.1)
        (part_left (Taking [] (MessageTaken list m)) (Awaiting c list) j (both_parts no_use (uses_of_reception list) whole (no_part whole) listed)) o.placed refl)
    gets i c m standing fits (arm_gets_on {k = j} {pri = pri} {arms = es} {again = again} {list = list} pick q) x =
        let o = (mine d p procs k s tasks x st.holds).0 in
        let w = picks_as k o.belongs.body o.task pri es j no_processes o.but o.stands in
        let b = chosen_back d (Alike k d o.belongs.body) o.task j standing pri pick w.arms es (InputArm again c list) w.same q in
        let whole = uses_of_left (left (Choosing pri es) j) in
        let pk = picked d p procs k tasks proc s st standing pri pick es (InputArm again c list) (i + 1) (i + 1 + size o.belongs.term) whole q in
        let part = pk.uses (left_part (uses_of_all es) (uses_of_contexts j) whole (whole_part whole)) in
        let settings = left_part (uses_of_settings again) (with_use (inputting (only c)) (uses_of_reception list)) whole part in
        let listed = right_part (inputting (only c)) (uses_of_reception list) whole (right_part (uses_of_settings again) (with_use (inputting (only c)) (uses_of_reception list)) whole part) in
        let typed = pk.typed o.typed.0 in
        got_arm pick o.has_task w.waits b.is b.same.0
        (moved d p procs k tasks proc s st i o.task (took_arm o.task b.arm (Some m)) (left (Choosing pri es) j) (left (Taking again (MessageTaken list m)) j) x o refl o.has_task w.all refl refl
        (may_turn refl refl (takes_arm b.arm again (MessageTaken list m) b.same.1) (b.same.2 m fits)) ((typed.0, (typed.1.0, typed.1.2, subst (λ z. FitsProtocol z m) typed.1.1 fits)), o.typed.1)
        (part_left (Taking again (MessageTaken list m)) (Choosing pri es) j (both_parts (uses_of_settings again) (uses_of_reception list) whole settings listed)) (pk.placed o.placed.0, o.placed.1) refl)

    pub got : (i c : ℕ) (m : Message) (standing : ℕ → Bool) (after : Process) → FitsProtocol (d.protocols c) m → ChangeIn (GetsOn standing c m) i proc after → Got i c m standing after
    got i c m standing after fits f = let y = changes_at f in subst (Got i c m standing) (sym y.is) (gets i c m standing fits y.rel y.at)

    -- ---- an arm with SKIP is chosen

    pub record Skipped (i : ℕ) (standing : ℕ → Bool) (after : Process) : Type 0 where
      pub task : Task
      pub pri : Bool
      pub arms : List Arm
      pub arm : Arm
      pub pick : ℕ
      pub there : HasTask tasks i task
      pub waits : task.wait ≡ W.Chooses pri arms
      pub chosen : arm_chosen pri pick standing arms ≡ Some arm
      pub none : arm.chan ≡ None
      pub state : State d p procs k (slice_set tasks i (Some (took_arm task arm None))) after s

    skips : {own next : Left} → (i : ℕ) (standing : ℕ → Bool) → PassesBy standing own next → (x : At i own no_processes proc) → Skipped i standing (put x next no_processes)
    skips i standing (arm_skips {k = j} {pri = pri} {arms = es} {again = again} {body = body} pick q) x =
        let o = (mine d p procs k s tasks x st.holds).0 in
        let w = picks_as k o.belongs.body o.task pri es j no_processes o.but o.stands in
        let b = chosen_back d (Alike k d o.belongs.body) o.task j standing pri pick w.arms es (SkipArm again body) w.same q in
        let whole = uses_of_left (left (Choosing pri es) j) in
        let pk = picked d p procs k tasks proc s st standing pri pick es (SkipArm again body) (i + 1) (i + 1 + size o.belongs.term) whole q in
        let part = pk.uses (left_part (uses_of_all es) (uses_of_contexts j) whole (whole_part whole)) in
        let settings = left_part (uses_of_settings again) (uses_of body) whole part in
        let bodied = right_part (uses_of_settings again) (uses_of body) whole part in
        record {
          task = o.task;
          pri = pri;
          arms = w.arms;
          arm = b.arm;
          pick = pick;
          there = o.has_task;
          waits = w.waits;
          chosen = b.is;
          none = b.same.0;
          state = moved d p procs k tasks proc s st i o.task (took_arm o.task b.arm None) (left (Choosing pri es) j) (left (Taking again (SkipTaken body)) j) x o refl o.has_task w.all refl refl
              (may_turn refl refl (takes_arm b.arm again (SkipTaken body) b.same.1) b.same.2) (pk.typed o.typed.0, o.typed.1) (part_left (Taking again (SkipTaken body)) (Choosing pri es) j (both_parts (uses_of_settings again) (uses_of body) whole settings bodied)) (pk.placed o.placed.0, o.placed.1) refl;
        }

    pub skipped : (i : ℕ) (standing : ℕ → Bool) (after : Process) → ChangeIn (PassesBy standing) i proc after → Skipped i standing after
    skipped i standing after f = let y = changes_at f in subst (Skipped i standing) (sym y.is) (skips i standing y.rel y.at)
