-- The network's start, and how a network and its system end.
use Rattle.std.proofs.Common.{◌≡◌, ◌∙◌, refl, sym, ap, subst, Bool, true, false, IsTrue, ℕ, zero, suc, ◌+◌, ◌<◌, ◌^◌, inl, ℤ, List, [], ◌∷◌, Option, Some, None, length, arith}
use Rattle.std.specs.Prelude.{slice_get, pos, replicate, nat_eq, if◌then◌else◌}
use Rattle.std.proofs.lemmas.List.{length-replicate}
use mathlib.Core.Bool.{true≢false}
use Rattle.occ_term.specs.declared.fault.Errors.TheVariants as on_fault
use Rattle.occ_term.specs.declared.fault.Errors.{Errors}
use Rattle.occ_term.specs.declared.fault.Errors.TheVariants.{Halt, Stop}
use Rattle.occ_term.specs.declared.fault.Fault.{Fault}
use Rattle.occ_term.specs.declared.primitive.Primitive.{Primitive}
use Rattle.occ_term.specs.declared.primitive.Primitive.TheVariants.{Bool as Boolean, Byte, Int}
use Rattle.occ_term.specs.declared.protocol.Protocol.TheVariants.{Simple}
use Rattle.occ_term.specs.Frames.{value_at, zero_frame}
use Rattle.occ_term.specs.Messages.{is_of}
use Rattle.occ_term.specs.Processes.{Numbered, processes_of}
use Rattle.occ_term.specs.Runs.{main_ended, still_by, EndsBy, by_fault, by_end, by_standing, goes_on, CanStep, own_step, join_step, branch_step, AnyCanStep, first_can, later_can, private_step}
use Rattle.occ_term.specs.StepUses.{IsPartOf, uses_of_left}
use Rattle.occ_term.specs.Steps.{Do, Left, left, status, is_ended}
use Rattle.occ_term.specs.System.{Process, process, Processes, no_processes, System, system, start, MayGo}
use Rattle.occ_term.specs.TermTyping.{Declared, TermHas}
use Rattle.occ_term.specs.Terms.{Term}
use Rattle.occ_term.specs.UnfoldedProgram.{NumberedFrom}
use Rattle.occ_term.specs.Uses.{Numbers, empty_set, no_use, uses_of, LawfulTerm}
use Rattle.occ_term.specs.Values.{Store, is_of_declared}
use Rattle.occ_term.proofs.Going.{going}
use Rattle.occ_term.proofs.KeptStores.{both_parts, no_part, whole_part}
use Rattle.occ_machine.specs.Alike.{Alike, IsFirst}
use Rattle.occ_machine.specs.Compiled.{Program}
use Rattle.occ_machine.specs.Machine.{Body}
use Rattle.occ_machine.specs.declared.task.Task.{Task}
use Rattle.occ_machine.specs.declared.task.Wait.{Wait}
use Rattle.occ_net_replay.specs.Following.{AreBytes, or_limit}
use Rattle.occ_net_replay.specs.Replay.{Net, Tasks, HasTask, first_task, first_net, first_tasks, none_begun, may_go, ready_from, is_done, ended, main_done, ending_by, ending_of, first_noted, standing_by, stopped_by}
use Rattle.occ_net_replay.specs.Moments.{At, Among, first, later, here, below, by_term}
use Rattle.occ_net_replay.proofs.Holding.{number_of, Belongs, Stands, may_turn, Own, Holds}
use Rattle.occ_net_replay.proofs.Merging.{done_stands}
use Rattle.occ_net_replay.proofs.Placed.{size, Placed, LeftPlaced}
use Rattle.occ_net_replay.proofs.Placing.{main_placed}
use Rattle.occ_net_replay.proofs.Putting.{In}
use Rattle.occ_net_replay.proofs.Settling.{Follows}
use Rattle.occ_net_replay.proofs.States.{IsThere, live_at, ended_done}
use Rattle.occ_net_replay.proofs.Still.{stands_still}
use Rattle.occ_net_replay.proofs.Tables.{ready_at, none_ready}
use Rattle.occ_net_replay.proofs.TakingTurns.{Begins, begins_alone, begins_joined, begins_as, done_wait}

-- ---- values at the start

zero_either : (b : Bool) (v : ℤ) → v ≡ pos 0 → (if b then pos 0 else v) ≡ pos 0
zero_either true v h = refl
zero_either false v h = h

zero_values : (cells : List ℕ) (c : ℕ) → value_at cells (replicate (length cells) (pos 0)) c ≡ pos 0
zero_values [] c = refl
zero_values (x ∷ xs) c = zero_either (nat_eq x c) _ (zero_values xs c)

zero_of : (t : Primitive) → IsTrue (is_of t (pos 0))
zero_of Boolean = refl
zero_of Byte = refl
zero_of Int = refl

zero_of_declared : (t : Option Primitive) → IsTrue (is_of_declared t (pos 0))
zero_of_declared None = refl
zero_of_declared (Some t) = zero_of t

-- ---- the table at the start

abbrev main_task : Body → Task
main_task b = first_task 0 0 (zero_frame b.cells b.loops)

main_there : (bs : List Body) (b : Body) → slice_get bs 0 ≡ Some b → HasTask (first_tasks bs) 0 (main_task b)
main_there [] b e = absurd cc
main_there (x ∷ bs) b e = let same : x ≡ b = cc in ap (λ z. Some (Some (main_task z))) same

none_there : (bs : List Body) (i : ℕ) (t : Task) → HasTask (none_begun bs) i t → ⊥
none_there [] i t e = cc
none_there (b ∷ bs) zero t e = cc
none_there (b ∷ bs) (suc i) t e = none_there bs i t e

main_alone : (bs : List Body) (b : Body) → slice_get bs 0 ≡ Some b → (i : ℕ) (t : Task) → HasTask (first_tasks bs) i t → (i ≡ 0) × (t ≡ main_task b)
main_alone [] b e i t h = absurd cc
main_alone (x ∷ bs) b e zero t h = let same : x ≡ b = cc in let one : main_task x ≡ t = cc in (refl, sym one ∙ ap main_task same)
main_alone (x ∷ bs) b e (suc i) t h = absurd (none_there bs i t h)

none_full : (bs : List Body) (i : ℕ) (b : Body) → slice_get bs i ≡ Some b → IsThere (none_begun bs) i
none_full [] i b e = absurd cc
none_full (x ∷ bs) zero b e = record { entry = None; is = refl }
none_full (x ∷ bs) (suc i) b e = let y = none_full bs i b e in record { entry = y.entry; is = y.is }

start_full : (bs : List Body) (i : ℕ) (b : Body) → slice_get bs i ≡ Some b → IsThere (first_tasks bs) i
start_full [] i b e = absurd cc
start_full (x ∷ bs) zero b e = record { entry = Some (main_task x); is = refl }
start_full (x ∷ bs) (suc i) b e = let y = none_full bs i b e in record { entry = y.entry; is = y.is }

module _ (d : Declared) (p : Program) (procs : List Numbered) (protocol : d.protocols 0 ≡ Some (Simple [] Byte)) (quantum : ℕ) where
  -- ---- the start

  pub first_follows : (k : ℕ) → k < 2 ^ 64 → (kb : List ℕ) (t : Term) → AreBytes kb → (procs ≡ processes_of t) → NumberedFrom 0 (processes_of t) → LawfulTerm t → TermHas d t → (b : Belongs d p procs 0) → b.term ≡ t → Follows d p procs protocol quantum k (first_net p kb) (start t kb)
  first_follows k few kb t bytes listed numbers lawful typed b same =
      record {
        proc = process 0 (left (Do t) []) no_processes;
        store = λ c. pos 0;
        noted = [];
        is = refl;
        state = record {
          root = refl;
          holds = (own, tt);
          live = λ i u h. inl (subst (λ z. In z (process 0 (left (Do t) []) no_processes)) (sym (main_alone p.bodies b.body b.code i u h).0) (record { own = left (Do t) []; branches = no_processes; at = here }));
          small = λ i u h. subst (λ z. z.turns + k < 2 ^ 64) (sym (main_alone p.bodies b.body b.code i u h).1) (omega (arith, few));
          typed_store = λ c. zero_of_declared (d.types c);
          full = λ i x e. start_full p.bodies i x e;
        };
        quiet = record {
          unread = λ i u c m h w. absurd (waits_not i u h _ w refl);
          unheard = λ i u c h w g. waits_not i u h _ w refl;
          unready = λ i u pri arms h w. absurd (waits_not i u h _ w refl);
          unjoined = λ i u ns h w g. waits_not i u h _ w refl;
        };
        bytes = bytes;
        faults = refl;
      }
    where
      task : Task
      task = main_task b.body

      ready : (i : ℕ) (u : Task) → HasTask (first_tasks p.bodies) i u → IsTrue (may_go u.wait)
      ready i u h = ap (λ z. may_go z.wait) (main_alone p.bodies b.body b.code i u h).1

      waits_not : (i : ℕ) (u : Task) → HasTask (first_tasks p.bodies) i u → (w : Wait) → u.wait ≡ w → may_go w ≡ false → ⊥
      waits_not i u h w e f = true≢false (sym (ready i u h) ∙ ap may_go e ∙ f)

      is_first : IsFirst b.body (main_task b.body)
      is_first = record { pc = refl; wait = refl; frame = record { cells_are = refl; values_for_all = length-replicate (length b.body.cells) (pos 0) }; none_left = refl }

      own : Own d p procs k (λ c. pos 0) (first_tasks p.bodies) 0 (left (Do t) []) no_processes
      own =
          record {
            belongs = b;
            task = main_task b.body;
            has_task = main_there p.bodies b.body b.code;
            but = empty_set;
            stands = may_turn refl refl by_term (subst (λ z. Alike k d b.body (main_task b.body) (left (Do z) [])) same (b.does.alike k (main_task b.body) (omega (arith, few)) is_first));
            typed = (typed, tt);
            uses = subst (λ z. IsPartOf (uses_of_left (left (Do t) [])) (uses_of z)) (sym same) (both_parts (uses_of t) no_use (uses_of t) (whole_part (uses_of t)) (no_part (uses_of t)));
            placed = subst (λ z. LeftPlaced procs 1 (1 + size z) (left (Do t) [])) (sym same) (subst (λ z. Placed z 1 (1 + size t) t) (sym listed) (main_placed t numbers lawful), tt);
            agrees = record { shape = record { cells_are = refl; values_for_all = length-replicate (length b.body.cells) (pos 0) }; same = λ c m e. zero_values b.body.cells c };
          }

  -- ---- endings

  mutual
    pub step_at : {n : ℕ} {own : Left} {ps : Processes} {q : Process} {s : Store} → At n own ps q → CanStep (process n own ps) s → CanStep q s
    step_at here c = c
    step_at (below x) c = branch_step (step_among x c)

    step_among : {n : ℕ} {own : Left} {ps qs : Processes} {s : Store} → Among n own ps qs → CanStep (process n own ps) s → AnyCanStep qs s
    step_among (first x) c = first_can (step_at x c)
    step_among (later x) c = later_can (step_among x c)

  -- a process that may go on has a step
  may_step : (k n : ℕ) (body : Body) (t : Task) (own : Left) (ps : Processes) (but : Numbers) (s : Store) → Begins d p procs k body t own ps but → CanStep (process n own ps) s
  may_step k n body t own ps but s (begins_alone {x = x} {j = j} h a) = own_step (going x j s h).2
  may_step k n body t own ps but s (begins_joined e a) = join_step e

  stopped_as : (noted : List Fault) → still_by noted ≡ (stopped_by (first_noted noted))
  stopped_as [] = refl
  stopped_as (e ∷ es) = refl

  module _ (k : ℕ) (net : Net) (sys : System) (f : Follows d p procs protocol quantum k net sys) where
    abbrev whole : System
    whole = system net.keyboard f.proc f.store f.noted

    head_is : (tasks : Tasks) (t : Task) → HasTask tasks 0 t → main_done tasks ≡ is_done t.wait
    head_is [] t h = absurd cc
    head_is (x ∷ ts) t h = let same : x ≡ Some t = cc in ap ended same

    main_is : (q : Process) → number_of q ≡ 0 → Holds d p procs k f.store net.tasks q → main_ended (system net.keyboard q f.store f.noted) ≡ main_done net.tasks
    main_is (process n own ps) e h =
        let there : HasTask net.tasks 0 h.0.task = subst (λ z. HasTask net.tasks z h.0.task) e h.0.has_task in
        both (is_ended (status own)) (is_done h.0.task.wait)
        (ended_done d p procs k h.0.belongs.body h.0.task own ps h.0.but h.0.stands)
        (λ g. (done_stands d p procs k f.store net.tasks h.0.belongs.body h.0.task own ps h.0.but h.0.stands (done_wait h.0.task.wait g)).0)
        ∙ sym (head_is net.tasks h.0.task there)
      where
        both : (a b : Bool) → (IsTrue a → IsTrue b) → (IsTrue b → IsTrue a) → a ≡ b
        both true b g h = sym (g refl)
        both false true g h = h refl
        both false false g h = refl

    main_same : main_ended whole ≡ main_done net.tasks
    main_same = main_is f.proc f.state.root f.state.holds

    goes : (n : ℕ) (ns : List ℕ) → ready_from 0 net.tasks ≡ n ∷ ns → CanStep f.proc f.store
    goes n ns e =
        let y = ready_at 0 net.tasks 0 n (ap (λ xs. slice_get xs 0) e) in
        let l = live_at d p procs k net.tasks f.proc f.store y.place y.task f.state y.there (λ z. true≢false (sym y.may ∙ ap may_go z)) in
        step_at l.at (may_step k y.place l.mine.belongs.body y.task l.own l.branches l.mine.but f.store (begins_as d p procs k l.mine.belongs.body y.task l.own l.branches l.mine.but (subst (λ u. Stands d p procs k l.mine.belongs.body u l.own l.branches l.mine.but) l.same l.mine.stands) y.may))

    -- where a noted fault doesn't end the system
    stands_by : (errors : Errors) → MayGo errors f.noted → (main : Bool) → main_done net.tasks ≡ main → (ready : List ℕ) → ready_from 0 net.tasks ≡ ready → EndsBy errors whole (or_limit (standing_by (first_noted f.noted) main ready))
    stands_by errors may true m ready r = by_end may (main_same ∙ m)
    stands_by errors may false m [] r =
        subst (EndsBy errors whole) (stopped_as f.noted)
        (by_standing may (main_same ∙ m) (stands_still d p procs k net f.proc f.store f.noted f.state f.quiet (λ i t h g. none_ready 0 net.tasks r i t h g)))
    stands_by errors may false m (n ∷ ns) r = goes_on may (main_same ∙ m) (private_step (goes n ns r))

    ends_by : (errors : Errors) (noted : List Fault) → f.noted ≡ noted → EndsBy errors whole ((or_limit (ending_by errors (first_noted noted) (main_done net.tasks) (ready_from 0 net.tasks))))
    ends_by Halt (e ∷ es) q = by_fault refl q
    ends_by Halt [] q = subst (λ z. EndsBy on_fault.Halt whole ((or_limit (standing_by (first_noted z) (main_done net.tasks) (ready_from 0 net.tasks))))) q (stands_by on_fault.Halt q (main_done net.tasks) refl (ready_from 0 net.tasks) refl)
    ends_by Stop noted q = subst (λ z. EndsBy on_fault.Stop whole ((or_limit (standing_by (first_noted z) (main_done net.tasks) (ready_from 0 net.tasks))))) q (stands_by on_fault.Stop tt (main_done net.tasks) refl (ready_from 0 net.tasks) refl)

    pub ends_as : EndsBy p.errors sys (or_limit (ending_of p.errors net))
    ends_as = subst (λ z. EndsBy p.errors z (or_limit (ending_of p.errors net))) (sym f.is) (ends_by p.errors net.noted f.faults)
