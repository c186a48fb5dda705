-- The network before its first turn.
use Rattle.std.proofs.Common.{◌≡◌, ◌∙◌, refl, sym, ap, subst, Bool, false, ℕ, zero, suc, ◌+◌, List, [], ◌∷◌, Some, None, length, drop, replicate}
use Rattle.std.specs.Prelude.{slice_get, slice_set}
use Rattle.occ_term.specs.Frames.{zero_frame}
use Rattle.occ_term.specs.Processes.{Numbered}
use Rattle.occ_term.specs.TermTyping.{Declared}
use Rattle.occ_machine.specs.Compiled.{Program, AllDo, IsCompiled}
use Rattle.occ_machine.specs.Machine.{Body}
use Rattle.occ_machine.specs.declared.task.Task.{Task}
use Rattle.occ_machine.specs.declared.task.Wait.{Wait}
use Rattle.occ_machine.specs.declared.task.Wait.TheVariants as W
use Rattle.occ_net_replay.specs.Replay.{HasTask, first_tasks, first_net, first_noted, first_task, none_begun, offers_on, ready_from}
use Rattle.occ_net_replay.specs.Waiting.{listens_on}
use Rattle.occ_net_tables.specs.declared.tables.Tables.{Tables}
use Rattle.occ_net_tables.specs.Holding.{AreTrue, Holds, IsOrdinary, IsTable, joins_on}
use Rattle.occ_net_tables.proofs.OneChange.{not_both, set_length, true_as}

first_there : (d : Declared) (n : ℕ) (bs : List Body) (q : Numbered) (ps : List Numbered) → AllDo d n bs (q ∷ ps) → slice_get bs 0 ≡ None → ⊥
first_there d n [] q ps h e = h
first_there d n (b ∷ bs) q ps h e = cc

pub main_there : (p : Program) → IsCompiled p → slice_get p.bodies 0 ≡ None → ⊥
main_there p c e = first_there _ 0 p.bodies _ _ c.compiled.bodies e

many_long : {X : Type 0} (n : ℕ) (x : X) → length (replicate n x) ≡ n
many_long zero x = refl
many_long (suc n) x = ap suc (many_long n x)

none_many : (bs : List Body) → none_begun bs ≡ replicate (length bs) None
none_many [] = refl
none_many (b ∷ bs) = ap (λ l. None ∷ l) (none_many bs)

start_is : (bs : List Body) (b : Body) → slice_get bs 0 ≡ Some b → slice_set (replicate (length bs) None) 0 (Some (first_task 0 0 (zero_frame b.cells b.loops))) ≡ first_tasks bs
start_is [] b e = absurd cc
start_is (x ∷ bs) b e = let same : b ≡ x = cc in ap (λ l. Some (first_task 0 0 (zero_frame b.cells b.loops)) ∷ l) (sym (none_many bs)) ∙ ap (λ z. Some (first_task 0 0 (zero_frame z.cells z.loops)) ∷ none_begun bs) same

not_begun : (bs : List Body) (i : ℕ) (t : Task) → HasTask (none_begun bs) i t → ⊥
not_begun [] i t e = cc
not_begun (b ∷ bs) zero t e = cc
not_begun (b ∷ bs) (suc i) t e = not_begun bs i t e

all_ready : (bs : List Body) (i : ℕ) (t : Task) → HasTask (first_tasks bs) i t → t.wait ≡ W.Ready
all_ready [] i t e = absurd cc
all_ready (b ∷ bs) zero t e = let same : first_task 0 0 (zero_frame b.cells b.loops) ≡ t = cc in ap (λ z. z.wait) (sym same)
all_ready (b ∷ bs) (suc i) t e = absurd (not_begun bs i t e)

none_ready : (k : ℕ) (bs : List Body) → ready_from k (none_begun bs) ≡ []
none_ready k [] = refl
none_ready k (b ∷ bs) = none_ready (k + 1) bs

one_ready : (bs : List Body) (b : Body) → slice_get bs 0 ≡ Some b → 0 ∷ [] ≡ ready_from 0 (first_tasks bs)
one_ready [] b e = absurd cc
one_ready (x ∷ bs) b e = ap (λ l. 0 ∷ l) (sym (none_ready (0 + 1) bs))

nobody : (n c i : ℕ) → slice_get (replicate n None) c ≡ Some (Some i) → ⊥
nobody zero c i e = cc
nobody (suc n) zero i e = cc
nobody (suc n) (suc c) i e = nobody n c i e

empty_table : (bs : List Body) (says : Wait → ℕ → Bool) (n : ℕ) → ((c : ℕ) → says W.Ready c ≡ false) → IsTable says (first_tasks bs) (replicate n None)
empty_table bs says n silent =
    record {
      sound = λ c i e. absurd (nobody n c i e);
      whole = λ c i t h s. absurd (not_both (sym (ap (λ z. says z c) (all_ready bs i t h)) ∙ s) (silent c));
    }

start_true : (bs : List Body) (b : Body) (channels : ℕ) → slice_get bs 0 ≡ Some b → AreTrue (first_tasks bs) (0 ∷ []) (replicate channels None) (replicate channels None) (replicate (length bs) None) (replicate (length bs) 0) None (first_noted [])
start_true bs b channels e =
    record {
      ready_is = one_ready bs b e;
      offers = empty_table bs offers_on channels (λ c. refl);
      awaits = empty_table bs listens_on channels (λ c. refl);
      joins = empty_table bs joins_on (length bs) (λ c. refl);
      counted = λ m t ns h w. let q : W.Ready ≡ W.Joins ns = sym (all_ready bs m t h) ∙ w in absurd cc;
      ordinary = λ i t h. subst IsOrdinary (sym (all_ready bs i t h)) tt;
      fault_is = refl;
    }

pub starts : (p : Program) (kb : List ℕ) (n : Tables) (b : Body) → slice_get p.bodies 0 ≡ Some b → n.tasks.items ≡ slice_set (replicate (length p.bodies) None) 0 (Some (first_task 0 0 (zero_frame b.cells b.loops))) → n.ready.items ≡ 0 ∷ [] → n.offering.items ≡ replicate (length p.channels) None → n.awaiting.items ≡ replicate (length p.channels) None → n.parents.items ≡ replicate (length p.bodies) None → n.unfinished.items ≡ replicate (length p.bodies) 0 → n.fault ≡ None → n.used ≡ 0 → n.trace ≡ [] → Holds p kb n (first_net p kb)
starts p kb n b e t r o a ps u f k s =
    record {
      tasks = sym (t ∙ start_is p.bodies b e);
      bytes = ap (λ i. drop i kb) (sym k);
      trace = (sym s);
      sound = true_as (t ∙ start_is p.bodies b e) r o a ps u f (start_true p.bodies b (length p.channels) e);
      sized = record {
        tasks_are = ap length t ∙ set_length (replicate (length p.bodies) None) 0 (Some (first_task 0 0 (zero_frame b.cells b.loops))) ∙ many_long (length p.bodies) None;
        offering_is = ap length o ∙ many_long (length p.channels) None;
        awaiting_is = ap length a ∙ many_long (length p.channels) None;
        parents_are = ap length ps ∙ many_long (length p.bodies) None;
        unfinished_are = ap length u ∙ many_long (length p.bodies) 0;
      };
    }
