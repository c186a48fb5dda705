-- In a replay each task has the number of its process.
use Rattle.std.proofs.Common.{◌≡◌, ◌∙◌, refl, sym, ap, ℕ, zero, suc, ◌⊎◌, inl, inr, List, [], ◌∷◌, Option, Some, None}
use Rattle.std.specs.Prelude.{option_map, slice_get, slice_set}
use Rattle.occ_term.specs.declared.message.Message.{Message}
use Rattle.occ_term.specs.Frames.{Variables, zero_frame}
use Rattle.occ_term.specs.declared.communication.Communication.{Communication}
use Rattle.occ_term.specs.declared.communication.End.{End}
use Rattle.occ_machine.specs.Compiled.{Program}
use Rattle.occ_machine.specs.Machine.{Body, Stopping, StopsIn, by_place, passes_on, stops_here}
use Rattle.occ_machine.specs.declared.instr.Instr.{Instr}
use Rattle.occ_machine.specs.declared.task.Task.{Task}
use Rattle.occ_net_replay.specs.declared.choice.Choice.{Choice}
use Rattle.occ_net_replay.specs.Replay.{Gets, HandsOver, Happens, HasTask, PassesOn, Net, OneTurn, Replays, Settled, Tasks, arm_gets, first_tasks, begins, branch_task, branch_frame, error_gets, first_task, forks, goes_on, joined, joins, keyboard_gives, meets, none_begun, screen_gets, settles, skips, stays, task_gets, task_gives, turns_at, with_branches}

abbrev pub AreNumbered : Tasks → Type 0
AreNumbered tasks = (i : ℕ) (t : Task) → HasTask tasks i t → t.number ≡ i

abbrev IsNumbered : ℕ → Option Task → Type 0
IsNumbered n x = (t : Task) → x ≡ Some t → t.number ≡ n

-- ---- one entry is set

read_set : {X : Type 0} (xs : List X) (i j : ℕ) (v w : X) → slice_get (slice_set xs i v) j ≡ Some w → ((i ≡ j) × (v ≡ w)) ⊎ (slice_get xs j ≡ Some w)
read_set [] i j v w e = inr e
read_set (x ∷ xs) zero zero v w e = inl (refl, cc)
read_set (x ∷ xs) zero (suc j) v w e = inr e
read_set (x ∷ xs) (suc i) zero v w e = inr e
read_set (x ∷ xs) (suc i) (suc j) v w e = by (read_set xs i j v w e)
  where
    by : ((i ≡ j) × (v ≡ w)) ⊎ (slice_get xs j ≡ Some w) → ((suc i ≡ suc j) × (v ≡ w)) ⊎ (slice_get (x ∷ xs) (suc j) ≡ Some w)
    by (inl h) = inl (ap suc h.0, h.1)
    by (inr h) = inr h

set_numbered : (tasks : Tasks) (n : ℕ) (x : Option Task) → IsNumbered n x → AreNumbered tasks → AreNumbered (slice_set tasks n x)
set_numbered tasks n x own h i t there = by (read_set tasks n i x (Some t) there)
  where
    by : ((n ≡ i) × (x ≡ Some t)) ⊎ HasTask tasks i t → t.number ≡ i
    by (inl q) = own t q.1 ∙ q.0
    by (inr q) = h i t q

one_numbered : (tasks : Tasks) (n : ℕ) (t : Task) → t.number ≡ n → AreNumbered tasks → AreNumbered (slice_set tasks n (Some t))
one_numbered tasks n t e h = set_numbered tasks n (Some t) (λ u q. let same : t ≡ u = cc in sym (ap (λ (z : Task). z.number) same) ∙ e) h

-- ---- forks

branch_numbered : (bodies : List Body) (f : Variables) (tasks : Tasks) (n : ℕ) → IsNumbered n (branch_task bodies f tasks n)
branch_numbered bodies f tasks n t e = by (slice_get bodies n) e
  where
    by : (b : Option Body) → option_map (λ b. first_task n (turns_at tasks n) (branch_frame b f)) b ≡ Some t → t.number ≡ n
    by None q = absurd cc
    by (Some b) q = let same : first_task n (turns_at tasks n) (branch_frame b f) ≡ t = cc in sym (ap (λ (z : Task). z.number) same)

branches_numbered : (bodies : List Body) (f : Variables) (ns : List ℕ) (tasks : Tasks) → AreNumbered tasks → AreNumbered (with_branches bodies f ns tasks)
branches_numbered bodies f [] tasks h = h
branches_numbered bodies f (n ∷ ns) tasks h = branches_numbered bodies f ns (slice_set tasks n (branch_task bodies f tasks n)) (set_numbered tasks n (branch_task bodies f tasks n) (branch_numbered bodies f tasks n) h)

-- ---- what happens after a turn

gives_numbered : {c : ℕ} {m : Message} {x : End} {a b : Net} → HandsOver c m x a b → AreNumbered a.tasks → AreNumbered b.tasks
gives_numbered (task_gives {n = n} {t = t} {net = net} there w) h = one_numbered net.tasks n _ (h n t there) h
gives_numbered (keyboard_gives e z q) h = h

gets_numbered : {pick : ℕ} {offers : ℕ → _} {c : ℕ} {m : Message} {x : End} {a b : Net} → Gets pick offers c m x a b → AreNumbered a.tasks → AreNumbered b.tasks
gets_numbered (task_gets {n = n} {t = t} {net = net} there w) h = one_numbered net.tasks n _ (h n t there) h
gets_numbered (arm_gets {n = n} {t = t} {net = net} there w q z) h = one_numbered net.tasks n _ (h n t there) h
gets_numbered (screen_gets e) h = h
gets_numbered (error_gets e) h = h

joined_numbered : {pick : ℕ} {x : Communication} {a b : Net} → PassesOn pick a x b → AreNumbered a.tasks → AreNumbered b.tasks
joined_numbered (joined gives gets) h = gets_numbered gets (gives_numbered gives h)

happens_numbered : {bodies : List Body} {n pick : ℕ} {a b : Net} → Happens bodies n pick a b → AreNumbered a.tasks → AreNumbered b.tasks
happens_numbered (meets part q) h = joined_numbered q h
happens_numbered {n = n} (skips {t = t} {a = a} there w q z) h = one_numbered a.tasks n _ (h n t there) h
happens_numbered {bodies = bodies} (forks {t = t} {ns = ns} {a = a} there w) h = branches_numbered bodies t.frame ns a.tasks h
happens_numbered (joins m {t = t} {a = a} there w among done) h = one_numbered a.tasks m _ (h m t there) h

settled_numbered : {bodies : List Body} {n pick : ℕ} {a b : Net} → Settled bodies n pick a b → AreNumbered a.tasks → AreNumbered b.tasks
settled_numbered (settles x) h = happens_numbered x h
settled_numbered (stays none) h = h

-- ---- turns

stops_number : {code : List (Instr ℕ)} {q : ℕ} {a b : Task} → StopsIn by_place code q a b → b.number ≡ a.number
stops_number (stops_here s h) = ap (λ t. t.number) s.comes_to
stops_number (passes_on s h r) = stops_number r ∙ ap (λ t. t.number) s.comes_to

pub turn_number : (body : Body) (a b : Task) → Stopping body a b → b.number ≡ a.number
turn_number body a b h = ap (λ t. t.number) h.counts ∙ stops_number h.stops

turn_numbered : (p : Program) (c : Choice) (a b : Net) → OneTurn p c a b → AreNumbered a.tasks → AreNumbered b.tasks
turn_numbered p c a b o h =
    settled_numbered o.settles (one_numbered a.tasks o.number o.after (turn_number o.body o.before o.after o.stops ∙ h o.number o.before o.has_task) h)

none_numbered : (bs : List Body) (i : ℕ) (t : Task) → HasTask (none_begun bs) i t → ⊥
none_numbered [] i t e = cc
none_numbered (b ∷ bs) zero t e = cc
none_numbered (b ∷ bs) (suc i) t e = none_numbered bs i t e

start_numbered : (bs : List Body) → AreNumbered (first_tasks bs)
start_numbered [] i t e = absurd cc
start_numbered (b ∷ bs) zero t e = let same : first_task 0 0 (zero_frame b.cells b.loops) ≡ t = cc in sym (ap (λ (z : Task). z.number) same)
start_numbered (b ∷ bs) (suc i) t e = absurd (none_numbered bs i t e)

pub all_numbered : (p : Program) (kb : List ℕ) {cs : List Choice} {net : Net} → Replays p kb cs net → AreNumbered net.tasks
all_numbered p kb begins = start_numbered p.bodies
all_numbered p kb (goes_on {c = c} {a = a} {b = b} r e o) = turn_numbered p c a b o (all_numbered p kb r)
