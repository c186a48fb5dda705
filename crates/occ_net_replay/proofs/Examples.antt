-- What happens in small networks.
use Rattle.std.proofs.Common.{◌≡◌, ◌∙◌, refl, sym, ap, subst, Bool, true, false, IsFalse, ℕ, zero, suc, inl, inr, List, [], ◌∷◌, Some, None, arith}
use Rattle.std.specs.Prelude.{slice_set}
use mathlib.Core.Bool.{true≢false}
use Rattle.occ_term.specs.declared.communication.End.{End}
use Rattle.occ_term.specs.System.{communication}
use Rattle.occ_term.specs.declared.message.Message.{Message}
use Rattle.occ_machine.specs.Machine.{Body}
use Rattle.occ_machine.specs.declared.task.Arm.{Arm}
use Rattle.occ_machine.specs.declared.task.Task.{Task}
use Rattle.occ_machine.specs.declared.task.Wait.{Wait}
use Rattle.occ_machine.specs.declared.task.Wait.TheVariants as W
use Rattle.occ_net_replay.specs.Examples.{ChoiceRows, ClosedRows, EndingRows, ForkRows, LateOfferRows, LeadsTo, ListenRows, MeetingRows, NotedRows, FirstWithPriority, SkipRows, StopRows, TurnRows, apart, arm, bodies, branches, choosing, closed, net_of, task, waiting, whole_number}
use Rattle.occ_net_replay.specs.Replay.{Net, Tasks, HasTask, AreDone, is_done, made_ready, took_arm, arm_chosen, standing, Gets, joined, Settled, settles, stays, Happens, meets, skips, forks, joins, task_gives, keyboard_gives, task_gets, arm_gets, screen_gets, error_gets, one_more}
use Rattle.occ_net_replay.proofs.Faults.{part_waits}
use Rattle.occ_net_replay.proofs.Runs.{one_more_at}

pub turn_rows : TurnRows
turn_rows = (refl, refl, refl, refl)

pub noted_rows : NotedRows
noted_rows = (refl, refl, refl, refl)

pub ending_rows : EndingRows
ending_rows = (refl, refl, refl, refl)

pub stop_rows : StopRows
stop_rows = (refl, refl, refl, refl, refl)

-- ---- what leads where

leads_by : {bs : List Body} {n pick : ℕ} {a : Net} {c : ℕ} {x y : End} {m : Message} (b : Net)
    → Settled bs n pick a b → b.trace ≡ communication c x y m ∷ [] → b.output ≡ one_more (λ i. []) c m → b.input ≡ one_more (λ i. []) c m
    → LeadsTo bs n pick a b.tasks (communication c x y m ∷ [])
leads_by {c = c} {x = x} {y = y} {m = m} b s t o i =
    record {
      net = b;
      settles = s;
      tasks_are = refl;
      trace = t;
      output = λ d. ap (λ f. f d) o ∙ one_more_at (λ e. []) c m x y d;
      input = λ d. ap (λ f. f d) i ∙ one_more_at (λ e. []) c m x y d;
    }

-- the wait of a process whose task is known
waits_at : {t u : Task} {w : Wait} → Some (Some t) ≡ Some (Some u) → u.wait ≡ w → t.wait ≡ w
waits_at {t = t} {u = u} e f = let same : t ≡ u = cc in ap (λ z. z.wait) same ∙ f

-- ---- communications

-- after the offer of one was taken
abbrev offer_gone : Task → Tasks
offer_gone t = slice_set apart 0 (Some (made_ready t))

gets_nothing : {m v : Message} {c : ℕ} {o : ℕ → Bool} {y : End} {a b : Net} (t : Task) → W.Offers 3 v ≡ W.Offers c m → a.tasks ≡ offer_gone t → Gets 0 o c m y a b → ⊥
gets_nothing {c = c} t e s (task_gets {n = n} {t = u} h w) = by n (subst (λ ts. HasTask ts n u) s h)
  where
    by : (n : ℕ) → HasTask (offer_gone t) n u → ⊥
    by zero k = let q = waits_at k w in cc
    by (suc zero) k = let q = waits_at k w in let r : 3 ≡ c = cc in let z : 4 ≡ c = cc in omega (arith, r, z)
    by (suc (suc n)) k = cc
gets_nothing t e s (arm_gets {n = n} {t = u} h w q f) = by n (subst (λ ts. HasTask ts n u) s h)
  where
    by : (n : ℕ) → HasTask (offer_gone t) n u → ⊥
    by zero k = let q = waits_at k w in cc
    by (suc zero) k = let q = waits_at k w in cc
    by (suc (suc n)) k = cc
gets_nothing {c = c} t e s (screen_gets f) = let r : 3 ≡ c = cc in omega (arith, r, f)
gets_nothing {c = c} t e s (error_gets f) = let r : 3 ≡ c = cc in omega (arith, r, f)

unmet : (b : Net) → Happens [] 0 0 (net_of [] apart) b → ⊥
unmet b (meets part (joined (task_gives {n = zero} {t = t} h w) g)) = gets_nothing t (waits_at h w) refl g
unmet b (meets part (joined (task_gives {n = suc zero} h w) g)) = let q = waits_at h w in cc
unmet b (meets part (joined (task_gives {n = suc (suc n)} h w) g)) = cc
unmet b (meets part (joined (keyboard_gives e f i) g)) = cc
unmet b (skips h w q e) = let r = waits_at h w in cc
unmet b (forks h w) = let r = waits_at h w in cc
unmet b (joins zero h w i d) = let r = waits_at h w in cc
unmet b (joins (suc zero) h w i d) = let r = waits_at h w in cc
unmet b (joins (suc (suc m)) h w i d) = cc

pub meeting_rows : MeetingRows
meeting_rows = (
  leads_by _ (settles (meets (inl refl) (joined (task_gives {n = 0} refl refl) (task_gets {n = 1} refl refl)))) refl refl refl,
  leads_by _ (settles (meets (inr refl) (joined (task_gives {n = 0} refl refl) (task_gets {n = 1} refl refl)))) refl refl refl,
  record { net = _; settles = stays unmet; tasks_are = refl; trace = refl; output = λ c. refl; input = λ c. refl },
  leads_by _ (settles (meets (inr refl) (joined (keyboard_gives refl refl refl) (task_gets {n = 0} refl refl)))) refl refl refl,
  leads_by _ (settles (meets (inl refl) (joined (task_gives {n = 0} refl refl) (screen_gets refl)))) refl refl refl,
)

-- ---- choices

pub choice_rows : ChoiceRows
choice_rows = (
  λ pick. leads_by _ (settles (meets (inr refl) (joined (task_gives {n = 0} refl refl) (arm_gets {n = 2} refl refl refl refl)))) refl refl refl,
  leads_by _ (settles (meets (inr refl) (joined (task_gives {n = 0} refl refl) (arm_gets {n = 2} refl refl refl refl)))) refl refl refl,
  leads_by _ (settles (meets (inr refl) (joined (task_gives {n = 1} refl refl) (arm_gets {n = 2} refl refl refl refl)))) refl refl refl,
  leads_by _ (settles (meets (inr refl) (joined (task_gives {n = 0} refl refl) (arm_gets {n = 2} refl refl refl refl)))) refl refl refl,
  record { net = _; settles = settles (skips refl refl refl refl); tasks_are = refl; trace = refl; output = λ c. refl; input = λ c. refl },
)

-- a closed arm is not taken
closed_stays : (b : Net) → Happens [] 1 0 (net_of [] closed) b → ⊥
closed_stays b (meets part (joined {c = c} (task_gives {n = zero} {t = t} h w) (arm_gets {n = n} {t = u} {pri = pri} {arms = xs} {a = x} g v q f))) = by n g
  where
    at_four : W.Chooses false (arm 10 (Some 4) ∷ []) ≡ W.Chooses pri xs → ⊥
    at_four e =
        let same : pri ≡ false = cc in
        let list : xs ≡ arm 10 (Some 4) ∷ [] = cc in
        let r : None ≡ Some x = sym (ap (λ l. arm_chosen false 0 (standing (net_of [] closed)) l) list) ∙ sym (ap (λ z. arm_chosen z 0 (standing (net_of [] closed)) xs) same) ∙ q in
        cc

    by : (n : ℕ) → HasTask (slice_set closed 0 (Some (made_ready t))) n u → ⊥
    by zero k = let r = waits_at k v in cc
    by (suc zero) k = at_four (waits_at k v)
    by (suc (suc n)) k = cc
closed_stays b (meets part (joined {c = c} (task_gives {n = zero} {t = t} h w) (task_gets {n = n} {t = u} g v))) = by n g
  where
    by : (n : ℕ) → HasTask (slice_set closed 0 (Some (made_ready t))) n u → ⊥
    by zero k = let r = waits_at k v in cc
    by (suc zero) k = let r = waits_at k v in cc
    by (suc (suc n)) k = cc
closed_stays b (meets part (joined {c = c} (task_gives {n = zero} h w) (screen_gets f))) = let r = waits_at h w in let z : 3 ≡ c = cc in omega (arith, z, f)
closed_stays b (meets part (joined {c = c} (task_gives {n = zero} h w) (error_gets f))) = let r = waits_at h w in let z : 3 ≡ c = cc in omega (arith, z, f)
closed_stays b (meets part (joined (task_gives {n = suc zero} h w) g)) = let q = waits_at h w in cc
closed_stays b (meets part (joined (task_gives {n = suc (suc n)} h w) g)) = cc
closed_stays b (meets part (joined (keyboard_gives e f i) g)) = cc
closed_stays b (skips {pri = pri} {arms = xs} {arm = x} h w q e) =
    let k = waits_at h w in
    let same : pri ≡ false = cc in
    let list : xs ≡ arm 10 (Some 4) ∷ [] = cc in
    let r : None ≡ Some x = sym (ap (λ l. arm_chosen false 0 (standing (net_of [] closed)) l) list) ∙ sym (ap (λ z. arm_chosen z 0 (standing (net_of [] closed)) xs) same) ∙ q in
    cc
closed_stays b (forks h w) = let r = waits_at h w in cc
closed_stays b (joins zero h w i d) = let r = waits_at h w in cc
closed_stays b (joins (suc zero) h w i d) = let r = waits_at h w in cc
closed_stays b (joins (suc (suc m)) h w i d) = cc

pub closed_rows : ClosedRows
closed_rows = (
  λ pick. leads_by _ (settles (meets (inr refl) (joined (task_gives {n = 1} refl refl) (arm_gets {n = 2} refl refl refl refl)))) refl refl refl,
  leads_by _ (settles (meets (inr refl) (joined (task_gives {n = 0} refl refl) (arm_gets {n = 2} refl refl refl refl)))) refl refl refl,
  leads_by _ (settles (meets (inr refl) (joined (task_gives {n = 1} refl refl) (arm_gets {n = 2} refl refl refl refl)))) refl refl refl,
  record { net = _; settles = stays closed_stays; tasks_are = refl; trace = refl; output = λ c. refl; input = λ c. refl },
)

pub skip_rows : SkipRows
skip_rows = (
  λ pick. leads_by _ (settles (meets (inr refl) (joined (task_gives {n = 0} refl refl) (arm_gets {n = 1} refl refl refl refl)))) refl refl refl,
  λ pick. record { net = _; settles = settles (skips refl refl refl refl); tasks_are = refl; trace = refl; output = λ c. refl; input = λ c. refl },
  leads_by _ (settles (meets (inr refl) (joined (task_gives {n = 0} refl refl) (arm_gets {n = 1} refl refl refl refl)))) refl refl refl,
  record { net = _; settles = settles (skips refl refl refl refl); tasks_are = refl; trace = refl; output = λ c. refl; input = λ c. refl },
)

pub late_offer_rows : LateOfferRows
late_offer_rows = (
  leads_by _ (settles (meets (inl refl) (joined (task_gives {n = 0} refl refl) (arm_gets {n = 1} refl refl refl refl)))) refl refl refl,
  leads_by _ (settles (meets (inl refl) (joined (task_gives {n = 0} refl refl) (arm_gets {n = 1} refl refl refl refl)))) refl refl refl,
  leads_by _ (settles (meets (inl refl) (joined (task_gives {n = 0} refl refl) (arm_gets {n = 1} refl refl refl refl)))) refl refl refl,
  λ pick. leads_by _ (settles (meets (inl refl) (joined (task_gives {n = 0} refl refl) (arm_gets {n = 1} refl refl refl refl)))) refl refl refl,
  leads_by _ (settles (meets (inl refl) (joined (task_gives {n = 0} refl refl) (arm_gets {n = 1} refl refl refl refl)))) refl refl refl,
  leads_by _ (settles (meets (inr refl) (joined (keyboard_gives refl refl refl) (arm_gets {n = 0} refl refl refl refl)))) refl refl refl,
)

pub listen_rows : ListenRows
listen_rows = (refl, refl, refl, refl)

abbrev both_offer : Net
both_offer = net_of [] (choosing true)

abbrev given : ℕ → Task → Tasks
given n t = slice_set (choosing true) n (Some (made_ready t))

-- the first arm, whatever the pick
first_arm : (pick : ℕ) (pri : Bool) (arms : List Arm) (a : Arm) → W.Chooses true (arm 10 (Some 3) ∷ arm 20 (Some 4) ∷ []) ≡ W.Chooses pri arms → arm_chosen pri pick (standing both_offer) arms ≡ Some a → a ≡ arm 10 (Some 3)
first_arm pick pri arms a e q =
    let same : pri ≡ true = cc in
    let list : arms ≡ arm 10 (Some 3) ∷ arm 20 (Some 4) ∷ [] = cc in
    let r : Some (arm 10 (Some 3)) ≡ Some a = sym (ap (λ xs. arm_chosen true pick (standing both_offer) xs) list) ∙ sym (ap (λ b. arm_chosen b pick (standing both_offer) arms) same) ∙ q in
    cc

abbrev with_wait : Wait → Task
with_wait w = record { number = 2; turns = 2; pc = 6; frame = record { cells = []; values = []; left = [] }; wait = w }

abbrev two_arms : List Arm
two_arms = arm 10 (Some 3) ∷ arm 20 (Some 4) ∷ []

-- after the first offer was taken, the chooser alone can take its message
after_first : {pick c : ℕ} {m v : Message} {y : End} {a b : Net} (t : Task) → W.Offers 3 v ≡ W.Offers c m → a.tasks ≡ given 0 t → Gets pick (standing both_offer) c m y a b → b.tasks ≡ slice_set (given 0 t) 2 (Some (with_wait (W.Took 10 [] (Some m))))
after_first t e s (task_gets {n = n} {t = u} h w) = absurd (by n (subst (λ ts. HasTask ts n u) s h))
  where
    by : (n : ℕ) → HasTask (given 0 t) n u → ⊥
    by zero k = let q = waits_at k w in cc
    by (suc zero) k = let q = waits_at k w in cc
    by (suc (suc zero)) k = let q = waits_at k w in cc
    by (suc (suc (suc n))) k = cc
after_first {pick = pick} {m = m} {a = a} t e s (arm_gets {n = n} {t = u} {pri = pri} {arms = xs} {a = x} h w q f) = by n (subst (λ ts. HasTask ts n u) s h)
  where
    by : (n : ℕ) → HasTask (given 0 t) n u → slice_set a.tasks n (Some (took_arm u x (Some m))) ≡ slice_set (given 0 t) 2 (Some (with_wait (W.Took 10 [] (Some m))))
    by zero k = let r = waits_at k w in absurd cc
    by (suc zero) k = let r = waits_at k w in absurd cc
    by (suc (suc zero)) k =
        let same : with_wait (W.Chooses true two_arms) ≡ u = cc in
        let r = first_arm pick pri xs x (waits_at k w) q in
        ap (λ ts. slice_set ts 2 (Some (took_arm u x (Some m)))) s
        ∙ ap (λ z. slice_set (given 0 t) 2 (Some (took_arm z x (Some m)))) (sym same)
        ∙ ap (λ z. slice_set (given 0 t) 2 (Some (took_arm (with_wait (W.Chooses true two_arms)) z (Some m)))) r
    by (suc (suc (suc n))) k = absurd cc
after_first {c = c} t e s (screen_gets f) = let r : 3 ≡ c = cc in absurd (omega (arith, r, f))
after_first {c = c} t e s (error_gets f) = let r : 3 ≡ c = cc in absurd (omega (arith, r, f))

-- after the second one was taken, none can
after_second : {pick c : ℕ} {m v : Message} {y : End} {a b : Net} (t : Task) → W.Offers 4 v ≡ W.Offers c m → a.tasks ≡ given 1 t → Gets pick (standing both_offer) c m y a b → ⊥
after_second t e s (task_gets {n = n} {t = u} h w) = by n (subst (λ ts. HasTask ts n u) s h)
  where
    by : (n : ℕ) → HasTask (given 1 t) n u → ⊥
    by zero k = let q = waits_at k w in cc
    by (suc zero) k = let q = waits_at k w in cc
    by (suc (suc zero)) k = let q = waits_at k w in cc
    by (suc (suc (suc n))) k = cc
after_second {pick = pick} {c = c} t e s (arm_gets {n = n} {t = u} {pri = pri} {arms = xs} {a = x} h w q f) = by n (subst (λ ts. HasTask ts n u) s h)
  where
    by : (n : ℕ) → HasTask (given 1 t) n u → ⊥
    by zero k = let r = waits_at k w in cc
    by (suc zero) k = let r = waits_at k w in cc
    by (suc (suc zero)) k =
        let r = first_arm pick pri xs x (waits_at k w) q in
        let z : Some 3 ≡ Some c = sym (ap (λ z. z.chan) r) ∙ f in
        let i : 3 ≡ c = cc in
        let j : 4 ≡ c = cc in
        omega (arith, i, j)
    by (suc (suc (suc n))) k = cc
after_second {c = c} t e s (screen_gets f) = let r : 4 ≡ c = cc in omega (arith, r, f)
after_second {c = c} t e s (error_gets f) = let r : 4 ≡ c = cc in omega (arith, r, f)

pub priority : FirstWithPriority
priority pick b (stays none) = absurd (none _ (meets (inr refl) (joined (task_gives {n = 0} refl refl) (arm_gets {n = 2} refl refl refl refl))))
priority pick b (settles (meets part (joined {c = c} {m = m} (task_gives {n = zero} {t = t} h w) g))) =
    let e = waits_at h w in
    let sent : W.Offers 3 (whole_number 5) ≡ W.Offers c m = e in
    let is : m ≡ whole_number 5 = cc in
    after_first t e refl g
    ∙ ap (λ z. slice_set (given 0 t) 2 (Some (with_wait (W.Took 10 [] (Some z))))) is
    ∙ ap (λ z. slice_set (given 0 z) 2 (Some (with_wait (W.Took 10 [] (Some (whole_number 5)))))) (its_task h)
  where
    its_task : Some (task 0 (W.Offers 3 (whole_number 5))) ≡ Some (Some t) → t ≡ record { number = 0; turns = 2; pc = 6; frame = record { cells = []; values = []; left = [] }; wait = W.Offers 3 (whole_number 5) }
    its_task k = cc
priority pick b (settles (meets part (joined (task_gives {n = suc zero} {t = t} h w) g))) = absurd (after_second t (waits_at h w) refl g)
priority pick b (settles (meets part (joined (task_gives {n = suc (suc zero)} h w) g))) = let q = waits_at h w in absurd cc
priority pick b (settles (meets part (joined (task_gives {n = suc (suc (suc n))} h w) g))) = absurd cc
priority pick b (settles (meets part (joined (keyboard_gives e f i) g))) = absurd cc
priority pick b (settles (skips {pri = pri} {arms = xs} {arm = x} h w q e)) =
    let r = first_arm pick pri xs x (waits_at h w) q in
    let z : Some 3 ≡ None = sym (ap (λ z. z.chan) r) ∙ e in
    absurd cc
priority pick b (settles (forks h w)) = let r = waits_at h w in absurd cc
priority pick b (settles (joins zero h w i d)) = let r = waits_at h w in absurd cc
priority pick b (settles (joins (suc zero) h w i d)) = let r = waits_at h w in absurd cc
priority pick b (settles (joins (suc (suc zero)) h w i d)) = let r = waits_at h w in absurd cc
priority pick b (settles (joins (suc (suc (suc m))) h w i d)) = absurd cc

-- ---- forks and joins

half_done : (w : Wait) → IsFalse (is_done w) → ((ns : List ℕ) → w ≡ W.Joins ns → ⊥) → (m : ℕ) (t : Task) (ns : List ℕ) → HasTask (waiting ∷ branches W.Done w) m t → t.wait ≡ W.Joins ns → AreDone (waiting ∷ branches W.Done w) ns → ⊥
half_done w f g zero t ns h e d =
    let q = waits_at h e in
    let list : (1 ∷ 2 ∷ []) ≡ ns = cc in
    let all : AreDone (waiting ∷ branches W.Done w) (1 ∷ 2 ∷ []) = subst (AreDone (waiting ∷ branches W.Done w)) (sym list) d in
    true≢false (sym all.1.0 ∙ f)
half_done w f g (suc zero) t ns h e d = let q = waits_at h e in cc
half_done w f g (suc (suc zero)) t ns h e d = g ns (waits_at h e)
half_done w f g (suc (suc (suc m))) t ns h e d = cc

first_alone : (b : Net) → Happens bodies 1 0 (net_of [] (waiting ∷ branches W.Done W.Ready)) b → ⊥
first_alone b (meets part x) = true≢false (part_waits (net_of [] (waiting ∷ branches W.Done W.Ready)) 1 _ refl x part)
first_alone b (skips h w q e) = let r = waits_at h w in cc
first_alone b (forks h w) = let r = waits_at h w in cc
first_alone b (joins m {t = t} {ns = ns} h w i d) = half_done W.Ready refl (λ ms e. cc) m t ns h w d

halted_beside : (b : Net) → Happens bodies 2 0 (net_of [] (waiting ∷ branches W.Done W.Halted)) b → ⊥
halted_beside b (meets part x) = true≢false (part_waits (net_of [] (waiting ∷ branches W.Done W.Halted)) 2 _ refl x part)
halted_beside b (skips h w q e) = let r = waits_at h w in cc
halted_beside b (forks h w) = let r = waits_at h w in cc
halted_beside b (joins m {t = t} {ns = ns} h w i d) = half_done W.Halted refl (λ ms e. cc) m t ns h w d

pub fork_rows : ForkRows
fork_rows = (
  record { net = _; settles = settles (forks refl refl); tasks_are = refl; trace = refl; output = λ c. refl; input = λ c. refl },
  record { net = _; settles = settles (joins 0 refl refl refl (refl, (refl, tt))); tasks_are = refl; trace = refl; output = λ c. refl; input = λ c. refl },
  record { net = _; settles = stays first_alone; tasks_are = refl; trace = refl; output = λ c. refl; input = λ c. refl },
  record { net = _; settles = stays halted_beside; tasks_are = refl; trace = refl; output = λ c. refl; input = λ c. refl },
)
