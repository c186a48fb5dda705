-- One task is changed: what is kept beside the tasks stays true, or is changed as well.
use Rattle.std.proofs.Common.{◌≡◌, ◌∙◌, refl, sym, ap, subst, Bool, true, false, IsTrue, ℕ, zero, suc, ◌+◌, ◌<◌, ◌⊎◌, inl, inr, List, [], ◌∷◌, Option, Some, length, arith}
use Rattle.std.specs.Prelude.{slice_get, slice_set, if◌then◌else◌}
use Rattle.std.specs.Option.{option_map_or}
use mathlib.Core.Bool.{true≢false}
use Rattle.occ_term.specs.declared.fault.Fault.{Fault}
use Rattle.occ_machine.specs.declared.task.Task.{Task}
use Rattle.occ_machine.specs.declared.task.Wait.{Wait}
use Rattle.occ_machine.specs.declared.task.Wait.TheVariants as W
use Rattle.occ_net_replay.specs.Replay.{Tasks, HasTask, ended, is_done}
use Rattle.occ_net_replay.proofs.Tables.{set_same, set_other, set_back, same_or_not, task_once}
use Rattle.occ_net_tables.specs.Holding.{Stands, IsTable, is_over, undone, AreCounted, IsOrdinary, AreTrue}

-- ---- lists that are set

pub set_twice : {X : Type 0} (xs : List X) (i : ℕ) (a b : X) → slice_set (slice_set xs i a) i b ≡ slice_set xs i b
set_twice [] i a b = refl
set_twice (x ∷ xs) zero a b = refl
set_twice (x ∷ xs) (suc i) a b = ap (λ l. x ∷ l) (set_twice xs i a b)

pub set_swap : {X : Type 0} (xs : List X) (i j : ℕ) (a b : X) → (i ≡ j → ⊥) → slice_set (slice_set xs i a) j b ≡ slice_set (slice_set xs j b) i a
set_swap [] i j a b n = refl
set_swap (x ∷ xs) zero zero a b n = absurd (n refl)
set_swap (x ∷ xs) zero (suc j) a b n = refl
set_swap (x ∷ xs) (suc i) zero a b n = refl
set_swap (x ∷ xs) (suc i) (suc j) a b n = ap (λ l. x ∷ l) (set_swap xs i j a b (λ e. n (ap suc e)))

pub set_length : {X : Type 0} (xs : List X) (i : ℕ) (a : X) → length (slice_set xs i a) ≡ length xs
set_length [] i a = refl
set_length (x ∷ xs) zero a = refl
set_length (x ∷ xs) (suc i) a = ap suc (set_length xs i a)

pub get_some : {X : Type 0} (xs : List X) (i : ℕ) → i < length xs → (x : X) × (slice_get xs i ≡ Some x)
get_some [] i h = absurd (omega (arith, h))
get_some (x ∷ xs) zero h = (x, refl)
get_some (x ∷ xs) (suc i) h = get_some xs i (omega (arith, h))

pub set_within : {X : Type 0} (xs : List X) (i : ℕ) (v : X) → i < length xs → slice_get (slice_set xs i v) i ≡ Some v
set_within xs i v h = let x = get_some xs i h in set_same xs i x.0 v x.1

-- ---- tests

pub either_way : (b : Bool) → (b ≡ true) ⊎ (b ≡ false)
either_way true = inl refl
either_way false = inr refl

pub not_both : {b : Bool} → b ≡ true → b ≡ false → ⊥
not_both e f = true≢false (sym e ∙ f)

-- ---- tables

pub record SameAs (tasks new : Tasks) (i : ℕ) (t : Task) : Type 0 where
  pub there : HasTask new i t
  pub other : (j : ℕ) → (j ≡ i → ⊥) → slice_get new j ≡ slice_get tasks j

module _ (tasks : Tasks) (i : ℕ) (t new : Task) (there : HasTask tasks i t) (w v : Wait) (was : t.wait ≡ w) (is : new.wait ≡ v) where
  abbrev after : Tasks
  after = slice_set tasks i (Some new)

  set_there : HasTask after i new
  set_there = set_same tasks i (Some t) (Some new) there

  pub table_kept : (says : Wait → ℕ → Bool) → ((c : ℕ) → says w c ≡ false) → ((c : ℕ) → says v c ≡ false) → (table : List (Option ℕ)) → IsTable says tasks table → IsTable says after table
  table_kept says none silent table h = record { sound = sound; whole = whole }
    where
      sound : (c j : ℕ) → slice_get table c ≡ Some (Some j) → Stands says after c j
      sound c j e = by (h.sound c j e) (same_or_not j i)
        where
          by : Stands says tasks c j → (j ≡ i) ⊎ (j ≡ i → ⊥) → Stands says after c j
          by x (inl q) = let same : x.task ≡ t = task_once tasks i (subst (λ z. HasTask tasks z x.task) q x.there) there in absurd (not_both (sym (ap (λ z. says z c) (ap (λ z. z.wait) same ∙ was)) ∙ x.is) (none c))
          by x (inr q) = record { task = x.task; there = set_other tasks i j (Some new) q ∙ x.there; is = x.is }

      whole : (c j : ℕ) (u : Task) → HasTask after j u → IsTrue (says u.wait c) → slice_get table c ≡ Some (Some j)
      whole c j u e s = by (set_back tasks i j there e)
        where
          by : ((j ≡ i) × (u ≡ new)) ⊎ ((j ≡ i → ⊥) × HasTask tasks j u) → slice_get table c ≡ Some (Some j)
          by (inl q) = absurd (not_both (sym (ap (λ z. says z c) (ap (λ z. z.wait) q.1 ∙ is)) ∙ s) (silent c))
          by (inr q) = h.whole c j u q.1 s

  pub table_enters : (says : Wait → ℕ → Bool) (keys : ℕ → Bool) → ((c : ℕ) → says w c ≡ false) → ((c : ℕ) → says v c ≡ keys c) → (table next : List (Option ℕ)) → ((c j : ℕ) (u : Task) → IsTrue (keys c) → HasTask tasks j u → IsTrue (says u.wait c) → ⊥) → ((c : ℕ) → IsTrue (keys c) → slice_get next c ≡ Some (Some i)) → ((c : ℕ) → keys c ≡ false → slice_get next c ≡ slice_get table c) → IsTable says tasks table → IsTable says after next
  table_enters says keys none all table next alone here other h = record { sound = sound; whole = whole }
    where
      mine : (c : ℕ) → IsTrue (keys c) → IsTrue (says new.wait c)
      mine c k = ap (λ z. says z c) is ∙ all c ∙ k

      sound : (c j : ℕ) → slice_get next c ≡ Some (Some j) → Stands says after c j
      sound c j e = by (either_way (keys c)) (same_or_not j i)
        where
          old : keys c ≡ false → Stands says tasks c j
          old k = h.sound c j (sym (other c k) ∙ e)

          by : (keys c ≡ true) ⊎ (keys c ≡ false) → (j ≡ i) ⊎ (j ≡ i → ⊥) → Stands says after c j
          by (inl k) q = let same : j ≡ i = (let r = sym e ∙ here c k in cc) in record { task = new; there = subst (λ z. HasTask after z new) (sym same) set_there; is = mine c k }
          by (inr k) (inl q) = let x = old k in let same : x.task ≡ t = task_once tasks i (subst (λ z. HasTask tasks z x.task) q x.there) there in absurd (not_both (sym (ap (λ z. says z c) (ap (λ z. z.wait) same ∙ was)) ∙ x.is) (none c))
          by (inr k) (inr q) = let x = old k in record { task = x.task; there = set_other tasks i j (Some new) q ∙ x.there; is = x.is }

      whole : (c j : ℕ) (u : Task) → HasTask after j u → IsTrue (says u.wait c) → slice_get next c ≡ Some (Some j)
      whole c j u e s = by (set_back tasks i j there e) (either_way (keys c))
        where
          by : ((j ≡ i) × (u ≡ new)) ⊎ ((j ≡ i → ⊥) × HasTask tasks j u) → (keys c ≡ true) ⊎ (keys c ≡ false) → slice_get next c ≡ Some (Some j)
          by (inl q) (inl k) = here c k ∙ ap (λ z. Some (Some z)) (sym q.0)
          by (inl q) (inr k) = absurd (not_both (sym (ap (λ z. says z c) (ap (λ z. z.wait) q.1 ∙ is) ∙ all c) ∙ s) k)
          by (inr q) (inl k) = absurd (alone c j u k q.1 s)
          by (inr q) (inr k) = other c k ∙ h.whole c j u q.1 s

  pub table_leaves : (says : Wait → ℕ → Bool) (keys : ℕ → Bool) → ((c : ℕ) → says w c ≡ keys c) → ((c : ℕ) → says v c ≡ false) → (table next : List (Option ℕ)) → ((c j : ℕ) → IsTrue (keys c) → slice_get next c ≡ Some (Some j) → ⊥) → ((c : ℕ) → keys c ≡ false → slice_get next c ≡ slice_get table c) → IsTable says tasks table → IsTable says after next
  table_leaves says keys all silent table next gone other h = record { sound = sound; whole = whole }
    where
      sound : (c j : ℕ) → slice_get next c ≡ Some (Some j) → Stands says after c j
      sound c j e = by (either_way (keys c)) (same_or_not j i)
        where
          old : keys c ≡ false → Stands says tasks c j
          old k = h.sound c j (sym (other c k) ∙ e)

          by : (keys c ≡ true) ⊎ (keys c ≡ false) → (j ≡ i) ⊎ (j ≡ i → ⊥) → Stands says after c j
          by (inl k) q = absurd (gone c j k e)
          by (inr k) (inl q) = let x = old k in let same : x.task ≡ t = task_once tasks i (subst (λ z. HasTask tasks z x.task) q x.there) there in absurd (not_both (sym (ap (λ z. says z c) (ap (λ z. z.wait) same ∙ was) ∙ all c) ∙ x.is) k)
          by (inr k) (inr q) = let x = old k in record { task = x.task; there = set_other tasks i j (Some new) q ∙ x.there; is = x.is }

      whole : (c j : ℕ) (u : Task) → HasTask after j u → IsTrue (says u.wait c) → slice_get next c ≡ Some (Some j)
      whole c j u e s = by (set_back tasks i j there e) (either_way (keys c))
        where
          by : ((j ≡ i) × (u ≡ new)) ⊎ ((j ≡ i → ⊥) × HasTask tasks j u) → (keys c ≡ true) ⊎ (keys c ≡ false) → slice_get next c ≡ Some (Some j)
          by (inl q) k = absurd (not_both (sym (ap (λ z. says z c) (ap (λ z. z.wait) q.1 ∙ is)) ∙ s) (silent c))
          by (inr q) (inl k) =
              let one = h.whole c i t there (ap (λ z. says z c) was ∙ all c ∙ k) in
              let two = h.whole c j u q.1 s in
              absurd (q.0 (let r = sym two ∙ one in cc))
          by (inr q) (inr k) = other c k ∙ h.whole c j u q.1 s

  -- ---- counts

  over_same : is_done v ≡ is_done w → (j : ℕ) → is_over after j ≡ is_over tasks j
  over_same e j = by (same_or_not j i)
    where
      by : (j ≡ i) ⊎ (j ≡ i → ⊥) → is_over after j ≡ is_over tasks j
      by (inl q) =
          ap (is_over after) q ∙ ap (λ z. option_map_or ended z false) set_there ∙ ap is_done is ∙ e ∙ sym (ap is_done was)
          ∙ sym (ap (λ z. option_map_or ended z false) there) ∙ sym (ap (is_over tasks) q)
      by (inr q) = ap (λ z. option_map_or ended z false) (set_other tasks i j (Some new) q)

  pub counts_kept : is_done v ≡ is_done w → ((ns : List ℕ) → v ≡ W.Joins ns → ⊥) → (counts : List ℕ) → AreCounted tasks counts → AreCounted after counts
  counts_kept e none counts h m u ns g q = by (set_back tasks i m there g)
    where
      same : (ns : List ℕ) → undone tasks ns ≡ undone after ns
      same [] = refl
      same (n ∷ ns) = ap (λ b. (if b then 0 else 1) + undone tasks ns) (sym (over_same e n)) ∙ ap (λ k. (if is_over after n then 0 else 1) + k) (same ns)

      by : ((m ≡ i) × (u ≡ new)) ⊎ ((m ≡ i → ⊥) × HasTask tasks m u) → slice_get counts m ≡ Some (undone after ns)
      by (inl x) = absurd (none ns (sym is ∙ ap (λ z. z.wait) (sym x.1) ∙ q))
      by (inr x) = h m u ns x.1 q ∙ ap Some (same ns)

  -- ---- other waits

  pub ordinary_again : IsOrdinary v → ((j : ℕ) (u : Task) → HasTask tasks j u → IsOrdinary u.wait) → (j : ℕ) (u : Task) → HasTask after j u → IsOrdinary u.wait
  ordinary_again o h j u g = by (set_back tasks i j there g)
    where
      by : ((j ≡ i) × (u ≡ new)) ⊎ ((j ≡ i → ⊥) × HasTask tasks j u) → IsOrdinary u.wait
      by (inl x) = subst IsOrdinary (sym (ap (λ z. z.wait) x.1 ∙ is)) o
      by (inr x) = h j u x.1

-- ---- the same by equations

pub true_as : {tasks tasks' : Tasks} {ready ready' : List ℕ} {offering offering' awaiting awaiting' parents parents' : List (Option ℕ)} {unfinished unfinished' : List ℕ} {fault fault' first : Option Fault} → tasks' ≡ tasks → ready' ≡ ready → offering' ≡ offering → awaiting' ≡ awaiting → parents' ≡ parents → unfinished' ≡ unfinished → fault' ≡ fault → AreTrue tasks ready offering awaiting parents unfinished fault first → AreTrue tasks' ready' offering' awaiting' parents' unfinished' fault' first
true_as {tasks = t} {tasks' = t'} {ready = r} {ready' = r'} {offering = o} {offering' = o'} {awaiting = a} {awaiting' = a'} {parents = p} {parents' = p'} {unfinished = u} {unfinished' = u'} {fault = f} {fault' = f'} {first = first} e1 e2 e3 e4 e5 e6 e7 h =
    subst (λ z. AreTrue z r' o' a' p' u' f' first) (sym e1) (subst (λ z. AreTrue t z o' a' p' u' f' first) (sym e2) (subst (λ z. AreTrue t r z a' p' u' f' first) (sym e3) (subst (λ z. AreTrue t r o z p' u' f' first) (sym e4) (subst (λ z. AreTrue t r o a z u' f' first) (sym e5) (subst (λ z. AreTrue t r o a p z f' first) (sym e6) (subst (λ z. AreTrue t r o a p u z first) (sym e7) h))))))
