-- Tables of tasks, and the rule of ready arms over a list.
use Rattle.std.proofs.Common.{◌≡◌, ◌∙◌, refl, sym, ap, subst, Bool, true, false, IsTrue, ℕ, zero, suc, ◌+◌, ◌<◌, ◌%◌, ◌⊎◌, inl, inr, List, [], ◌∷◌, Option, Some, None, length, arith}
use Rattle.std.specs.Prelude.{slice_get, slice_set, if◌then◌else◌, ◌||◌, nat_eq}
use Rattle.std.proofs.lemmas.Bool.Decides.{eqb_tells}
use Rattle.std.proofs.lemmas.Nat.{mod_below}
use mathlib.Core.Bool.{true≢false}
use Rattle.occ_term.specs.Selecting.{is_ready_on, ready_among, chosen_of}
use Rattle.occ_machine.specs.declared.task.Task.{Task}
use Rattle.occ_net_replay.specs.Replay.{Tasks, HasTask, goes, may_go, ready_from, offers_among, offers_on}
use Rattle.occ_net_replay.specs.Moments.{NoneReady}

pub set_same : {X : Type 0} (xs : List X) (i : ℕ) (x v : X) → slice_get xs i ≡ Some x → slice_get (slice_set xs i v) i ≡ Some v
set_same [] i x v e = absurd cc
set_same (y ∷ xs) zero x v e = refl
set_same (y ∷ xs) (suc i) x v e = set_same xs i x v e

pub set_other : {X : Type 0} (xs : List X) (i j : ℕ) (v : X) → (j ≡ i → ⊥) → slice_get (slice_set xs i v) j ≡ slice_get xs j
set_other [] i j v n = refl
set_other (y ∷ xs) zero zero v n = absurd (n refl)
set_other (y ∷ xs) zero (suc j) v n = refl
set_other (y ∷ xs) (suc i) zero v n = refl
set_other (y ∷ xs) (suc i) (suc j) v n = set_other xs i j v (λ e. n (ap suc e))

pub same_or_not : (i j : ℕ) → (i ≡ j) ⊎ (i ≡ j → ⊥)
same_or_not i j = by (eqb_tells i j)
  where
    by : ((nat_eq i j ≡ true) × (i ≡ j)) ⊎ ((nat_eq i j ≡ false) × (i ≡ j → ⊥)) → (i ≡ j) ⊎ (i ≡ j → ⊥)
    by (inl x) = inl x.1
    by (inr x) = inr x.1

one_task : {t u : Task} → Some (Some t) ≡ Some (Some u) → t ≡ u
one_task e = cc

-- one process has one task
pub task_once : (tasks : Tasks) (i : ℕ) {t u : Task} → HasTask tasks i t → HasTask tasks i u → t ≡ u
task_once tasks i e f = one_task (sym e ∙ f)

-- the task of a process after that of one is set
pub set_back : (tasks : Tasks) (i j : ℕ) {b t u : Task} → HasTask tasks i b → HasTask (slice_set tasks i (Some u)) j t → ((j ≡ i) × (t ≡ u)) ⊎ ((j ≡ i → ⊥) × HasTask tasks j t)
set_back tasks i j {b = b} {t = t} {u = u} e f = by (same_or_not j i)
  where
    by : (j ≡ i) ⊎ (j ≡ i → ⊥) → ((j ≡ i) × (t ≡ u)) ⊎ ((j ≡ i → ⊥) × HasTask tasks j t)
    by (inl q) = inl (q, one_task (sym f ∙ ap (slice_get (slice_set tasks i (Some u))) q ∙ set_same tasks i (Some b) (Some u) e))
    by (inr n) = inr (n, sym (set_other tasks i j (Some u) n) ∙ f)

-- ---- who is ready

pub record ReadyAt (from n : ℕ) (tasks : Tasks) : Type 0 where
  pub place : ℕ
  pub task : Task
  pub is : n ≡ from + place
  pub there : HasTask tasks place task
  pub may : IsTrue (may_go task.wait)

ready_step : (from n : ℕ) (t : Option Task) (ts : Tasks) → ReadyAt (from + 1) n ts → ReadyAt from n (t ∷ ts)
ready_step from n t ts r = let e = r.is in record { place = suc r.place; task = r.task; is = omega (arith, e); there = r.there; may = r.may }

pub ready_at : (from : ℕ) (tasks : Tasks) (i n : ℕ) → slice_get (ready_from from tasks) i ≡ Some n → ReadyAt from n tasks
ready_at from [] i n e = absurd cc
ready_at from (t ∷ ts) i n e = by t (goes t) refl i e (λ j f. ready_step from n t ts (ready_at (from + 1) ts j n f))
  where
    this : (t : Option Task) → goes t ≡ true → from ≡ n → ReadyAt from n (t ∷ ts)
    this None g e = absurd (true≢false (sym g))
    this (Some t) g e = record { place = 0; task = t; is = omega (arith, e); there = refl; may = g }

    by : (t : Option Task) (b : Bool) → goes t ≡ b → (i : ℕ) → slice_get (if b then from ∷ ready_from (from + 1) ts else ready_from (from + 1) ts) i ≡ Some n → ((j : ℕ) → slice_get (ready_from (from + 1) ts) j ≡ Some n → ReadyAt from n (t ∷ ts)) → ReadyAt from n (t ∷ ts)
    by t true g zero e r = this t g cc
    by t true g (suc i) e r = r i e
    by t false g i e r = r i e

pub record ReadyPlace (n : ℕ) (ready : List ℕ) : Type 0 where
  pub place : ℕ
  pub is : slice_get ready place ≡ Some n

-- a task that may go is one of those that are ready
pub ready_place : (from : ℕ) (tasks : Tasks) (n : ℕ) (t : Task) → HasTask tasks n t → IsTrue (may_go t.wait) → ReadyPlace (from + n) (ready_from from tasks)
ready_place from [] n t h g = absurd cc
ready_place from (x ∷ ts) zero t h g =
    let same : x ≡ Some t = cc in
    let number : from ≡ from + zero = omega arith in
    subst (λ b. ReadyPlace (from + zero) (if b then from ∷ ready_from (from + 1) ts else ready_from (from + 1) ts)) (sym (ap goes same ∙ g)) (record { place = 0; is = ap Some number })
ready_place from (x ∷ ts) (suc n) t h g =
    let number : from + 1 + n ≡ from + suc n = omega arith in
    by (goes x) (subst (λ i. ReadyPlace i (ready_from (from + 1) ts)) number (ready_place (from + 1) ts n t h g))
  where
    by : (b : Bool) → ReadyPlace (from + suc n) (ready_from (from + 1) ts) → ReadyPlace (from + suc n) (if b then from ∷ ready_from (from + 1) ts else ready_from (from + 1) ts)
    by true r = record { place = suc r.place; is = r.is }
    by false r = r

-- where nobody is ready, no task may go
pub none_ready : (from : ℕ) (tasks : Tasks) → ready_from from tasks ≡ [] → (i : ℕ) (t : Task) → HasTask tasks i t → IsTrue (may_go t.wait) → ⊥
none_ready from [] e i t h g = absurd cc
none_ready from (x ∷ xs) e i t h g = by (goes x) refl e i h (none_ready (from + 1) xs)
  where
    goes_none : (b : Bool) → (if b then from ∷ ready_from (from + 1) xs else ready_from (from + 1) xs) ≡ [] → b ≡ false
    goes_none true e = absurd cc
    goes_none false e = refl

    by : (b : Bool) → goes x ≡ b → (if b then from ∷ ready_from (from + 1) xs else ready_from (from + 1) xs) ≡ [] → (i : ℕ) → HasTask (x ∷ xs) i t → (ready_from (from + 1) xs ≡ [] → (i : ℕ) (t : Task) → HasTask xs i t → IsTrue (may_go t.wait) → ⊥) → ⊥
    by true q e i h r = absurd cc
    by false q e zero h r = let same : x ≡ Some t = cc in true≢false (sym g ∙ sym (ap goes same) ∙ q)
    by false q e (suc i) h r = r e i t h g

-- ---- offers

pub record OffersOn (tasks : Tasks) (c : ℕ) : Type 0 where
  pub number : ℕ
  pub task : Task
  pub there : HasTask tasks number task
  pub offers : IsTrue (offers_on task.wait c)

pub or_else : (a b : Bool) → IsTrue (a || b) → IsTrue a ⊎ IsTrue b
or_else true b h = inl refl
or_else false b h = inr h

offers_step : (t : Option Task) (ts : Tasks) (c : ℕ) → OffersOn ts c → OffersOn (t ∷ ts) c
offers_step t ts c o = record { number = suc o.number; task = o.task; there = o.there; offers = o.offers }

pub offers_found : (tasks : Tasks) (c : ℕ) → IsTrue (offers_among tasks c) → OffersOn tasks c
offers_found [] c h = absurd (true≢false (sym h))
offers_found (None ∷ ts) c h = offers_step None ts c (offers_found ts c h)
offers_found (Some t ∷ ts) c h = by (or_else (offers_on t.wait c) (offers_among ts c) h) (λ k. offers_step (Some t) ts c (offers_found ts c k))
  where
    by : IsTrue (offers_on t.wait c) ⊎ IsTrue (offers_among ts c) → (IsTrue (offers_among ts c) → OffersOn (Some t ∷ ts) c) → OffersOn (Some t ∷ ts) c
    by (inl x) r = record { number = 0; task = t; there = refl; offers = x }
    by (inr x) r = r x

pub or_first : (a b : Bool) → IsTrue a → IsTrue (a || b)
or_first true b h = refl
or_first false b h = absurd (true≢false (sym h))

pub or_second : (a b : Bool) → IsTrue b → IsTrue (a || b)
or_second true b h = refl
or_second false b h = h

pub offers_there : (tasks : Tasks) (c i : ℕ) (t : Task) → HasTask tasks i t → IsTrue (offers_on t.wait c) → IsTrue (offers_among tasks c)
offers_there [] c i t h o = absurd cc
offers_there (None ∷ ts) c zero t h o = absurd cc
offers_there (None ∷ ts) c (suc i) t h o = offers_there ts c i t h o
offers_there (Some u ∷ ts) c zero t h o = let same : u ≡ t = one_task h in or_first (offers_on u.wait c) (offers_among ts c) (subst (λ z. IsTrue (offers_on z.wait c)) (sym same) o)
offers_there (Some u ∷ ts) c (suc i) t h o = or_second (offers_on u.wait c) (offers_among ts c) (offers_there ts c i t h o)

-- ---- the rule

module _ {A : Type 0} (channel : A → Option ℕ) (offers : ℕ → Bool) where
  pub none_among : (arms : List A) → NoneReady channel offers arms → ready_among channel offers arms ≡ []
  none_among [] h = refl
  none_among (a ∷ arms) h = ap (λ b. if b then a ∷ ready_among channel offers arms else ready_among channel offers arms) h.0 ∙ none_among arms h.1

  get_none : {X : Type 0} (i : ℕ) (x : X) → slice_get [] i ≡ Some x → ⊥
  get_none i x e = cc

  -- where none is ready, none is chosen
  pub none_chosen : (pri : Bool) (pick : ℕ) (arms : List A) (a : A) → NoneReady channel offers arms → chosen_of channel pri pick offers arms ≡ Some a → ⊥
  none_chosen pri pick arms a h e =
      get_none (if pri then 0 else pick % length (ready_among channel offers arms)) a (ap (λ xs. slice_get xs (if pri then 0 else pick % length (ready_among channel offers arms))) (sym (none_among arms h)) ∙ e)

  ready_is : (arms : List A) (i : ℕ) (a : A) → slice_get (ready_among channel offers arms) i ≡ Some a → IsTrue (is_ready_on offers (channel a))
  ready_is [] i a e = absurd (get_none i a e)
  ready_is (x ∷ arms) i a e = by (is_ready_on offers (channel x)) refl i e (ready_is arms)
    where
      by : (b : Bool) → is_ready_on offers (channel x) ≡ b → (i : ℕ) → slice_get (if b then x ∷ ready_among channel offers arms else ready_among channel offers arms) i ≡ Some a → ((i : ℕ) (a : A) → slice_get (ready_among channel offers arms) i ≡ Some a → IsTrue (is_ready_on offers (channel a))) → IsTrue (is_ready_on offers (channel a))
      by true q zero e r = let same : x ≡ a = cc in subst (λ z. IsTrue (is_ready_on offers (channel z))) same q
      by true q (suc i) e r = r i a e
      by false q i e r = r i a e

  pub chosen_ready : (pri : Bool) (pick : ℕ) (arms : List A) (a : A) → chosen_of channel pri pick offers arms ≡ Some a → IsTrue (is_ready_on offers (channel a))
  chosen_ready pri pick arms a e = ready_is arms _ a e

-- what is chosen is one of the arms: where none was ready by other offers, it was not ready by them
module _ {A : Type 0} (channel : A → Option ℕ) (offers others : ℕ → Bool) where
  unready_is : (arms : List A) (i : ℕ) (a : A) → NoneReady channel others arms → slice_get (ready_among channel offers arms) i ≡ Some a → is_ready_on others (channel a) ≡ false
  unready_is [] i a h e = absurd (get_none channel offers i a e)
  unready_is (x ∷ arms) i a h e = by (is_ready_on offers (channel x)) i e (λ j f. unready_is arms j a h.1 f)
    where
      by : (b : Bool) (i : ℕ) → slice_get (if b then x ∷ ready_among channel offers arms else ready_among channel offers arms) i ≡ Some a → ((i : ℕ) → slice_get (ready_among channel offers arms) i ≡ Some a → is_ready_on others (channel a) ≡ false) → is_ready_on others (channel a) ≡ false
      by true zero e r = let same : x ≡ a = cc in subst (λ z. is_ready_on others (channel z) ≡ false) same h.0
      by true (suc i) e r = r i e
      by false i e r = r i e

  pub chosen_unready : (pri : Bool) (pick : ℕ) (arms : List A) (a : A) → NoneReady channel others arms → chosen_of channel pri pick offers arms ≡ Some a → is_ready_on others (channel a) ≡ false
  chosen_unready pri pick arms a h e = unready_is arms _ a h e

module _ {A : Type 0} (channel : A → Option ℕ) (offers : ℕ → Bool) where
  pub record Chosen (pri : Bool) (pick : ℕ) (arms : List A) : Type 0 where
    pub arm : A
    pub is : chosen_of channel pri pick offers arms ≡ Some arm
    pub ready : IsTrue (is_ready_on offers (channel arm))

  get_within : {X : Type 0} (xs : List X) (i : ℕ) → i < length xs → (x : X) × (slice_get xs i ≡ Some x)
  get_within [] i h = absurd (omega (arith, h))
  get_within (x ∷ xs) zero h = (x, refl)
  get_within (x ∷ xs) (suc i) h = get_within xs i (omega (arith, h))

  chosen_from : (pri : Bool) (pick : ℕ) (arms xs : List A) → ready_among channel offers arms ≡ xs → ((xs ≡ []) ⊎ ((a : A) × (slice_get xs (if pri then 0 else pick % length xs) ≡ Some a)))
  chosen_from pri pick arms [] e = inl refl
  chosen_from true pick arms (x ∷ xs) e = inr (x, refl)
  chosen_from false pick arms (x ∷ xs) e = inr (get_within (x ∷ xs) (pick % length (x ∷ xs)) (mod_below pick (length (x ∷ xs)) (omega arith)))

  none_is : (arms : List A) → ready_among channel offers arms ≡ [] → NoneReady channel offers arms
  none_is [] e = tt
  none_is (x ∷ arms) e = by (is_ready_on offers (channel x)) refl e (none_is arms)
    where
      by : (b : Bool) → is_ready_on offers (channel x) ≡ b → (if b then x ∷ ready_among channel offers arms else ready_among channel offers arms) ≡ [] → (ready_among channel offers arms ≡ [] → NoneReady channel offers arms) → NoneReady channel offers (x ∷ arms)
      by true q e r = absurd cc
      by false q e r = (q, r e)

  -- one is chosen, or none is ready
  pub chosen_or_none : (pri : Bool) (pick : ℕ) (arms : List A) → NoneReady channel offers arms ⊎ Chosen pri pick arms
  chosen_or_none pri pick arms = by (chosen_from pri pick arms (ready_among channel offers arms) refl)
    where
      by : (ready_among channel offers arms ≡ []) ⊎ ((a : A) × (slice_get (ready_among channel offers arms) (if pri then 0 else pick % length (ready_among channel offers arms)) ≡ Some a)) → NoneReady channel offers arms ⊎ Chosen pri pick arms
      by (inl e) = inl (none_is arms e)
      by (inr (a, e)) = inr (record { arm = a; is = e; ready = ready_is channel offers arms _ a e })
