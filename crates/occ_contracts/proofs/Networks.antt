-- What two equal networks answer and become.
use Rattle.std.proofs.Common.{◌≡◌, ◌∙◌, refl, sym, ap, subst, arith, Bool, true, false, ℕ, zero, suc, ◌+◌, ◌<◌, ◌≤◌, List, [], ◌∷◌, ◌++◌, Option, Some, None, Result, Ok, Err, OnOk, IfOk, IfErr, IfSome, IfNone, IsSome, length}
use Rattle.std.specs.Arc.{arc_value}
use Rattle.std.specs.Borrow.{Bor}
use Rattle.std.specs.Option.{option_copied, option_map}
use Rattle.std.specs.Prelude.{◌↔◌, if◌then◌else◌, slice_get, slice_set}
use Rattle.occ_term.specs.declared.message.Message.{Message}
use Rattle.occ_machine.specs.Machine.{Body}
use Rattle.occ_machine.specs.declared.task.Task.{Task}
use Rattle.occ_net.specs.Histories.{IsHistory}
use Rattle.occ_net.specs.Leases.{Leases}
use Rattle.occ_net.specs.Networks.{InState, IsState, Past, with_out}
use Rattle.occ_net.specs.Outcomes.{IsReplayOf, Shows}
use Rattle.occ_net.specs.Settling.{HasSettled, RefusesTurn}
use Rattle.occ_net.specs.Stretches.{SettlesAll, after_turns}
use Rattle.occ_net.specs.declared.fault.NetFault.{NetFault}
use Rattle.occ_net.specs.declared.fault.NetFault.TheVariants.{Stale, Over, Memory}
use Rattle.occ_net.specs.declared.leasing.Lease.{Lease}
use Rattle.occ_net.specs.declared.outcome.Outcome.{Outcome}
use Rattle.occ_net_replay.specs.Following.{or_limit}
use Rattle.occ_net_replay.specs.Replay.{HasTask, Net, Tasks, ending_of, goes, ready_from, turns_at}
use Rattle.occ_net_tables.specs.declared.running.Outcome.{Outcome as Alone}
use Rattle.occ_proc.specs.Turns.{Taken}
use Rattle.occ_contracts.specs.Agreement.{Agree, BothGive}
use Rattle.occ_contracts.specs.Networks.{leased_of, told}

-- ---- a process stands at one place among the ready ones

from_on : (k : ℕ) (tasks : Tasks) (p n : ℕ) → slice_get (ready_from k tasks) p ≡ Some n → k ≤ n
from_on k [] p n h = absurd cc
from_on k (t ∷ ts) p n h = by (λ q. from_on (k + 1) ts q n) (goes t) p h
  where
    by : ((q : ℕ) → slice_get (ready_from (k + 1) ts) q ≡ Some n → k + 1 ≤ n) → (b : Bool) (p : ℕ) → slice_get (if b then k ∷ ready_from (k + 1) ts else ready_from (k + 1) ts) p ≡ Some n → k ≤ n
    by later true zero h = let q : k ≡ n = cc in omega (arith, q)
    by later true (suc p) h = let q = later p h in omega (arith, q)
    by later false p h = let q = later p h in omega (arith, q)

pub place_once : (k : ℕ) (tasks : Tasks) (p q n : ℕ) → slice_get (ready_from k tasks) p ≡ Some n → slice_get (ready_from k tasks) q ≡ Some n → p ≡ q
place_once k [] p q n h g = absurd cc
place_once k (t ∷ ts) p q n h g = by (λ a b. place_once (k + 1) ts a b n) (goes t) p q h g
  where
    by : ((a b : ℕ) → slice_get (ready_from (k + 1) ts) a ≡ Some n → slice_get (ready_from (k + 1) ts) b ≡ Some n → a ≡ b)
        → (b : Bool) (p q : ℕ) → slice_get (if b then k ∷ ready_from (k + 1) ts else ready_from (k + 1) ts) p ≡ Some n → slice_get (if b then k ∷ ready_from (k + 1) ts else ready_from (k + 1) ts) q ≡ Some n → p ≡ q
    by later true zero zero h g = refl
    by later true zero (suc q) h g = let a : k ≡ n = cc in let b = from_on (k + 1) ts q n g in absurd (omega (arith, a, b))
    by later true (suc p) zero h g = let a : k ≡ n = cc in let b = from_on (k + 1) ts p n h in absurd (omega (arith, a, b))
    by later true (suc p) (suc q) h g = ap suc (later p q h g)
    by later false p q h g = later p q h g

-- ---- a turn that is taken in

abbrev with_place : Past → ℕ → ℕ → ℕ → Past
with_place old place pick number = record old { choices = old.choices ++ record { which = place; pick = pick } ∷ []; out = slice_set old.out number false }

pub settled_once : (old : Past) (net : Net) (s : Taken) (pick : ℕ) (a b : Past) → HasSettled old net s pick a → HasSettled old net s pick b → a ≡ b
settled_once old net s pick a b x y =
    x.is ∙ ap (λ p. with_place old p pick s.before.number) (place_once 0 net.tasks x.place y.place s.before.number x.at y.at) ∙ sym y.is

module _ (m : Past) (net : Net) (s : Taken) where
  ran_out : (pick : ℕ) (b : Past) (e : NetFault) → RefusesTurn m net s e → HasSettled m net s pick b → e ≡ Memory
  ran_out pick b (Over ending) h g = let k = g.going in absurd cc
  ran_out pick b (Stale number turns) h g = absurd (h.1 g.own)
  ran_out pick b Memory h g = refl

  one_cause : (e f : NetFault) → RefusesTurn m net s e → RefusesTurn m net s f → e ≡ f
  one_cause Memory Memory h g = refl
  one_cause Memory (Over ending) h g = let k = h.0 in absurd cc
  one_cause Memory (Stale number turns) h g = absurd (g.1 h.1)
  one_cause (Over ending) Memory h g = let k = g.0 in absurd cc
  one_cause (Over ending) (Over other) h g = cc
  one_cause (Over ending) (Stale number turns) h g = let k = g.0 in absurd cc
  one_cause (Stale number turns) Memory h g = absurd (h.1 g.1)
  one_cause (Stale number turns) (Over ending) h g = let k = h.0 in absurd cc
  one_cause (Stale number turns) (Stale other count) h g =
      let same : number ≡ other = h.2 ∙ sym g.2 in
      let counts : turns ≡ count = h.3 ∙ ap (λ n. turns_at net.tasks n) same ∙ sym g.3 in
      cc (same, counts)

-- what is so of one turn that came in twice
abbrev Settling : Past → Past → Result (Unit {0}) (Taken × NetFault) → Result (Unit {0}) (Taken × NetFault) → Type 0
Settling a b r q = Agree (λ u. u) (λ e. e.1 ≡ Memory) r q × BothGive (λ _ _. a ≡ b) r q × IfErr r (λ e. IfErr q (λ f. e.1 ≡ f.1))

agree : (m : Past) (net : Net) (s : Taken) (pick : ℕ) (a b : Past) (r q : Result (Unit {0}) (Taken × NetFault))
    → OnOk r (HasSettled m net s pick a) → IfErr r (λ e. RefusesTurn m net s e.1) → OnOk q (HasSettled m net s pick b) → IfErr q (λ e. RefusesTurn m net s e.1) → Settling a b r q
agree m net s pick a b (Ok _) (Ok _) x u y v = (refl, settled_once m net s pick a b x y, tt)
agree m net s pick a b (Ok _) (Err e) x u y v = (ran_out m net s pick a e.1 v x, tt, tt)
agree m net s pick a b (Err e) (Ok _) x u y v = (ran_out m net s pick b e.1 u y, tt, tt)
agree m net s pick a b (Err e) (Err f) x u y v = (tt, tt, one_cause m net s e.1 f.1 u v)

ok_here : {E : Type 0} (m : Past) (net : Net) → IsState m net → (P : Net → Type 0) (r : Result (Unit {0}) E) → OnOk r (InState m P) → OnOk r (P net)
ok_here m net state P (Ok _) h = h net state
ok_here m net state P (Err _) h = tt

err_here : {X E : Type 0} (m : Past) (net : Net) → IsState m net → (P : E → Net → Type 0) (r : Result X E) → IfErr r (λ e. InState m (P e)) → IfErr r (λ e. P e net)
err_here m net state P (Ok _) h = tt
err_here m net state P (Err e) h = h net state

pub agree_on_turn : (m n : Past) (net : Net) → IsState m net → n ≡ m → (s t : Taken) → t ≡ s → (pick : ℕ) (a b : Past) (r q : Result (Unit {0}) (Taken × NetFault))
    → OnOk r (InState m (λ x. HasSettled m x s pick a)) → IfErr r (λ e. InState m (λ x. RefusesTurn m x s e.1))
    → OnOk q (InState n (λ x. HasSettled n x t pick b)) → IfErr q (λ e. InState n (λ x. RefusesTurn n x t e.1)) → Settling a b r q
agree_on_turn m n net state same s t turn pick a b r q x u y v =
    let taken : OnOk q (InState m (λ z. HasSettled m z s pick b)) = subst (λ w. OnOk q (InState m (λ z. HasSettled m z w pick b))) turn (subst (λ k. OnOk q (InState k (λ z. HasSettled k z t pick b))) same y) in
    let refused : IfErr q (λ e. InState m (λ z. RefusesTurn m z s e.1)) = subst (λ w. IfErr q (λ e. InState m (λ z. RefusesTurn m z w e.1))) turn (subst (λ k. IfErr q (λ e. InState k (λ z. RefusesTurn k z t e.1))) same v) in
    agree m net s pick a b r q
    (ok_here m net state (λ z. HasSettled m z s pick a) r x) (err_here m net state (λ e z. RefusesTurn m z s e.1) r u)
    (ok_here m net state (λ z. HasSettled m z s pick b) q taken) (err_here m net state (λ e z. RefusesTurn m z s e.1) q refused)

-- ---- turns that the caller knows to be the network's own

leased_alike : (l k : Lease) → arc_value l.body ≡ arc_value k.body → l.task ≡ k.task → leased_of l ≡ leased_of k
leased_alike l k body task = cc (body, task)

-- a turn that is spent leaves its body and the task before it
pub both_spent : {E F : Type 0} (s t : Taken) → t ≡ s → (r : Result Lease E) (q : Result Lease F)
    → IfOk r (λ l. (arc_value l.body ≡ s.body) × (l.task ≡ s.before)) → IfOk q (λ l. (arc_value l.body ≡ t.body) × (l.task ≡ t.before)) → BothGive (λ l k. leased_of l ≡ leased_of k) r q
both_spent s t same (Ok l) (Ok k) x y =
    leased_alike l k (x.0 ∙ ap (λ (w : Taken). w.body) (sym same) ∙ sym y.0) (x.1 ∙ ap (λ (w : Taken). w.before) (sym same) ∙ sym y.1)
both_spent s t same (Ok _) (Err _) x y = tt
both_spent s t same (Err _) q x y = tt

-- what both gave is so where it is so of what they left
module _ {X E F : Type 0} (m : Past) (net : Net) (state : IsState m net) (pick : ℕ) (s : Taken) where
  pub both_settled : (n : Past) → n ≡ m → (t : Taken) → t ≡ s → (a b : Past) (r : Result X E) (q : Result X F)
      → IfOk r (λ _. InState m (λ x. HasSettled m x s pick a)) → IfOk q (λ _. InState n (λ x. HasSettled n x t pick b)) → BothGive (λ _ _. a ≡ b) r q
  both_settled n same t turn a b (Ok _) (Ok _) x y =
      let there : InState m (λ z. HasSettled m z s pick b) = subst (λ w. InState m (λ z. HasSettled m z w pick b)) turn (subst (λ k. InState k (λ z. HasSettled k z t pick b)) same y) in
      settled_once m net s pick a b (x net state) (there net state)
  both_settled n same t turn a b (Ok _) (Err _) x y = tt
  both_settled n same t turn a b (Err _) (Ok _) x y = tt
  both_settled n same t turn a b (Err _) (Err _) x y = tt

row_once : (m : Past) (net : Net) → IsState m net → (number count pick : ℕ) → 0 < count → (a b : Past) → SettlesAll m number count pick a → SettlesAll m number count pick b → a ≡ b
row_once m net state number count pick some a b x y =
    x.is ∙ ap (λ p. after_turns m p pick number count) (place_once 0 net.tasks x.place y.place number (x.at 0 some net state) (y.at 0 some net state)) ∙ sym y.is

pub both_settled_all : {X E F : Type 0} (m n : Past) (net : Net) → IsState m net → n ≡ m → (number count pick : ℕ) → 0 < count → (a b : Past) (r : Result X E) (q : Result X F)
    → IfOk r (λ _. SettlesAll m number count pick a) → IfOk q (λ _. SettlesAll n number count pick b) → BothGive (λ _ _. a ≡ b) r q
both_settled_all m n net state same number count pick some a b (Ok _) (Ok _) x y = row_once m net state number count pick some a b x (subst (λ k. SettlesAll k number count pick b) same y)
both_settled_all m n net state same number count pick some a b (Ok _) (Err _) x y = tt
both_settled_all m n net state same number count pick some a b (Err _) (Ok _) x y = tt
both_settled_all m n net state same number count pick some a b (Err _) (Err _) x y = tt

-- the task that is spent is the network's own
pub both_own : {E F : Type 0} (m n : Past) (net : Net) → IsState m net → n ≡ m → (number : ℕ) (r : Result Task E) (q : Result Task F)
    → IfOk r (λ t. InState m (λ x. HasTask x.tasks number t)) → IfOk q (λ t. InState n (λ x. HasTask x.tasks number t)) → BothGive (λ t u. t ≡ u) r q
both_own m n net state same number (Ok t) (Ok u) x y =
    let there = y net (subst (λ k. IsState k net) (sym same) state) in
    let both : ◌≡◌ {A = Option (Option Task)} (Some (Some t)) (Some (Some u)) = sym (x net state) ∙ there in
    cc
both_own m n net state same number (Ok _) (Err _) x y = tt
both_own m n net state same number (Err _) q x y = tt

-- ---- leases

module _ (m : Past) (net : Net) where
  same_leases : (l k : Option Lease) (a b : Past) → Leases m net l a → Leases m net k b → (option_map leased_of l ≡ option_map leased_of k) × (a ≡ b)
  same_leases None None a b x y = (refl, x.1 ∙ sym y.1)
  same_leases None (Some k) a b x y = absurd (let e = sym x.0 ∙ y.is in cc)
  same_leases (Some l) None a b x y = absurd (let e = sym y.0 ∙ x.is in cc)
  same_leases (Some l) (Some k) a b x y =
      let both : ◌≡◌ {A = Option ℕ} (Some l.task.number) (Some k.task.number) = sym x.is ∙ y.is in
      let number : l.task.number ≡ k.task.number = cc in
      let bodies : ◌≡◌ {A = Option Body} (Some (arc_value l.body)) (Some (arc_value k.body)) = sym x.own.body ∙ ap (λ n. slice_get m.program.bodies n) number ∙ y.own.body in
      let tasks : ◌≡◌ {A = Option (Option Task)} (Some (Some l.task)) (Some (Some k.task)) = sym x.own.task ∙ ap (λ n. slice_get net.tasks n) number ∙ y.own.task in
      let body : arc_value l.body ≡ arc_value k.body = cc in
      let task : l.task ≡ k.task = cc in
      (ap (λ z. Some z) (leased_alike l k body task), x.out ∙ ap (λ n. with_out m n true) number ∙ sym y.out)

module _ {E : Type 0} (m n : Past) (net : Net) (state : IsState m net) (same : n ≡ m) where
  both_leased : (a b : Past) (r q : Result (Option Lease) E) → IfOk r (λ l. InState m (λ x. Leases m x l a)) → IfOk q (λ l. InState n (λ x. Leases n x l b)) → BothGive (λ l k. (option_map leased_of l ≡ option_map leased_of k) × (a ≡ b)) r q
  both_leased a b (Ok l) (Ok k) x y = same_leases m net l k a b (x net state) (subst (λ p. InState p (λ z. Leases p z k b)) same y net state)
  both_leased a b (Ok _) (Err _) x y = tt
  both_leased a b (Err _) (Ok _) x y = tt
  both_leased a b (Err _) (Err _) x y = tt

  pub same_leased : (a b : Past) (r q : Result (Option Lease) E) → IfOk r (λ l. InState m (λ x. Leases m x l a)) → IfOk q (λ l. InState n (λ x. Leases n x l b)) → BothGive (λ l k. option_map leased_of l ≡ option_map leased_of k) r q
  same_leased a b (Ok l) (Ok k) x y = (both_leased a b (Ok l) (Ok k) x y).0
  same_leased a b (Ok _) (Err _) x y = tt
  same_leased a b (Err _) (Ok _) x y = tt
  same_leased a b (Err _) (Err _) x y = tt

  pub same_left : (a b : Past) (r q : Result (Option Lease) E) → IfOk r (λ l. InState m (λ x. Leases m x l a)) → IfOk q (λ l. InState n (λ x. Leases n x l b)) → BothGive (λ _ _. a ≡ b) r q
  same_left a b (Ok l) (Ok k) x y = (both_leased a b (Ok l) (Ok k) x y).1
  same_left a b (Ok _) (Err _) x y = tt
  same_left a b (Err _) (Ok _) x y = tt
  same_left a b (Err _) (Err _) x y = tt

-- ---- what is read of a network

module _ (m n : Past) (net : Net) (state : IsState m net) (same : n ≡ m) where
  state_of_other : IsState n net
  state_of_other = subst (λ p. IsState p net) (sym same) state

  -- the task that is found, as the state has it
  pub same_lent : (given : Net → Option Task) (r q : Option (Bor Task)) → IfSome r (λ x. (w : Net) → IsState m w → given w ≡ Some x.now) → IfNone r ((w : Net) → IsState m w → given w ≡ None)
      → IfSome q (λ x. (w : Net) → IsState n w → given w ≡ Some x.now) → IfNone q ((w : Net) → IsState n w → given w ≡ None) → option_copied r ≡ option_copied q
  same_lent given None None x u y v = refl
  same_lent given None (Some b) x u y v = sym (u net state) ∙ y net state_of_other
  same_lent given (Some a) None x u y v = sym (x net state) ∙ v net state_of_other
  same_lent given (Some a) (Some b) x u y v = sym (x net state) ∙ y net state_of_other

  pub same_history : (chan : ℕ) (r q : Option (List Message)) → IfSome r (λ h. (w : Net) → IsState m w → IsHistory m.program w chan h) → IsSome r ↔ (chan < length m.program.channels)
      → IfSome q (λ h. (w : Net) → IsState n w → IsHistory n.program w chan h) → IsSome q ↔ (chan < length n.program.channels) → r ≡ q
  same_history chan None None x u y v = refl
  same_history chan None (Some h) x u y v = absurd (let there = u.1 (subst (λ (p : Past). chan < length p.program.channels) same (v.0 refl)) in cc)
  same_history chan (Some h) None x u y v = absurd (let there = v.1 (subst (λ (p : Past). chan < length p.program.channels) (sym same) (u.0 refl)) in cc)
  same_history chan (Some g) (Some h) x u y v =
      let here = x net state in
      let there = y net state_of_other in
      ap (λ l. Some l) (sym here.trace ∙ there.trace)

-- ---- what a network came to

module _ (m n : Past) (net : Net) (state : IsState m net) (same : n ≡ m) where
  shown_alike : (o p : Outcome) → o.network ≡ m → p.network ≡ m → o.choices.items ≡ m.choices → p.choices.items ≡ m.choices → Shows net o → Shows net p → told o ≡ told p
  shown_alike o p a b u v x y =
      let network : o.network ≡ p.network = a ∙ sym b in
      let choices : o.choices.items ≡ p.choices.items = u ∙ sym v in
      let ending : o.ending ≡ p.ending = x.ending ∙ ap (λ (k : Past). or_limit (ending_of k.program.errors net)) network ∙ sym y.ending in
      let screen : o.screen.items ≡ p.screen.items = x.screen ∙ sym y.screen in
      let error : o.error.items ≡ p.error.items = x.error ∙ sym y.error in
      cc (ending, choices, screen, error, network)

  pub came_to_same : (r q : Result Outcome (Past × NetFault))
      → IfOk r (λ o. o.network ≡ m) → IfOk r (λ o. o.choices.items ≡ m.choices) → IfOk r (λ o. InState m (λ x. Shows x o)) → IfErr r (λ e. (e.0 ≡ m) × (e.1 ≡ Memory))
      → IfOk q (λ o. o.network ≡ n) → IfOk q (λ o. o.choices.items ≡ n.choices) → IfOk q (λ o. InState n (λ x. Shows x o)) → IfErr q (λ e. (e.0 ≡ n) × (e.1 ≡ Memory)) → Agree told (λ e. e.1 ≡ Memory) r q
  came_to_same (Ok o) (Ok p) a u x e b v y f = shown_alike o p a (b ∙ same) u (v ∙ ap (λ (k : Past). k.choices) same) (x net state) (y net (subst (λ k. IsState k net) (sym same) state))
  came_to_same (Ok o) (Err _) a u x e b v y f = f.1
  came_to_same (Err _) (Ok p) a u x e b v y f = e.1
  came_to_same (Err _) (Err _) a u x e b v y f = tt

-- one thread's outcome of it
module _ (m n : Past) (net : Net) (state : IsState m net) (same : n ≡ m) where
  pub same_replay : (o p : Alone) → ((w : Net) → IsState m w → IsReplayOf m w o) → ((w : Net) → IsState n w → IsReplayOf n w p)
      → (o.ending ≡ p.ending) × (o.choices.items ≡ p.choices.items) × (o.trace ≡ p.trace)
  same_replay o p x y =
      let here = x net state in
      let there : IsReplayOf m net p = subst (λ k. IsReplayOf k net p) same (y net (subst (λ k. IsState k net) (sym same) state)) in
      (here.ending ∙ sym there.ending, here.choices ∙ sym there.choices, sym here.trace ∙ there.trace)
