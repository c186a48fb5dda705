-- The rule of ready arms by one offer or by tables, and what takes a message.
use Rattle.std.proofs.Common.{◌≡◌, ◌∙◌, refl, sym, ap, subst, Bool, true, false, IsTrue, ℕ, zero, suc, ◌<◌, ◌≤◌, ◌%◌, ◌⊎◌, inl, inr, List, [], ◌∷◌, Option, Some, None, get_or, length, drop, ltb-true, ltb-false, arith}
use Rattle.std.specs.Prelude.{slice_get, if◌then◌else◌, nat_eq, nat_lt, ◌||◌}
use Rattle.std.proofs.lemmas.Bool.{eqb-true, eq-eqb}
use Rattle.std.proofs.lemmas.Option.{get_or_from_slice_get}
use mathlib.Core.Bool.{true≢false}
use Rattle.occ_term.specs.declared.message.Message.{Message}
use Rattle.occ_term.specs.Selecting.{is_ready_on, ready_among}
use Rattle.occ_term.specs.declared.communication.End.TheVariants.{Process as OfProcess}
use Rattle.occ_term.specs.System.{has_byte}
use Rattle.occ_machine.specs.declared.task.Arm.{Arm}
use Rattle.occ_machine.specs.declared.task.Task.{Task}
use Rattle.occ_machine.specs.declared.task.Wait.{Wait}
use Rattle.occ_machine.specs.declared.task.Wait.TheVariants as W
use Rattle.occ_net_replay.specs.Moments.{NoneReady}
use Rattle.occ_net_replay.specs.Replay.{Net, HasTask, Gets, task_gets, arm_gets, arm_chosen, one_more, took_arm, with_task}
use Rattle.occ_net_replay.specs.Waiting.{listens_on}
use Rattle.occ_net_replay.proofs.Arms.{held_ready}
use Rattle.occ_net_replay.proofs.Tables.{Chosen, chosen_or_none, chosen_unready, or_else}
use Rattle.occ_net_tables.specs.Choosing.{TakesBy, by_input, by_choice, input_arm, is_entry, is_same_number, keyboard_at, offered_by}
use Rattle.occ_net_tables.specs.Settling.{TakesAlone}
use Rattle.occ_net_tables.specs.Keys.{entry_in}
use Rattle.occ_net_tables.proofs.OneChange.{get_some}

-- ---- the ready arm that was looked for

read_at : {X : Type 0} (xs : List X) (i : ℕ) (x : X) → i < length xs → x ≡ get_or xs i x → slice_get xs i ≡ Some x
read_at xs i x h e = let y = get_some xs i h in y.1 ∙ ap Some (sym (e ∙ get_or_from_slice_get xs i y.0 x y.1))

drop_there : {X : Type 0} (xs : List X) (i : ℕ) (x : X) → slice_get xs i ≡ Some x → drop i xs ≡ x ∷ drop (suc i) xs
drop_there [] zero x e = absurd cc
drop_there [] (suc i) x e = absurd cc
drop_there (y ∷ xs) zero x e = let same : y ≡ x = cc in ap (λ z. z ∷ xs) same
drop_there (y ∷ xs) (suc i) x e = drop_there xs i x e

pub found_at : (offers : ℕ → Bool) (arms : List Arm) (i left : ℕ) (a : Arm) (r : Option Arm) → i < length arms → a ≡ get_or arms i a → is_ready_on offers a.chan ≡ true → left ≡ 0 → slice_get (ready_among (λ (x : Arm). x.chan) offers (drop i arms)) left ≡ r → slice_get arms i ≡ r
found_at offers arms i left a r h e ready none rest =
    let at = read_at arms i a h e in
    let xs = drop (suc i) arms in
    let others = ready_among (λ (x : Arm). x.chan) offers xs in
    at ∙ sym (ap (λ l. slice_get (ready_among (λ (x : Arm). x.chan) offers l) left) (drop_there arms i a at) ∙ ap (λ b. slice_get (if b then a ∷ others else others) left) ready ∙ ap (slice_get (a ∷ others)) none) ∙ rest

pub chosen_ready_same : (f g : ℕ → Bool) → ((c : ℕ) → f c ≡ g c) → (arms : List Arm) → ready_among (λ (a : Arm). a.chan) f arms ≡ ready_among (λ (a : Arm). a.chan) g arms
chosen_ready_same f g h [] = refl
chosen_ready_same f g h (a ∷ arms) =
    ap (λ xs. if is_ready_on f a.chan then a ∷ xs else xs) (chosen_ready_same f g h arms)
    ∙ ap (λ b. if b then a ∷ ready_among (λ (x : Arm). x.chan) g arms else ready_among (λ (x : Arm). x.chan) g arms) (on a.chan)
  where
    on : (x : Option ℕ) → is_ready_on f x ≡ is_ready_on g x
    on None = refl
    on (Some c) = h c

pub chosen_same : (f g : ℕ → Bool) → ((c : ℕ) → f c ≡ g c) → (pri : Bool) (pick : ℕ) (arms : List Arm) → arm_chosen pri pick f arms ≡ arm_chosen pri pick g arms
chosen_same f g h pri pick arms = ap (λ xs. slice_get xs (if pri then 0 else pick % length xs)) (chosen_ready_same f g h arms)

-- ---- one offer alone

nothing_in : (d : ℕ) → is_entry (entry_in [] d) ≡ false
nothing_in zero = refl
nothing_in (suc d) = refl

pub alone_is : (c d : ℕ) → offered_by (Some c) [] d ≡ nat_eq d c
alone_is c d = by (nat_eq d c)
  where
    by : (b : Bool) → (b || is_entry (entry_in [] d)) ≡ b
    by true = refl
    by false = nothing_in d

-- ---- who waits takes a message

pub record Takes (pick c : ℕ) (w : Wait) : Type 0 where
  pub arm : Arm
  pub takes : TakesAlone pick c w arm

-- a process that waits for a message on the channel takes it, where none of its arms was ready before
pub taking : (pick c : ℕ) (w : Wait) (old : ℕ → Bool) → ((pri : Bool) (arms : List Arm) → w ≡ W.Chooses pri arms → NoneReady (λ a. a.chan) old arms) → IsTrue (listens_on w c) → Takes pick c w
taking pick c W.Ready old n h = absurd (true≢false (sym h))
taking pick c (W.Took k is m) old n h = absurd (true≢false (sym h))
taking pick c (W.Offers d m) old n h = absurd (true≢false (sym h))
taking pick c (W.Awaits d) old n h = at (or_else (nat_eq d c) false h)
  where
    at : IsTrue (nat_eq d c) ⊎ IsTrue false → Takes pick c (W.Awaits d)
    at (inl q) = subst (λ z. Takes pick c (W.Awaits z)) (sym (eqb-true d c q)) (record { arm = input_arm c; takes = by_input })
    at (inr q) = absurd (true≢false (sym q))
taking pick c (W.Chooses pri arms) old n h = by (chosen_or_none (λ (a : Arm). a.chan) (offered_by (Some c) []) pri pick arms)
  where
    its : (a : Arm) (x : Option ℕ) → a.chan ≡ x → IsTrue (is_ready_on (offered_by (Some c) []) x) → is_ready_on old x ≡ false → arm_chosen pri pick (offered_by (Some c) []) arms ≡ Some a → Takes pick c (W.Chooses pri arms)
    its a None e r f s = absurd (true≢false f)
    its a (Some d) e r f s = let same : d ≡ c = eqb-true d c (sym (alone_is c d) ∙ r) in record { arm = a; takes = by_choice s (e ∙ ap Some same) }

    by : NoneReady (λ a. a.chan) (offered_by (Some c) []) arms ⊎ Chosen (λ (a : Arm). a.chan) (offered_by (Some c) []) pri pick arms → Takes pick c (W.Chooses pri arms)
    by (inl x) = absurd (held_ready (offered_by (Some c) []) arms c h (alone_is c c ∙ eq-eqb c c refl) x)
    by (inr x) = its x.arm x.arm.chan refl x.ready (chosen_unready (λ (a : Arm). a.chan) (offered_by (Some c) []) old pri pick arms x.arm (n pri arms refl) x.is) x.is
taking pick c (W.Joins ns) old n h = absurd (true≢false (sym h))
taking pick c W.Halted old n h = absurd (true≢false (sym h))
taking pick c W.Done old n h = absurd (true≢false (sym h))
taking pick c (W.Faulted e) old n h = absurd (true≢false (sym h))

pub takes_as : (pick c : ℕ) (f g : ℕ → Bool) (w : Wait) (a : Arm) → ((pri : Bool) (arms : List Arm) → w ≡ W.Chooses pri arms → arm_chosen pri pick f arms ≡ arm_chosen pri pick g arms) → TakesBy pick f c w a → TakesBy pick g c w a
takes_as pick c f g w a h by_input = by_input
takes_as pick c f g w a h (by_choice {pri = pri} {arms = arms} e q) = by_choice (sym (h pri arms refl) ∙ e) q

pub gets_by : (pick c : ℕ) (offers : ℕ → Bool) (m : Message) (net : Net) (n : ℕ) (t : Task) (w : Wait) (a : Arm) → HasTask net.tasks n t → t.wait ≡ w → TakesBy pick offers c w a → Gets pick offers c m (OfProcess n) net (record (with_task net n (took_arm t a (Some m))) { input = one_more net.input c m })
gets_by pick c offers m net n t w a h e by_input = task_gets h e
gets_by pick c offers m net n t w a h e (by_choice x q) = arm_gets h e x q

-- ---- the keyboard's channel

pub past : (kb : List ℕ) (n : ℕ) → length kb ≤ n → drop n kb ≡ []
past [] zero h = refl
past [] (suc n) h = refl
past (x ∷ kb) zero h = absurd (omega (arith, h))
past (x ∷ kb) (suc n) h = past kb n (omega (arith, h))

pub there : (kb : List ℕ) (n : ℕ) → n < length kb → (b : ℕ) × (rest : List ℕ) × (drop n kb ≡ b ∷ rest)
there [] n h = absurd (omega (arith, h))
there (x ∷ kb) zero h = (x, kb, refl)
there (x ∷ kb) (suc n) h = there kb n (omega (arith, h))

pub byte_named : (kb : List ℕ) (used c : ℕ) → has_byte (drop used kb) c ≡ is_same_number (keyboard_at kb used) c
byte_named kb used c = by (nat_lt used (length kb)) refl
  where
    by : (b : Bool) → nat_lt used (length kb) ≡ b → has_byte (drop used kb) c ≡ is_same_number (if b then Some 0 else None) c
    by true e = let x = there kb used (ltb-true used (length kb) e) in ap (λ k. has_byte k c) x.2
    by false e = ap (λ k. has_byte k c) (past kb used (ltb-false used (length kb) e))

-- ---- what a contract says of the arm that is taken

pub chosen_where : (pri : Bool) (pick : ℕ) (n m : Option ℕ) (table other : List (Option ℕ)) (arms list : List Arm) (r : Option Arm) → r ≡ arm_chosen pri pick (offered_by n table) arms → n ≡ m → table ≡ other → arms ≡ list → arm_chosen pri pick (offered_by m other) list ≡ r
chosen_where pri pick n m table other arms list r e a b d =
    sym (e ∙ ap (λ z. arm_chosen pri pick (offered_by z table) arms) a ∙ ap (λ z. arm_chosen pri pick (offered_by m z) arms) b ∙ ap (λ z. arm_chosen pri pick (offered_by m other) z) d)

pub input_of : {pick c : ℕ} {f : ℕ → Bool} {w : Wait} {a : Arm} (d : ℕ) → TakesBy pick f c w a → w ≡ W.Awaits d → a ≡ input_arm d
input_of d by_input e = let same : _ ≡ d = cc in ap input_arm same
input_of d (by_choice x y) e = absurd cc

pub same_channel : {pick c : ℕ} {f : ℕ → Bool} {w : Wait} {a : Arm} (d : ℕ) → TakesBy pick f c w a → w ≡ W.Awaits d → w ≡ W.Awaits c
same_channel d by_input e = refl
same_channel d (by_choice x y) e = absurd cc

pub choice_of : {pick c : ℕ} {f : ℕ → Bool} {w : Wait} {a : Arm} (pri : Bool) (arms : List Arm) → TakesBy pick f c w a → w ≡ W.Chooses pri arms → arm_chosen pri pick f arms ≡ Some a
choice_of pri arms by_input e = absurd cc
choice_of {pick = pick} {f = f} pri arms (by_choice {pri = b} {arms = xs} x y) e =
    let same : pri ≡ b = cc in
    let list : arms ≡ xs = cc in
    ap (λ z. arm_chosen z pick f arms) same ∙ ap (λ z. arm_chosen b pick f z) list ∙ x

pub no_other : {pick c : ℕ} {f : ℕ → Bool} {w : Wait} {a : Arm} → TakesBy pick f c w a → ((d : ℕ) → w ≡ W.Awaits d → ⊥) → ((pri : Bool) (arms : List Arm) → w ≡ W.Chooses pri arms → ⊥) → ⊥
no_other (by_input) g h = g _ refl
no_other (by_choice x y) g h = h _ _ refl
