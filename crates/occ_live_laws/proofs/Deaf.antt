-- Who is deaf to the keyboard, and which arm is taken with more bytes.
use Rattle.std.proofs.Common.{◌≡◌, ◌∙◌, refl, sym, ap, subst, Bool, true, false, IsTrue, IsFalse, ℕ, ◌%◌, ◌⊎◌, inl, inr, List, [], ◌∷◌, ◌++◌, Option, Some, None, length}
use Rattle.std.specs.Prelude.{slice_get, if◌then◌else◌, ◌||◌, nat_eq}
use Rattle.std.proofs.lemmas.Bool.{eq-eqb}
use Rattle.std.proofs.lemmas.Bool.Decides.{eqb_tells}
use mathlib.Core.Bool.{true≢false}
use Rattle.occ_term.specs.Frames.{is_held}
use Rattle.occ_term.specs.Selecting.{is_ready_on, ready_among}
use Rattle.occ_term.specs.System.{has_byte}
use Rattle.occ_machine.specs.declared.task.Arm.{Arm}
use Rattle.occ_machine.specs.declared.task.Wait.{Wait}
use Rattle.occ_machine.specs.declared.task.Wait.TheVariants as W
use Rattle.occ_net_replay.specs.Replay.{Tasks, arm_chosen, offers_among}
use Rattle.occ_net_replay.specs.Waiting.{and_channel, channels_of, listens_on}
use Rattle.occ_net_replay.proofs.Arms.{later_channel}
use Rattle.occ_net_replay.proofs.Tables.{or_first}
use Rattle.occ_live_laws.specs.Live.{IsDeaf, or_keyboard}

-- where two rules of offers agree on the channels of the arms, the same arms are ready
pub ready_same : (f g : ℕ → Bool) (arms : List Arm) → ((c : ℕ) → IsTrue (is_held (channels_of arms) c) → f c ≡ g c) → ready_among (λ (a : Arm). a.chan) f arms ≡ ready_among (λ (a : Arm). a.chan) g arms
ready_same f g [] h = refl
ready_same f g (a ∷ arms) h =
    ap (λ xs. if is_ready_on f a.chan then a ∷ xs else xs) (ready_same f g arms (λ c m. h c (later_channel a.chan (channels_of arms) c m)))
    ∙ ap (λ b. if b then a ∷ ready_among (λ (x : Arm). x.chan) g arms else ready_among (λ (x : Arm). x.chan) g arms) (on a.chan (λ c e. h c (here c e)))
  where
    on : (x : Option ℕ) → ((c : ℕ) → x ≡ Some c → f c ≡ g c) → is_ready_on f x ≡ is_ready_on g x
    on None k = refl
    on (Some c) k = k c refl

    here : (c : ℕ) → a.chan ≡ Some c → IsTrue (is_held (and_channel a.chan (channels_of arms)) c)
    here c e = subst (λ o. IsTrue (is_held (and_channel o (channels_of arms)) c)) (sym e) (or_first (nat_eq c c) (is_held (channels_of arms) c) (eq-eqb c c refl))

pub deaf_arms : (pick : ℕ) (offers : ℕ → Bool) (pri : Bool) (arms : List Arm) → IsFalse (is_held (channels_of arms) 0) → arm_chosen pri pick (or_keyboard offers) arms ≡ arm_chosen pri pick offers arms
deaf_arms pick offers pri arms h = ap (λ xs. slice_get xs (if pri then 0 else pick % length xs)) (ready_same (or_keyboard offers) offers arms at)
  where
    at : (c : ℕ) → IsTrue (is_held (channels_of arms) c) → or_keyboard offers c ≡ offers c
    at c m = by (eqb_tells c 0)
      where
        by : ((nat_eq c 0 ≡ true) × (c ≡ 0)) ⊎ ((nat_eq c 0 ≡ false) × (c ≡ 0 → ⊥)) → or_keyboard offers c ≡ offers c
        by (inl x) = absurd (true≢false (sym m ∙ ap (is_held (channels_of arms)) x.1 ∙ h))
        by (inr x) = ap (λ b. b || offers c) x.0

first_false : (a b : Bool) → IsFalse (a || b) → a ≡ false
first_false true b h = h
first_false false b h = refl

pub others_are_deaf : (pick : ℕ) (offers : ℕ → Bool) (w : Wait) → IsFalse (listens_on w 0) → IsDeaf pick offers w
others_are_deaf pick offers W.Ready h = tt
others_are_deaf pick offers (W.Took arm is m) h = tt
others_are_deaf pick offers (W.Offers c m) h = tt
others_are_deaf pick offers (W.Awaits c) h = first_false (nat_eq c 0) false h
others_are_deaf pick offers (W.Chooses pri arms) h = deaf_arms pick offers pri arms h
others_are_deaf pick offers (W.Joins ns) h = tt
others_are_deaf pick offers W.Halted h = tt
others_are_deaf pick offers W.Done h = tt
others_are_deaf pick offers (W.Faulted e) h = tt

-- the same arm with more bytes, where one is left or where a byte makes no difference
pub chosen_more : (tasks : Tasks) (kb more : List ℕ) (pri : Bool) (pick : ℕ) (arms : List Arm)
    → (kb ≡ [] → arm_chosen pri pick (or_keyboard (offers_among tasks)) arms ≡ arm_chosen pri pick (offers_among tasks) arms)
    → arm_chosen pri pick (λ c. has_byte (kb ++ more) c || offers_among tasks c) arms ≡ arm_chosen pri pick (λ c. has_byte kb c || offers_among tasks c) arms
chosen_more tasks [] [] pri pick arms h = refl
chosen_more tasks [] (b ∷ more) pri pick arms h = h refl
chosen_more tasks (b ∷ kb) more pri pick arms h = refl
